-- A line that says an order, and its answer.
use Rattle.std.proofs.Common.{◌≡◌, ◌⊎◌, ◌≤◌, ◌<◌, ℕ, List, [], length, Bool, true, false, MatchBool, cond, refl, sym, ◌∙◌, ap, subst, inl, inr, ⊎_elim, Ok, Err}
use Rattle.std.specs.Prelude.{Result, Vec}
use Rattle.std.specs.declared.alloc.Global.{Global}
use Rattle.std.proofs.lemmas.Bool.{le-leb, lt-leb}
use Rattle.qc_protocol.specs.declared.order.Member.{Member}
use Rattle.qc_protocol.specs.declared.order.Order.{Order}
use Rattle.qc_protocol.specs.declared.reply.Refusal.{Refusal}
use Rattle.qc_protocol.specs.declared.reply.Refusal.TheVariants.{LineTooLong}
use Rattle.qc_protocol.specs.declared.reply.Reply.TheVariants.{Refused}
use Rattle.qc_protocol.specs.declared.reply.Reply.{Reply}
use Rattle.qc_protocol.specs.Texts.{is_blank, reply_text}
use Rattle.qc_orders.specs.Orders.{order_of}
use Rattle.qc_site.specs.declared.site.Site.{Ghosts}
use Rattle.qc_site.specs.Image.{Image}
use Rattle.qc_site.specs.Disk.{LeavesOnly}
use Rattle.qc_site.proofs.Moments.{started, weaker}
use Rattle.qc_machine.proofs.Images.{image-stays, one-of, stays-same}
use Rattle.qc_machine.specs.Sites.{IsSiteOf, LeavesOneOf}
use Rattle.qc_machine.specs.State.{State, at_moment}
use Rattle.qc_machine.specs.Steps.{Step, IsBetween}
use Rattle.qc_hub.specs.declared.error.HubError.{HubError}
use Rattle.qc_hub.specs.declared.error.HubError.TheVariants.{SiteFault, NoMemory}
use Rattle.qc_hub.specs.declared.hub.Hub.{Hub}
use Rattle.qc_hub.specs.Stands.{IsHubOf, StepsTo}
use Rattle.qc_hub.specs.Calls.{IsReady, StepsBy, TakesStep}
use Rattle.qc_hub.proofs.Calling.{answered, journal-certain, log-certain}
use Rattle.qc_hub.proofs.Later.{took-nothing}
use Rattle.qc_drill.specs.Drill.{read_as, asked, asked_at, asked_step, line_step, with_newline, out_of_line, after_line}
use Rattle.qc_drill.specs.Progress.{MayStand}
use Rattle.qc_drill.specs.Calls.{AnswersFrom}
use Rattle.qc_drill.specs.Crash.{IsAround}
use Rattle.qc_drill.proofs.Lines.{around-first}

-- what a line asks for

pub asked-short : (line : List ℕ) (r : Result Order Member) → length line ≤ 65536 → order_of line ≡ r → asked line ≡ read_as r
asked-short line r fits is = ap (λ (b : Bool). cond b (read_as (order_of line)) (Err LineTooLong)) (le-leb (length line) 65536 fits) ∙ ap read_as is

pub asked-long : (line : List ℕ) → 65536 < length line → asked line ≡ Err LineTooLong
asked-long line long = ap (λ (b : Bool). cond b (read_as (order_of line)) (Err LineTooLong)) (lt-leb (length line) 65536 long)

-- the states around a line that isn't blank

after-said : (s : State) (line : List ℕ) → is_blank line ≡ false → (line_step s line).state ≡ after_line s line
after-said s line said = ap by_test (sym said)
  where
    by_test : Bool → State
    by_test true = s
    by_test false = (line_step s line).state

out-said : (s : State) (line : List ℕ) → is_blank line ≡ false → with_newline (reply_text (line_step s line).reply) ≡ out_of_line s line
out-said s line said = ap by_test (sym said)
  where
    by_test : Bool → List ℕ
    by_test true = []
    by_test false = with_newline (reply_text (line_step s line).reply)

around-said : (s x : State) (line : List ℕ) → is_blank line ≡ false → IsBetween s (line_step s line) x → IsAround s line x
around-said s x line said is = subst (λ (b : Bool). MatchBool b (x ≡ s) (IsBetween s (line_step s line) x)) (sym said) is

-- a blank line

after-blank : (s : State) (line : List ℕ) → is_blank line ≡ true → s ≡ after_line s line
after-blank s line blank = ap by_test (sym blank)
  where
    by_test : Bool → State
    by_test true = s
    by_test false = (line_step s line).state

out-blank : (s : State) (line : List ℕ) → is_blank line ≡ true → [] ≡ out_of_line s line
out-blank s line blank = ap by_test (sym blank)
  where
    by_test : Bool → List ℕ
    by_test true = []
    by_test false = with_newline (reply_text (line_step s line).reply)

module _ {S : Type 0} (g : Ghosts S) where
  -- a line that is refused as a line
  pub refused-line : (line : List ℕ) (refusal : Refusal) (hub : Hub) (site : S) → ((c : Image) → g.told → g.left_since site (g.moment site) c → g.may_leave site c) → IsReady g hub site → asked line ≡ Err refusal
      → StepsBy g (asked_at (asked line)) (λ s. line_step s line) (Ok (Refused refusal)) hub site hub site
  refused-line line refusal hub site now ready is =
      answered g (asked_at (asked line)) (λ s. line_step s line) (Ok (Refused refusal)) hub hub site now ready (inl (took-nothing hub)) (λ e. cc)
      (λ told s h on. subst (λ (t : Step). StepsTo t hub (g.shown site) (Refused refusal)) (sym (ap (asked_step s) is)) (record { replies = refl; is_in = h; on_site = on }))

  -- a blank line is passed over
  pub blank-line : (s : State) (line : List ℕ) (v : Vec ℕ Global) (hub : Hub) (site : S) → ((c : Image) → g.left_since site (g.moment site) c → g.may_leave site c) → IsReady g hub site → g.told → IsHubOf hub s → IsSiteOf (g.shown site) s
      → is_blank line ≡ true → v.items ≡ [] → AnswersFrom g s line (Ok v) site hub site
  blank-line s line v hub site now ready told h on blank none =
      let sound = ready.stands.sound ready.no_fault in
      record {
        text = record {
          replies = none ∙ out-blank s line blank;
          is_in = subst (IsHubOf hub) (after-blank s line blank) h;
          on_site = subst (IsSiteOf (g.shown site)) (after-blank s line blank) on;
        };
        no_memory = λ e. absurd cc;
        others = λ fine. stays-same (g.shown site);
        any_moment = started g.moment g.left_since site _ (λ c left. image-stays (g.may_leave site) (g.shown site) s (IsAround s line) on (journal-certain g hub site sound told) (log-certain g hub site sound told) (around-first s s line refl) c (now c left));
      }

module _ {S : Type 0} (g : Ghosts S) (s : State) (line : List ℕ) (site : S) (new : Hub) (after : S) (said : is_blank line ≡ false) where
  around : (result : Result Reply HubError) → TakesStep g s (line_step s line) (asked_at (asked line)) result site new after → LeavesOnly g.moment g.left_since site after (LeavesOneOf (g.may_leave site) (IsAround s line))
  around result t = weaker g.moment g.left_since site after _ _ (one-of (g.may_leave site) (IsBetween s (line_step s line)) (IsAround s line) (λ x is. (x, around-said s x line said is, refl))) t.any_moment

  -- the reply to a line as its text
  pub line-told : (reply : Reply) (v : Vec ℕ Global) → v.items ≡ with_newline (reply_text reply) → TakesStep g s (line_step s line) (asked_at (asked line)) (Ok reply) site new after → AnswersFrom g s line (Ok v) site new after
  line-told reply v is t = record {
    text = record {
      replies = is ∙ ap (λ (r : Reply). with_newline (reply_text r)) t.answer.replies ∙ out-said s line said;
      is_in = subst (IsHubOf new) (after-said s line said) t.answer.is_in;
      on_site = subst (IsSiteOf (g.shown after)) (after-said s line said) t.answer.on_site;
    };
    no_memory = λ e. absurd cc;
    others = λ fine. t.others (λ e. absurd cc);
    any_moment = around (Ok reply) t;
  }

  -- a reply whose text finds no memory
  pub line-untold : (reply : Reply) → TakesStep g s (line_step s line) (asked_at (asked line)) (Ok reply) site new after → AnswersFrom g s line (Err NoMemory) site new after
  line-untold reply t = record {
    text = tt;
    no_memory = λ e. record { state = (line_step s line).state; is_in = t.answer.is_in; on_site = t.answer.on_site; by = inr (inr (after-said s line said)) };
    others = λ fine. t.others (λ e. absurd cc);
    any_moment = around (Ok reply) t;
  }

  -- a line without a reply
  pub line-failed : (e : HubError) → IsSiteOf (g.shown site) s → TakesStep g s (line_step s line) (asked_at (asked line)) (Err e) site new after → AnswersFrom g s line (Err e) site new after
  line-failed e on t = record {
    text = tt;
    no_memory = λ is. let same : e ≡ NoMemory = cc in let still = t.starved (ap (λ x. Err x) same) in stays-stand still.is_in still.same;
    others = λ fine. t.others (λ is. let same : e ≡ SiteFault = cc in fine (ap (λ x. Err x) same));
    any_moment = around (Err e) t;
  }
    where
      stays-stand : IsHubOf new s ⊎ IsHubOf new (at_moment (asked_at (asked line)) s) → g.shown after ≡ g.shown site → MayStand s line new (g.shown after)
      stays-stand is_in same =
          let here : IsSiteOf (g.shown after) s = subst (λ (i : Image). IsSiteOf i s) (sym same) on in
          ⊎_elim (λ h. record { state = s; is_in = h; on_site = here; by = inl refl })
          (λ h. record { state = at_moment (asked_at (asked line)) s; is_in = h; on_site = record { stands = here.stands; rows = here.rows; journal = here.journal; log = here.log }; by = inr (inl refl) }) is_in
