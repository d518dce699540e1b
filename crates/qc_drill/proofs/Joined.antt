-- Calls of a drill, one after the other.
use Rattle.std.proofs.Common.{◌≡◌, ◌≤◌, ℕ, List, [], ◌∷◌, ◌++◌, take, drop, length, leb, Bool, true, false, refl, sym, ap, ◌∙◌, subst, inl, inr, append-nil, append_assoc, take-append-drop, arith, length-take, Option, Some, None, IfSome}
use Rattle.std.proofs.lemmas.Bool.{leb-true, leb-false}
use Rattle.std.proofs.lemmas.List.{take_all}
use Rattle.qc_site.specs.declared.site.Site.{Ghosts}
use Rattle.qc_site.specs.Image.{Image}
use Rattle.qc_site.specs.Disk.{LeavesOnly}
use Rattle.qc_site.specs.Streams.{Appends, AppendsPart}
use Rattle.qc_site.proofs.Moments.{started, weaker, joined}
use Rattle.qc_machine.proofs.Images.{image-stays, stays-same, stays-joined, stands-here}
use Rattle.qc_machine.specs.History.{by_text}
use Rattle.qc_machine.specs.Sites.{IsSiteOf, Stays, LeavesOneOf}
use Rattle.qc_machine.specs.State.{State}
use Rattle.qc_hub.specs.declared.hub.Hub.{Hub}
use Rattle.qc_hub.specs.Calls.{IsReady}
use Rattle.qc_hub.specs.Stands.{IsHubOf}
use Rattle.qc_hub.proofs.Calling.{journal-certain, log-certain}
use Rattle.qc_drill.specs.Calls.{AnswersLines}
use Rattle.qc_drill.specs.Crash.{IsAround, IsAfterFront, LeavesFront, StandsAtNext, StopsBetween}
use Rattle.qc_drill.specs.Drill.{out_of_line, out_of_lines, after_lines}
use Rattle.qc_drill.specs.Fronts.{Wrote}
use Rattle.qc_drill.specs.Progress.{AnswersLine}
use Rattle.qc_drill.proofs.Lines.{front-none, out-append, after-append, after-behind, after-start, leaves-more, leaves-line, stops-more, stops-behind}

-- what is written

pub wrote-none : (contents : Option (List ℕ)) → Wrote [] contents contents
wrote-none contents = λ held is. is ∙ ap (λ (t : List ℕ). Some t) (sym (append-nil held))

pub wrote-empty : (text : List ℕ) (contents : Option (List ℕ)) → length text ≡ 0 → Wrote text contents contents
wrote-empty [] contents none = wrote-none contents
wrote-empty (b ∷ text) contents none = absurd (omega (arith, none))

pub wrote-joined : (a b : List ℕ) (first mid last : Option (List ℕ)) → Wrote a first mid → Wrote b mid last → Wrote (a ++ b) first last
wrote-joined a b first mid last x y = λ held is. y (held ++ a) (x held is) ∙ ap (λ (t : List ℕ). Some t) (append_assoc held a b)

pub wrote-all : (text : List ℕ) (before after : Option (List ℕ)) → IfSome before (Appends text after) → Wrote text before after
wrote-all text before after added = λ held is. subst (λ (c : Option (List ℕ)). IfSome c (Appends text after)) is added

pub record WrotePart (text : List ℕ) (before after : Option (List ℕ)) : Type 0 where
  pub count : ℕ
  pub wrote : Wrote (take count text) before after

pub wrote-part : (text : List ℕ) (before after : Option (List ℕ)) → IfSome before (AppendsPart text after) → WrotePart text before after
wrote-part text None after part = record { count = 0; wrote = λ held is. cc }
wrote-part text (Some held) after part = record { count = part.0; wrote = λ was is. let same : held ≡ was = cc in part.1 ∙ ap (λ (h : List ℕ). Some (h ++ take part.0 text)) same }

module _ {S : Type 0} (g : Ghosts S) where
  -- each image stands for the history of the state that a ready hub is in
  pub images-stand : (hub : Hub) (site : S) (s : State) (lines : List (List ℕ)) → IsReady g hub site → g.told → IsSiteOf (g.shown site) s → (c : Image) → g.may_leave site c → StandsAtNext s [] c
  images-stand hub site s lines ready told on c here =
      let sound = ready.stands.sound ready.no_fault in
      record { state = s; is = refl; stands = stands-here by_text (g.shown site) c s.history.facts (journal-certain g hub site sound told c here) (log-certain g hub site sound told c here) on.stands }

  -- all lines were answered
  pub all-stops : (hub : Hub) (site : S) (s : State) (lines : List (List ℕ)) → IsReady g hub site → g.told → IsSiteOf (g.shown site) (after_lines s lines) → StopsBetween s lines (out_of_lines s lines) (g.may_leave site)
  all-stops hub site s lines ready told on = record {
    answered = lines;
    rest = [];
    are = sym (append-nil lines);
    part = [];
    written = sym (append-nil (out_of_lines s lines));
    short = record { front = front-none []; short = inl refl };
    images = images-stand hub site (after_lines s lines) lines ready told on;
  }

  -- a call that answers no line
  pub no-line : (whole : Type 0) (hub new : Hub) (site : S) (contents : Option (List ℕ)) → ((c : Image) → g.told → g.left_since site (g.moment site) c → g.may_leave site c) → IsReady g hub site → ((s : State) → IsHubOf hub s → IsHubOf new s)
      → AnswersLines g [] whole hub site contents new site contents
  no-line whole hub new site contents now ready same = record {
    text = [];
    wrote = wrote-none contents;
    told = λ told s h on.
        let sound = ready.stands.sound ready.no_fault in
        record {
          done = λ w. record { replies = refl; is_in = same s h; on_site = on; others = stays-same (g.shown site) };
          stops = all-stops hub site s [] ready told on;
          any_moment = started g.moment g.left_since site _ (λ c left. image-stays (g.may_leave site) (g.shown site) s (IsAfterFront s []) on (journal-certain g hub site sound told) (log-certain g hub site sound told) (after-start s []) c (now c told left));
        };
  }

  -- one call behind another that answered all its lines
  pub lines-behind : (a b : List (List ℕ)) (first whole : Type 0) (hub mid new : Hub) (site between after : S) (contents half now : Option (List ℕ)) → ((site : S) (t : ℕ) (c : Image) → g.told → t ≤ g.moment site → g.may_leave site c → g.left_since site t c)
      → first → AnswersLines g a first hub site contents mid between half → AnswersLines g b whole mid between half new after now → AnswersLines g (a ++ b) whole hub site contents new after now
  lines-behind a b first whole hub mid new site between after contents half now counts all x y = record {
    text = x.text ++ y.text;
    wrote = wrote-joined x.text y.text contents half now x.wrote y.wrote;
    told = λ told s h on.
        let was = x.told told s h on in
        let done = was.done all in
        let t : State = after_lines s a in
        let then = y.told told t done.is_in done.on_site in
        let images = g.may_leave site in
        let out : x.text ++ y.text ≡ out_of_lines s a ++ y.text = ap (λ (t : List ℕ). t ++ y.text) done.replies in
        let from : (c : Image) → LeavesFront (g.may_leave between) t b c → LeavesFront images s (a ++ b) c = λ c left.
        let d = was.any_moment.each left.was (counts between (g.moment site) left.was told was.any_moment.later left.there) in
        record { was = d.was; there = d.there; others = stays-joined d.was left.was c d.others left.others; state = left.state; is = after-behind s left.state a b left.is; stands = left.stands } in
        record {
          done = λ w. let last = then.done w in record {
            replies = out ∙ ap (λ (t : List ℕ). out_of_lines s a ++ t) last.replies ∙ sym (out-append s a b);
            is_in = subst (IsHubOf new) (sym (after-append s a b)) last.is_in;
            on_site = subst (IsSiteOf (g.shown after)) (sym (after-append s a b)) last.on_site;
            others = stays-joined (g.shown site) (g.shown between) (g.shown after) done.others last.others;
          };
          stops = subst (λ (text : List ℕ). StopsBetween s (a ++ b) text (g.may_leave after)) (sym out) (stops-behind s a b y.text (g.may_leave after) then.stops);
          any_moment = joined g.moment g.left_since site between after (LeavesFront images s (a ++ b))
              (weaker g.moment g.left_since site between _ _ (leaves-more images s a b) was.any_moment)
              (weaker g.moment g.left_since between after _ _ from then.any_moment);
        };
  }

  -- a call that stopped among these lines stopped among more
  pub lines-more : (a b : List (List ℕ)) (whole other : Type 0) (hub new : Hub) (site after : S) (contents now : Option (List ℕ)) → (other → ⊥) → AnswersLines g a whole hub site contents new after now → AnswersLines g (a ++ b) other hub site contents new after now
  lines-more a b whole other hub new site after contents now never x = record {
    text = x.text;
    wrote = x.wrote;
    told = λ told s h on.
        let was = x.told told s h on in
        record {
          done = λ w. absurd (never w);
          stops = stops-more s a b x.text (g.may_leave after) was.stops;
          any_moment = weaker g.moment g.left_since site after _ _ (leaves-more (g.may_leave site) s a b) was.any_moment;
        };
  }

  -- the same call, which says more of its end, or less
  pub lines-other : (a : List (List ℕ)) (whole other : Type 0) (hub new last : Hub) (site after : S) (contents now : Option (List ℕ)) → (other → whole) → ((s : State) → IsHubOf new s → IsHubOf last s)
      → AnswersLines g a whole hub site contents new after now → AnswersLines g a other hub site contents last after now
  lines-other a whole other hub new last site after contents now less same x = record {
    text = x.text;
    wrote = x.wrote;
    told = λ told s h on.
        let was = x.told told s h on in
        record {
          done = λ w. let d = was.done (less w) in record { replies = d.replies; is_in = same (after_lines s a) d.is_in; on_site = d.on_site; others = d.others };
          stops = was.stops;
          any_moment = was.any_moment;
        };
  }

  -- one line

  around-next : (s : State) (line : List ℕ) (site after : S) → ((site : S) (t : ℕ) (c : Image) → g.told → t ≤ g.moment site → g.may_leave site c → g.left_since site t c) → g.told
      → LeavesOnly g.moment g.left_since site after (LeavesOneOf (g.may_leave site) (IsAround s line)) → (c : Image) → g.may_leave after c → StandsAtNext s (line ∷ []) c
  around-next s line site after counts told any c here =
      let left = any.each c (counts after (g.moment site) c told any.later here) in
      record { state = left.state; is = left.is; stands = left.stands }

  line-moment : (s : State) (line : List ℕ) (site after : S) → LeavesOnly g.moment g.left_since site after (LeavesOneOf (g.may_leave site) (IsAround s line)) → LeavesOnly g.moment g.left_since site after (LeavesFront (g.may_leave site) s (line ∷ []))
  line-moment s line site after any = weaker g.moment g.left_since site after _ _ (leaves-line (g.may_leave site) s line) any

  -- nothing was written for it
  pub line-unanswered : (line : List ℕ) (whole : Type 0) (hub new : Hub) (site after : S) (contents : Option (List ℕ)) → ((site : S) (t : ℕ) (c : Image) → g.told → t ≤ g.moment site → g.may_leave site c → g.left_since site t c) → (whole → ⊥)
      → (g.told → (s : State) → IsHubOf hub s → IsSiteOf (g.shown site) s → LeavesOnly g.moment g.left_since site after (LeavesOneOf (g.may_leave site) (IsAround s line))) → AnswersLines g (line ∷ []) whole hub site contents new after contents
  line-unanswered line whole hub new site after contents counts never any = record {
    text = [];
    wrote = wrote-none contents;
    told = λ told s h on. record {
      done = λ w. absurd (never w);
      stops = record {
        answered = [];
        rest = line ∷ [];
        are = refl;
        part = [];
        written = refl;
        short = record { front = front-none (out_of_line s line); short = inl refl };
        images = around-next s line site after counts told (any told s h on);
      };
      any_moment = line-moment s line site after (any told s h on);
    };
  }

  -- what a line that is answered leaves, but for its text
  pub record Gone (s : State) (line text : List ℕ) (site : S) (new : Hub) (after : S) : Type 0 where
    pub line_is : AnswersLine s line new (g.shown after) text
    pub others : Stays (g.shown site) (g.shown after)
    pub any_moment : LeavesOnly g.moment g.left_since site after (LeavesOneOf (g.may_leave site) (IsAround s line))

  out-one : (s : State) (line text : List ℕ) → text ≡ out_of_line s line → text ≡ out_of_lines s (line ∷ [])
  out-one s line text is = is ∙ sym (append-nil (out_of_line s line))

  -- its whole reply was written
  pub line-answered : (line text : List ℕ) (whole : Type 0) (hub new : Hub) (site after : S) (contents now : Option (List ℕ)) → IsReady g new after → Wrote text contents now
      → (g.told → (s : State) → IsHubOf hub s → IsSiteOf (g.shown site) s → Gone s line text site new after) → AnswersLines g (line ∷ []) whole hub site contents new after now
  line-answered line text whole hub new site after contents now ready wrote gone = record {
    text = text;
    wrote = wrote;
    told = λ told s h on.
        let step = gone told s h on in
        let out = out-one s line text step.line_is.replies in
        record {
          done = λ w. record { replies = out; is_in = step.line_is.is_in; on_site = step.line_is.on_site; others = step.others };
          stops = subst (λ (t : List ℕ). StopsBetween s (line ∷ []) t (g.may_leave after)) (sym out) (all-stops new after s (line ∷ []) ready told step.line_is.on_site);
          any_moment = line-moment s line site after step.any_moment;
        };
  }

  -- a part of it was written
  pub line-part : (line text : List ℕ) (whole : Type 0) (hub new : Hub) (site after : S) (contents now : Option (List ℕ)) → ((site : S) (t : ℕ) (c : Image) → g.told → t ≤ g.moment site → g.may_leave site c → g.left_since site t c) → IsReady g new after → (whole → ⊥) → WrotePart text contents now
      → (g.told → (s : State) → IsHubOf hub s → IsSiteOf (g.shown site) s → Gone s line text site new after) → AnswersLines g (line ∷ []) whole hub site contents new after now
  line-part line text whole hub new site after contents now counts ready never part gone = record {
    text = take part.count text;
    wrote = part.wrote;
    told = λ told s h on.
        let step = gone told s h on in
        record {
          done = λ w. absurd (never w);
          stops = by_count told s step (leb (length text) part.count) refl;
          any_moment = line-moment s line site after step.any_moment;
        };
  }
    where
      by_count : g.told → (s : State) → Gone s line text site new after → (b : Bool) → leb (length text) part.count ≡ b → StopsBetween s (line ∷ []) (take part.count text) (g.may_leave after)
      by_count told s step true e =
          let all : take part.count text ≡ out_of_lines s (line ∷ []) = take_all part.count text (leb-true (length text) part.count e) ∙ out-one s line text step.line_is.replies in
          subst (λ (t : List ℕ). StopsBetween s (line ∷ []) t (g.may_leave after)) (sym all) (all-stops new after s (line ∷ []) ready told step.line_is.on_site)
      by_count told s step false e = record {
        answered = [];
        rest = line ∷ [];
        are = refl;
        part = take part.count text;
        written = refl;
        short = record {
          front = record { rest = drop part.count text; is = sym step.line_is.replies ∙ sym (take-append-drop part.count text) };
          short = inr (omega (arith, length-take part.count text, leb-false (length text) part.count e, ap length step.line_is.replies));
        };
        images = around-next s line site after counts told step.any_moment;
      }
