-- Batches of a move that are added one after another.
use Rattle.std.proofs.Common.{◌≡◌, ◌⊎◌, ◌∙◌, inl, inr, ⊎_elim, ℕ, ◌+◌, ◌<◌, ◌≤◌, max, List, [], ◌∷◌, ◌++◌, take, drop, take-append-drop, get_or, length, refl, sym, ap, subst, arith, Ok, Err, IfOk, OnOk, IsErrOf}
use Rattle.std.specs.declared.result.Result.{Result}
use Rattle.std.proofs.lemmas.List.{drop_more, take_more}
use Rattle.qc_base.specs.declared.fact.Fact.{Fact}
use Rattle.qc_protocol.specs.declared.reply.Reply.{Reply}
use Rattle.qc_protocol.specs.declared.reply.Reply.TheVariants.{Moved as ReplyMoved}
use Rattle.qc_site.specs.declared.site.Site.{Ghosts}
use Rattle.qc_site.specs.Image.{Image}
use Rattle.qc_site.proofs.Moments.{weaker, joined}
use Rattle.qc_machine.specs.Moving.{behind_each, moved_by, with_new_facts}
use Rattle.qc_machine.specs.Sites.{IsSiteOf, LeavesOneOf}
use Rattle.qc_machine.specs.State.{State, with_new_fact}
use Rattle.qc_machine.specs.Steps.{Step, Among, IsBetween, stays}
use Rattle.qc_machine.proofs.Batches.{facts-append, front-midst}
use Rattle.qc_machine.proofs.Images.{one-of, stays-joined}
use Rattle.qc_hub.specs.declared.error.HubError.{HubError}
use Rattle.qc_hub.specs.declared.error.HubError.TheVariants.{NoMemory}
use Rattle.qc_hub.specs.declared.hub.Hub.{Hub}
use Rattle.qc_hub.specs.Calls.{IsReady, StepsBy, TakesStep}
use Rattle.qc_hub.specs.Moving.{AreBatches, HasBatch, IsBatch}
use Rattle.qc_hub.specs.Stands.{IsHubOf, StepsTo}
use Rattle.qc_hub.proofs.AddedBatch.{batches-behind}
use Rattle.qc_hub.proofs.Calling.{left-ready, replied}
use Rattle.qc_hub.proofs.Later.{at-no-moment, since-set, state-of}

-- the states in the midst of the first batches are ones in the midst of all

front-among : (done left : List Fact) (s x : State) → Among (behind_each done s) x → Among (behind_each (done ++ left) s) x
front-among [] left s x a = absurd a
front-among (fact ∷ done) left s x a = ⊎_elim (λ (e : x ≡ with_new_fact fact s). inl e) (λ rest. inr (front-among done left (with_new_fact fact s) x rest)) a

next-among : (done left : List Fact) (fact : Fact) (s : State) → Among (behind_each (done ++ fact ∷ left) s) (with_new_fact fact (with_new_facts done s))
next-among [] left fact s = inl refl
next-among (first ∷ done) left fact s = inr (next-among done left fact (with_new_fact first s))

module _ (count : ℕ) (s : State) where
  abbrev of : List Fact → Step
  of facts = moved_by facts count s

  front-between : (done left : List Fact) → IsBetween s (of (done ++ left)) (with_new_facts done s)
  front-between [] left = inl refl
  front-between (fact ∷ done) left = inr (inl (front-midst (fact ∷ done) left s (omega arith)))

  is-front : (done left : List Fact) (x : State) → x ≡ with_new_facts done s → IsBetween s (of (done ++ left)) x
  is-front done left x e = subst (IsBetween s (of (done ++ left))) (sym e) (front-between done left)

  earlier : (done left : List Fact) (x : State) → IsBetween s (of done) x → IsBetween s (of (done ++ left)) x
  earlier done left x is = ⊎_elim (λ e. inl e) (λ more. ⊎_elim (λ a. inr (inl (front-among done left s x a))) (λ e. is-front done left x e) more) is

  next-between : (done left : List Fact) (fact : Fact) (x : State) → x ≡ with_new_fact fact (with_new_facts done s) → IsBetween s (of (done ++ fact ∷ left)) x
  next-between done left fact x e = inr (inl (subst (Among (behind_each (done ++ fact ∷ left) s)) (sym e) (next-among done left fact s)))

  later : (done left : List Fact) (fact : Fact) (x : State) → IsBetween (with_new_facts done s) (moved_by (fact ∷ []) count (with_new_facts done s)) x → IsBetween s (of (done ++ fact ∷ left)) x
  later done left fact x is =
      ⊎_elim (λ e. is-front done (fact ∷ left) x e)
      (λ more. ⊎_elim (λ a. ⊎_elim (λ e. next-between done left fact x e) (λ none. absurd none) a) (λ e. next-between done left fact x e) more) is

-- a call that ended well told the reply of its step
with-reply : {S : Type 0} (g : Ghosts S) (by : State → Step) (told reply : Reply) (hub new : Hub) (site after : S) → ((s : State) → reply ≡ (by s).reply) → StepsBy g 0 by (Ok told) hub site new after → StepsBy g 0 by (Ok reply) hub site new after
with-reply g by told reply hub new site after is call = record {
  told = λ tells s h on.
      let step = call.told tells s h on in
      record {
        answer = record { replies = is s; is_in = step.answer.is_in; on_site = step.answer.on_site };
        starved = λ e. absurd cc;
        others = λ fine. step.others (λ e. absurd cc);
        any_moment = step.any_moment;
      };
  moment = λ e. absurd cc;
  leaves = record {
    stands = call.leaves.stands;
    limits = call.leaves.limits;
    hurt = λ e. absurd cc;
    unhurt = λ e. ⊎_elim (λ f. absurd cc) (λ was. inr was) (call.leaves.unhurt e);
    cause = record { no_fewer = call.leaves.cause.no_fewer; cause = λ e. absurd cc };
  };
}

module _ {S : Type 0} (g : Ghosts S) (count : ℕ) (hub : Hub) (site : S) where
  -- the first batches were added and settled
  pub record HasAdded (done all : List Fact) (mid : Hub) (between : S) : Type 0 where
    pub steps : StepsBy g 0 (moved_by done count) (Ok (ReplyMoved count)) hub site mid between
    pub last : mid.last ≡ hub.last
    pub batches : AreBatches all mid

  -- none yet
  pub none-added : (all : List Fact) → ((c : Image) → g.told → g.left_since site (g.moment site) c → g.may_leave site c) → IsReady g hub site → AreBatches all hub → HasAdded [] all hub site
  none-added all now ready batches =
      let was = state-of g hub site ready in
      let soon : hub.last ≤ 1000000000000 = omega (arith, was.is_in.last, was.is_in.settled.in_time) in
      let same : hub.last ≡ max 0 hub.last = omega arith in
      record {
        steps = replied g 0 (moved_by [] count) (ReplyMoved count) hub hub site now ready (since-set hub 0 hub.last same soon) (λ s h. ap (λ (t : State). stays t (ReplyMoved count)) (sym (at-no-moment s)));
        last = refl;
        batches = batches;
      }

  module _ (done left all : List Fact) (fact : Fact) (mid : Hub) (between : S) (so_far : HasAdded done all mid between) where
    pub ready-between : IsReady g hub site → IsReady g mid between
    ready-between ready = left-ready g hub site mid between ready (λ e. cc) so_far.steps.leaves

    -- one more
    module _ (result : Result Reply HubError) (new : Hub) (after : S) (counts : (t : ℕ) (c : Image) → g.told → t ≤ g.moment between → g.may_leave between c → g.left_since between t c)
        (fed : ¬ IsErrOf result NoMemory) (one : StepsBy g 0 (moved_by (fact ∷ []) count) result mid between new after) (whole : OnOk result (left ≡ [])) where
      answers : (s : State) (result : Result Reply HubError) → OnOk result (left ≡ []) → IfOk result (StepsTo (moved_by (fact ∷ []) count (with_new_facts done s)) new (g.shown after)) → IfOk result (StepsTo (moved_by (done ++ fact ∷ left) count s) new (g.shown after))
      answers s (Ok reply) none to =
          let same : with_new_fact fact (with_new_facts done s) ≡ with_new_facts (done ++ fact ∷ left) s =
          sym (facts-append done (fact ∷ []) s) ∙ ap (λ (l : List Fact). with_new_facts (done ++ fact ∷ l) s) (sym none) in
          record {
            replies = to.replies;
            is_in = subst (IsHubOf new) same to.is_in;
            on_site = subst (λ (t : State). IsSiteOf (g.shown after) t) same to.on_site;
          }
      answers s (Err e) none to = tt

      takes : (s : State) → TakesStep g s (moved_by done count s) 0 (Ok (ReplyMoved count)) site mid between → TakesStep g (with_new_facts done s) (moved_by (fact ∷ []) count (with_new_facts done s)) 0 result between new after
          → g.told → TakesStep g s (moved_by (done ++ fact ∷ left) count s) 0 result site new after
      takes s first second told = record {
        answer = answers s result whole second.answer;
        starved = λ e. absurd (fed e);
        others = λ fine. stays-joined (g.shown site) (g.shown between) (g.shown after) (first.others (λ e. absurd cc)) (second.others fine);
        any_moment = joined g.moment g.left_since site between after _
            (weaker g.moment g.left_since site between _ _ (one-of (g.may_leave site) (IsBetween s (moved_by done count s)) (IsBetween s (moved_by (done ++ fact ∷ left) count s)) (λ x is. (x, earlier count s done (fact ∷ left) x is, refl))) first.any_moment)
            (weaker g.moment g.left_since between after _ _ (λ c here. from_mid c here) second.any_moment);
      }
        where
          from_mid : (c : Image) → LeavesOneOf (g.may_leave between) (IsBetween (with_new_facts done s) (moved_by (fact ∷ []) count (with_new_facts done s))) c → LeavesOneOf (g.may_leave site) (IsBetween s (moved_by (done ++ fact ∷ left) count s)) c
          from_mid c here =
              let d = first.any_moment.each here.was (counts (g.moment site) here.was told first.any_moment.later here.there) in
              record { was = d.was; there = d.there; others = stays-joined d.was here.was c d.others here.others; state = here.state; is = later count s done left fact here.state here.is; stands = here.stands }

      pub one-more : StepsBy g 0 (moved_by (done ++ fact ∷ left) count) result hub site new after
      one-more = record {
        told = λ told s h on.
            let first = so_far.steps.told told s h on in
            takes s first (one.told told (with_new_facts done s) first.answer.is_in first.answer.on_site) told;
        moment = λ e. omega (arith, one.moment e, so_far.last);
        leaves = record {
          stands = one.leaves.stands;
          limits = one.leaves.limits ∙ so_far.steps.leaves.limits;
          hurt = one.leaves.hurt;
          unhurt = λ e. ⊎_elim (λ f. inl f) (λ was. ⊎_elim (λ f. absurd cc) (λ first. inr first) (so_far.steps.leaves.unhurt was)) (one.leaves.unhurt e);
          cause = record {
            no_fewer = omega (arith, so_far.steps.leaves.cause.no_fewer, one.leaves.cause.no_fewer);
            cause = λ f. omega (arith, so_far.steps.leaves.cause.no_fewer, one.leaves.cause.cause f);
          };
        };
      }

  -- at the fact of this index of all
  module _ (facts : List Fact) (i : ℕ) (fact : Fact) (lt : i < length facts) (is : fact ≡ get_or facts i fact) (mid : Hub) (between : S) (so_far : HasAdded (take i facts) facts mid between) (ready : IsReady g hub site)
      (counts : (t : ℕ) (c : Image) → g.told → t ≤ g.moment between → g.may_leave between c → g.left_since between t c) (new : Hub) (after : S) where
    -- the site failed
    pub stopped-there : (e : HubError) → ¬ IsErrOf {T = Reply} (Err e) NoMemory → StepsBy g 0 (moved_by (fact ∷ []) count) (Err e) mid between new after → StepsBy g 0 (moved_by facts count) (Err e) hub site new after
    stopped-there e fed one =
        let whole : take i facts ++ fact ∷ drop (i + 1) facts ≡ facts = ap (λ (l : List Fact). take i facts ++ l) (sym (drop_more facts i fact lt ∙ ap (λ (x : Fact). x ∷ drop (i + 1) facts) (sym is))) ∙ take-append-drop i facts in
        subst (λ (l : List Fact). StepsBy g 0 (moved_by l count) (Err e) hub site new after) whole
        (one-more (take i facts) (drop (i + 1) facts) facts fact mid between so_far (Err e) new after counts fed one tt)

    -- its batch was added
    pub added-there : (reply : Reply) → StepsBy g 0 (moved_by (fact ∷ []) count) (Ok reply) mid between new after → HasBatch fact mid new → HasAdded (take (i + 1) facts) facts new after
    added-there reply one has =
        let was = state-of g mid between (ready-between (take i facts) [] facts fact mid between so_far ready) in
        let first : IsBatch fact mid = subst (λ (x : Fact). IsBatch x mid) (sym is) (so_far.batches i fact lt) in
        let more : take (i + 1) facts ≡ take i facts ++ fact ∷ [] = take_more facts i fact lt ∙ ap (λ (x : Fact). take i facts ++ x ∷ []) (sym is) in
        record {
          steps = subst (λ (l : List Fact). StepsBy g 0 (moved_by l count) (Ok (ReplyMoved count)) hub site new after) (sym more)
              (with-reply g (moved_by (take i facts ++ fact ∷ []) count) reply (ReplyMoved count) hub new site after (λ s. refl)
              (one-more (take i facts) [] facts fact mid between so_far (Ok reply) new after counts (λ e. absurd cc) one refl));
          last = has.last ∙ so_far.last;
          batches = batches-behind mid new fact was.state was.is_in first has facts so_far.batches;
        }
