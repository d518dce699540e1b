-- Calls of the hub, put together: one that makes no call of the site, one that hands on another's, one behind the hub's
-- own change.
use Rattle.std.proofs.Common.{◌≡◌, ◌⊎◌, ℕ, List, [], ◌∷◌, ◌++◌, Bool, true, false, refl, sym, ap, ◌∙◌, subst, inl, inr, ⊎_elim, arith, Ok, Err, IfOk, IsErrOf}
use Rattle.std.specs.declared.result.Result.{Result}
use Rattle.qc_protocol.specs.declared.order.Act.{Act}
use Rattle.qc_protocol.specs.declared.reply.Reply.{Reply}
use Rattle.qc_site.specs.declared.site.Site.{Ghosts}
use Rattle.qc_site.specs.declared.site.SiteFile.{SiteFile}
use Rattle.qc_site.specs.declared.site.SiteFile.TheVariants.{Journal, CrmLog}
use Rattle.qc_site.specs.Image.{Image, bytes_of}
use Rattle.qc_site.specs.Disk.{Certain, LeavesOnly}
use Rattle.qc_site.proofs.Moments.{started, weaker, joined}
use Rattle.qc_machine.specs.History.{History, by_text}
use Rattle.qc_machine.specs.State.{State, at_moment}
use Rattle.qc_machine.specs.Sites.{StandsFor, IsSiteOf, IsKept, LeavesOneOf}
use Rattle.qc_machine.specs.Step.{step}
use Rattle.qc_machine.specs.Steps.{Step, stays, Among, IsBetween}
use Rattle.qc_machine.proofs.Images.{image-stays, one-of, stays-same, stays-joined}
use Rattle.qc_hub.specs.declared.error.HubError.{HubError}
use Rattle.qc_hub.specs.declared.error.HubError.TheVariants.{SiteFault, NoMemory}
use Rattle.qc_hub.specs.declared.hub.Hub.{Hub}
use Rattle.qc_hub.specs.Stands.{IsHubOf, StepsTo}
use Rattle.qc_hub.specs.Calls.{CarriesOut, KeepsSite, MovesOnly, StandsSound, IsReady, LeavesStanding, TakesStep, StepsBy}
use Rattle.qc_hub.proofs.Later.{Later, Since, later-hub, later-ready, moved-hub, moved-ready, moved-since, moved-limits, not-both, state-of}

-- the second step behind the first
abbrev pub u_after : Step → Step → Step
u_after t u = record { through = t.through ++ t.state ∷ u.through; state = u.state; reply = u.reply }

among-left : (a b : List State) (x : State) → Among a x → Among (a ++ b) x
among-left [] b x h = absurd h
among-left (y ∷ a) b x h = ⊎_elim (λ e. inl e) (λ m. inr (among-left a b x m)) h

among-right : (a b : List State) (x : State) → Among b x → Among (a ++ b) x
among-right [] b x h = h
among-right (y ∷ a) b x h = inr (among-right a b x h)

module _ {S : Type 0} (g : Ghosts S) where
  -- both logs of a sound hub are certain in each image
  pub journal-certain : (hub : Hub) (site : S) → StandsSound g hub site → g.told → Certain Journal (g.shown site).journal (g.may_leave site)
  journal-certain hub site sound told = (sound.journal told).certain

  pub log-certain : (hub : Hub) (site : S) → StandsSound g hub site → g.told → Certain CrmLog (g.shown site).crm_log (g.may_leave site)
  log-certain hub site sound told = subst (λ (f : SiteFile). Certain f (bytes_of f (g.shown site)) (g.may_leave site)) sound.unused.file (sound.log told).certain

  -- a hub that didn't fail
  pub left-ready : {failed : Type 0} (hub : Hub) (site : S) (new : Hub) (after : S) → IsReady g hub site → ¬ failed → LeavesStanding g failed hub site new after → IsReady g new after
  left-ready hub site new after ready fine leaves = record { stands = leaves.stands; no_fault = by_fault new.in_fault refl }
    where
      by_fault : (b : Bool) → new.in_fault ≡ b → new.in_fault ≡ false
      by_fault false e = e
      by_fault true e = absurd (⊎_elim (λ f. fine f) (λ was. not-both hub.in_fault ready.no_fault was) (leaves.unhurt e))

  -- after a fault each image stands for a history: that of a state between
  pub hurt-after : (s : State) (t : Step) (site after : S) → ((d : Image) → g.may_leave after d → g.left_since after (g.moment site) d) → LeavesOnly g.moment g.left_since site after (LeavesOneOf (g.may_leave site) (IsBetween s t)) → (c : Image) → g.may_leave after c → IsKept c
  hurt-after s t site after counts any c here = let left = any.each c (counts c here) in (left.state.history.facts, left.stands)

-- the site of a state is that of another with the same history and logs
pub kept-site : (shown : Image) (s t : State) → KeepsSite s t → IsSiteOf shown s → IsSiteOf shown t
kept-site shown s t keeps on = record {
  stands = subst (λ (h : History). StandsFor by_text shown h.facts) (sym keeps.history) on.stands;
  rows = on.rows ∙ sym keeps.rows;
  journal = keeps.journal ∙ on.journal;
  log = keeps.log ∙ on.log;
}

module _ {S : Type 0} (g : Ghosts S) (at : ℕ) where
  -- a call that made none of the site, whatever it made of the hub
  pub answered_in : (by : State → Step) (result : Result Reply HubError) (hub new : Hub) (site : S) → ((c : Image) → g.told → g.left_since site (g.moment site) c → g.may_leave site c)
      → IsReady g hub site → IsReady g new site → new.limits ≡ hub.limits → ¬ IsErrOf result SiteFault
      → ((s : State) → IsHubOf hub s → IsErrOf result NoMemory → IsHubOf new s ⊎ IsHubOf new (at_moment at s))
      → (g.told → (s : State) → IsHubOf hub s → IsSiteOf (g.shown site) s → IfOk result (StepsTo (by s) new (g.shown site))) → StepsBy g at by result hub site new site
  answered_in by result hub new site now ready after limits no_fault starves answer =
      let sound = ready.stands.sound ready.no_fault in
      record {
        told = λ told s h on.
            let journal = journal-certain g hub site sound told in
            let log = log-certain g hub site sound told in
            record {
              answer = answer told s h on;
              starved = λ e. record {
                is_in = starves s h e;
                same = refl;
                any_moment = started g.moment g.left_since site _ (λ c left. image-stays (g.may_leave site) (g.shown site) s (λ x. x ≡ s) on journal log refl c (now c told left));
              };
              others = λ fine. stays-same (g.shown site);
              any_moment = started g.moment g.left_since site _ (λ c left. image-stays (g.may_leave site) (g.shown site) s (IsBetween s (by s)) on journal log (inl refl) c (now c told left));
            };
        moment = λ e. absurd (no_fault e);
        leaves = record {
          stands = after.stands;
          limits = limits;
          hurt = λ e. absurd (no_fault e);
          unhurt = λ e. absurd (not-both new.in_fault after.no_fault e);
          cause = record { no_fewer = omega arith; cause = λ e. absurd (no_fault e) };
        };
      }

  pub answered : (by : State → Step) (result : Result Reply HubError) (hub new : Hub) (site : S) → ((c : Image) → g.told → g.left_since site (g.moment site) c → g.may_leave site c)
      → IsReady g hub site → MovesOnly at hub new → ¬ IsErrOf result SiteFault → (g.told → (s : State) → IsHubOf hub s → IsSiteOf (g.shown site) s → IfOk result (StepsTo (by s) new (g.shown site)))
      → StepsBy g at by result hub site new site
  answered by result hub new site now ready moved no_fault answer =
      answered_in by result hub new site now ready (moved-ready g hub new at site moved ready) (moved-limits hub new at moved) no_fault (λ s h e. moved-hub hub new at s moved h) answer

  -- a reply, and nothing else but the moment
  pub replied : (by : State → Step) (reply : Reply) (hub new : Hub) (site : S) → ((c : Image) → g.told → g.left_since site (g.moment site) c → g.may_leave site c)
      → IsReady g hub site → Since hub new at → ((s : State) → IsHubOf hub s → by s ≡ stays (at_moment at s) reply) → StepsBy g at by (Ok reply) hub site new site
  replied by reply hub new site now ready since steps =
      answered by (Ok reply) hub new site now ready (moved-since hub new at since) (λ e. cc)
      (λ told s h on. subst (λ (t : Step). StepsTo t new (g.shown site) reply) (sym (steps s h)) (record {
        replies = refl;
        is_in = later-hub hub new at s since h;
        on_site = record { stands = on.stands; rows = on.rows; journal = on.journal; log = on.log };
      }))

  -- a call that made none and was in want of memory
  pub starved : (by : State → Step) (result : Result Reply HubError) (hub new : Hub) (site : S) → ((c : Image) → g.told → g.left_since site (g.moment site) c → g.may_leave site c)
      → IsReady g hub site → MovesOnly at hub new → result ≡ Err NoMemory → StepsBy g at by result hub site new site
  starved by result hub new site now ready moved is =
      subst (λ (r : Result Reply HubError). StepsBy g at by r hub site new site) (sym is) (answered by (Err NoMemory) hub new site now ready moved (λ e. cc) (λ told s h on. tt))

  -- a call that hands on another's, which takes the same step
  pub handed_on : (step by : State → Step) (result : Result Reply HubError) (hub : Hub) (site : S) (new : Hub) (after : S) → ((s : State) → IsHubOf hub s → step s ≡ by s) → StepsBy g at by result hub site new after → StepsBy g at step result hub site new after
  handed_on step by result hub site new after same call = record {
    told = λ told s h on. subst (λ (t : Step). TakesStep g s t at result site new after) (sym (same s h)) (call.told told s h on);
    moment = call.moment;
    leaves = call.leaves;
  }

  -- a call that carries out an order, as that is given to it
  pub of_order : (act given : Act) → act ≡ given → (result : Result Reply HubError) (hub : Hub) (site : S) (new : Hub) (after : S) → CarriesOut g (record { at = at; act = given }) result hub site new after → CarriesOut g (record { at = at; act = act }) result hub site new after
  of_order act given is result hub site new after call =
      handed_on (λ s. step s (record { at = at; act = act })) (λ s. step s (record { at = at; act = given })) result hub site new after (λ s h. ap (λ (a : Act). step s (record { at = at; act = a })) is) call

  -- Two calls in turn, the second of which takes no memory: the whole goes through the state between them.
  pub in_turn : (s : State) (t u : Step) (result : Result Reply HubError) (r : Reply) (site : S) (mid : Hub) (between : S) (new : Hub) (after : S) → ((d : Image) → g.may_leave between d → g.left_since between (g.moment site) d)
      → ¬ IsErrOf result NoMemory → TakesStep g s t at (Ok r) site mid between → TakesStep g t.state u 0 result between new after → TakesStep g s (u_after t u) at result site new after
  in_turn s t u result r site mid between new after counts starts first second = record {
    answer = answer-on result second.answer;
    starved = λ e. absurd (starts e);
    others = λ fine. stays-joined (g.shown site) (g.shown between) (g.shown after) (first.others (λ e. absurd cc)) (second.others fine);
    any_moment = joined g.moment g.left_since site between after _
        (weaker g.moment g.left_since site between _ _ (one-of (g.may_leave site) (IsBetween s t) (IsBetween s (u_after t u)) (λ x is. (x, earlier x is, refl))) first.any_moment)
        (weaker g.moment g.left_since between after _ _ (λ c left. from_mid c left) second.any_moment);
  }
    where
      answer-on : (result : Result Reply HubError) → IfOk result (StepsTo u new (g.shown after)) → IfOk result (StepsTo (u_after t u) new (g.shown after))
      answer-on (Ok reply) a = record { replies = a.replies; is_in = a.is_in; on_site = a.on_site }
      answer-on (Err e) a = tt

      earlier : (x : State) → IsBetween s t x → IsBetween s (u_after t u) x
      earlier x is = ⊎_elim (λ e. inl e) (λ more. inr (inl (⊎_elim (λ a. among-left t.through (t.state ∷ u.through) x a) (λ e. among-right t.through (t.state ∷ u.through) x (inl e)) more))) is

      later : (x : State) → IsBetween t.state u x → IsBetween s (u_after t u) x
      later x is = ⊎_elim (λ e. inr (inl (among-right t.through (t.state ∷ u.through) x (inl e)))) (λ more. inr (⊎_elim (λ a. inl (among-right t.through (t.state ∷ u.through) x (inr a))) (λ e. inr e) more)) is

      from_mid : (c : Image) → LeavesOneOf (g.may_leave between) (IsBetween t.state u) c → LeavesOneOf (g.may_leave site) (IsBetween s (u_after t u)) c
      from_mid c left =
          let d = first.any_moment.each left.was (counts left.was left.there) in
          record { was = d.was; there = d.there; others = stays-joined d.was left.was c d.others left.others; state = left.state; is = later left.state left.is; stands = left.stands }

  -- a call that takes no memory behind the hub's own change, which a function of states tells
  pub behind : (by : State → Step) (own : State → State) (result : Result Reply HubError) (hub mid : Hub) (site : S) (new : Hub) (after : S) → Later hub mid at → ((s : State) → IsHubOf hub s → IsHubOf mid (own s) × KeepsSite s (own s))
      → ¬ IsErrOf result NoMemory → StepsBy g 0 by result mid site new after → StepsBy g at (λ s. by (own s)) result hub site new after
  behind by own result hub mid site new after later is_own fed call = record {
    told = λ told s h on.
        let images = g.may_leave site in
        let is = is_own s h in
        let keeps = is.1 in
        let step = call.told told (own s) is.0 (kept-site (g.shown site) s (own s) keeps on) in
        record {
          answer = step.answer;
          starved = λ e. absurd (fed e);
          others = step.others;
          any_moment = weaker g.moment g.left_since site after _ _
              (one-of images (IsBetween (own s) (by (own s))) (IsBetween s (by (own s)))
              (λ x is. ⊎_elim (λ e. (s, inl refl, sym (ap (λ (h : History). h.facts) keeps.history) ∙ ap (λ (x : State). x.history.facts) (sym e))) (λ more. (x, inr more, refl)) is)) step.any_moment;
        };
    moment = λ e. omega (arith, call.moment e, later.last);
    leaves = record {
      stands = call.leaves.stands;
      limits = call.leaves.limits ∙ later.limits;
      hurt = call.leaves.hurt;
      unhurt = λ e. ⊎_elim (λ f. inl f) (λ was. inr (sym later.in_fault ∙ was)) (call.leaves.unhurt e);
      cause = call.leaves.cause;
    };
  }

  -- the hub after its own change is ready for a call
  pub own-ready : (own : State → State) (hub mid : Hub) (site : S) → Later hub mid at → ((s : State) → IsHubOf hub s → IsHubOf mid (own s) × KeepsSite s (own s)) → IsReady g hub site → IsReady g mid site
  own-ready own hub mid site later is_own ready =
      let was = state-of g hub site ready in
      let is = is_own was.state was.is_in in
      later-ready g hub mid at site later (record { state = own was.state; is_in = is.0; on_site = λ told. kept-site (g.shown site) was.state (own was.state) is.1 (was.on_site told) }) ready
