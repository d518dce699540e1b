-- Calls of the hub that read their site and write nothing.
use Rattle.std.proofs.Common.{◌≡◌, ℕ, max, true, refl, sym, ap, subst, inl, Ok, Err}
use Rattle.qc_protocol.specs.declared.reply.Reply.{Reply}
use Rattle.qc_site.specs.declared.site.Site.{Ghosts}
use Rattle.qc_site.specs.Disk.{LeavesOnly}
use Rattle.qc_site.specs.Image.{Image}
use Rattle.qc_site.proofs.Moments.{weaker}
use Rattle.qc_frame.specs.Calls.{WritesNothing}
use Rattle.qc_journal.specs.Journal.{log_of}
use Rattle.qc_machine.specs.State.{State, at_moment}
use Rattle.qc_machine.specs.Steps.{Step, stays, IsBetween}
use Rattle.qc_machine.specs.Sites.{IsSiteOf, Stays, LeavesOneOf}
use Rattle.qc_machine.proofs.Images.{image-stays, stays-same}
use Rattle.qc_hub.specs.declared.hub.Hub.{Hub}
use Rattle.qc_hub.specs.declared.error.HubError.TheVariants.{SiteFault}
use Rattle.qc_hub.specs.Stands.{IsHubOf, IsHubOn, StepsTo}
use Rattle.qc_hub.specs.Calls.{StandsSound, IsReady, StepsBy}
use Rattle.qc_hub.proofs.Calling.{journal-certain, log-certain}
use Rattle.qc_hub.proofs.Later.{Since, later-hub, since-ready, not-both, state-of}
use Rattle.qc_hub.proofs.Logs.{stands-still}

module _ {S : Type 0} (g : Ghosts S) where
  -- the hub stands on the site as before
  ready-still : {failed : Type 0} (hub : Hub) (site after : S) → ¬ failed → WritesNothing g failed site after → IsReady g hub site → IsReady g hub after
  ready-still hub site after fine writes ready = record {
    stands = record { sound = λ e. still (ready.stands.sound e); hurt = λ e. absurd (not-both hub.in_fault ready.no_fault e) };
    no_fault = ready.no_fault;
  }
    where
      was : IsHubOn g.told (g.shown site) hub
      was = state-of g hub site ready

      still : StandsSound g hub site → StandsSound g hub after
      still sound = record {
        journal = stands-still g (log_of hub.journal) site after fine writes sound.journal;
        whole = sound.whole;
        ended = sound.ended;
        log = stands-still g hub.log site after fine writes sound.log;
        unused = sound.unused;
        state = record { state = was.state; is_in = was.is_in; on_site = λ told. subst (λ (i : Image). IsSiteOf i was.state) (sym (writes.same told fine)) (was.on_site told) };
      }

-- a call that reads its site and changes nothing of the hub but the moment, and the fault where the site failed
module _ {S : Type 0} (g : Ghosts S) (at : ℕ) (by : State → Step) (failed : Type 0) (hub new : Hub) (site after : S) (ready : IsReady g hub site) (writes : WritesNothing g failed site after) where
  sound : StandsSound g hub site
  sound = ready.stands.sound ready.no_fault

  -- each image stands for the state before
  before : (P : State → Type 0) (s : State) → P s → g.told → IsSiteOf (g.shown site) s → (c : Image) → g.may_leave site c → LeavesOneOf (g.may_leave site) P c
  before P s is told on = image-stays (g.may_leave site) (g.shown site) s P on (journal-certain g hub site sound told) (log-certain g hub site sound told) is

  between : (s : State) → g.told → IsSiteOf (g.shown site) s → LeavesOnly g.moment g.left_since site after (LeavesOneOf (g.may_leave site) (IsBetween s (by s)))
  between s told on = weaker g.moment g.left_since site after _ _ (before (IsBetween s (by s)) s (inl refl) told on) (writes.any_moment told)

  pub read-replied : (reply : Reply) → Since hub new at → ¬ failed → (g.told → (s : State) → IsHubOf hub s → IsSiteOf (g.shown site) s → by s ≡ stays (at_moment at s) reply) → StepsBy g at by (Ok reply) hub site new after
  read-replied reply since fine steps =
      let stands = ready-still g new site after fine writes (since-ready g hub new at site since ready) in
      record {
        told = λ told s h on.
            let same : g.shown after ≡ g.shown site = writes.same told fine in
            record {
              answer = subst (λ (t : Step). StepsTo t new (g.shown after) reply) (sym (steps told s h on)) (record {
                replies = refl;
                is_in = later-hub hub new at s since h;
                on_site = subst (λ (i : Image). IsSiteOf i (at_moment at s)) (sym same) (record { stands = on.stands; rows = on.rows; journal = on.journal; log = on.log });
              });
              starved = λ e. absurd cc;
              others = λ well. subst (λ (i : Image). Stays (g.shown site) i) (sym same) (stays-same (g.shown site));
              any_moment = between s told on;
            };
        moment = λ e. absurd cc;
        leaves = record {
          stands = stands.stands;
          limits = since.later.limits;
          hurt = λ e. absurd cc;
          unhurt = λ e. absurd (not-both new.in_fault stands.no_fault e);
          cause = record { no_fewer = writes.cause.no_fewer; cause = λ e. absurd cc };
        };
      }

  pub read-failed : new ≡ record hub { last = max at hub.last; in_fault = true } → failed → StepsBy g at by (Err SiteFault) hub site new after
  read-failed is f =
      let fault : new.in_fault ≡ true = ap (λ (h : Hub). h.in_fault) is in
      record {
        told = λ told s h on. record {
          answer = tt;
          starved = λ e. absurd cc;
          others = λ fine. absurd (fine refl);
          any_moment = between s told on;
        };
        moment = λ e. ap (λ (h : Hub). h.last) is;
        leaves = record {
          stands = record {
            sound = λ e. absurd (not-both new.in_fault e fault);
            hurt = λ e told c here.
                let was = sound.state in
                let left = before (λ x. x ≡ was.state) was.state refl told (was.on_site told) c (writes.crash told c here) in
                (left.state.history.facts, left.stands);
          };
          limits = ap (λ (h : Hub). h.limits) is;
          hurt = λ e. fault;
          unhurt = λ e. inl refl;
          cause = record { no_fewer = writes.cause.no_fewer; cause = λ e. writes.cause.cause f };
        };
      }
