-- Causes of a call, told by another call's.
use Rattle.std.proofs.Common.{◌≡◌, ◌∙◌, ℕ, refl, ⊎_elim, inl, inr, Result, Ok, IsErrOf, arith}
use Rattle.qc_site.specs.declared.site.Site.{Ghosts}
use Rattle.qc_site.specs.Causes.{HasCause}
use Rattle.qc_hub.specs.declared.hub.Hub.{Hub}
use Rattle.qc_hub.specs.Calls.{IsReady, LeavesStanding}
use Rattle.qc_hub.proofs.Calling.{left-ready}
use Rattle.qc_hub.proofs.Later.{not-both}
use Rattle.qc_drill.specs.declared.stop.Stop.{Stop}
use Rattle.qc_protocol.specs.declared.status.Status.TheVariants.{SourceFault as SourceStatus, SinkFault as SinkStatus, SiteFault as SiteStatus}
use Rattle.qc_drill.specs.declared.stop.Stop.TheVariants.{SourceFault, SinkFault, SiteFault, InputLong, NoMemory}
use Rattle.qc_drill.specs.Stops.{status_of}
use Rattle.qc_drill.specs.Calls.{LeavesDrill}

pub cause-other : (before now : ℕ) (failed other : Type 0) → (other → failed) → HasCause before now failed → HasCause before now other
cause-other before now failed other back h = record { no_fewer = h.no_fewer; cause = λ e. h.cause (back e) }

pub cause-joined : (before mid now : ℕ) (first other : Type 0) → HasCause before mid first → HasCause mid now other → HasCause before now other
cause-joined before mid now first other a b = record { no_fewer = omega (arith, a.no_fewer, b.no_fewer); cause = λ e. let rose = b.cause e in omega (arith, rose, a.no_fewer) }

pub no-cause : (count : ℕ) (failed : Type 0) → (failed → ⊥) → HasCause count count failed
no-cause count failed never = record { no_fewer = omega arith; cause = λ e. absurd (never e) }

module _ {S : Type 0} (g : Ghosts S) where
  pub leaves-other : (failed other : Type 0) (hub : Hub) (site : S) (new : Hub) (after : S) → (failed → other) → (other → failed) → LeavesStanding g failed hub site new after → LeavesStanding g other hub site new after
  leaves-other failed other hub site new after on back l = record {
    stands = l.stands;
    limits = l.limits;
    hurt = λ e. l.hurt (back e);
    unhurt = λ e. ⊎_elim (λ f. inl (on f)) (λ was. inr was) (l.unhurt e);
    cause = cause-other (g.faults site) (g.faults after) failed other back l.cause;
  }

  -- a drill that wasn't stopped by the site goes on
  pub goes-ready : {A : Type 0} (result : Result A Stop) (hub : Hub) (site : S) (before : ℕ) (new : Hub) (after : S) (now : ℕ) → IsReady g hub site → (IsErrOf result SiteFault → ⊥) → LeavesDrill g result hub site before new after now → IsReady g new after
  goes-ready result hub site before new after now ready fine leaves = left-ready g hub site new after ready fine leaves.stands

  -- a drill that hasn't done anything
  pub leaves-none : (hub : Hub) (site : S) (count : ℕ) → IsReady g hub site → LeavesDrill g (Ok (tt {0})) hub site count hub site count
  leaves-none hub site count ready = record {
    stands = record {
      stands = ready.stands;
      limits = refl;
      hurt = λ e. absurd cc;
      unhurt = λ e. inr e;
      cause = no-cause (g.faults site) _ (λ e. cc);
    };
    sink = no-cause count _ (λ e. cc);
  }

  -- a call behind others that didn't stop
  pub leaves-joined : {A B : Type 0} (n : A) (result : Result B Stop) (hub mid new : Hub) (site between after : S) (count half now : ℕ) → IsReady g mid between → LeavesDrill g (Ok n) hub site count mid between half → LeavesDrill g result mid between half new after now → LeavesDrill g result hub site count new after now
  leaves-joined n result hub mid new site between after count half now ready first second = record {
    stands = record {
      stands = second.stands.stands;
      limits = second.stands.limits ∙ first.stands.limits;
      hurt = second.stands.hurt;
      unhurt = λ e. ⊎_elim (λ f. inl f) (λ was. absurd (not-both mid.in_fault ready.no_fault was)) (second.stands.unhurt e);
      cause = cause-joined (g.faults site) (g.faults between) (g.faults after) _ _ first.stands.cause second.stands.cause;
    };
    sink = cause-joined count half now _ _ first.sink second.sink;
  }

  pub leaves-ok : {A B : Type 0} (n : A) (m : B) (hub : Hub) (site : S) (count : ℕ) (new : Hub) (after : S) (now : ℕ) → LeavesDrill g (Ok n) hub site count new after now → LeavesDrill g (Ok m) hub site count new after now
  leaves-ok n m hub site count new after now l = record {
    stands = leaves-other _ _ hub site new after (λ e. absurd cc) (λ e. absurd cc) l.stands;
    sink = cause-other count now _ _ (λ e. absurd cc) l.sink;
  }

-- why a drill stopped, by its status

pub status-source : (stop : Stop) → status_of stop ≡ SourceStatus → stop ≡ SourceFault
status-source SourceFault e = refl
status-source SinkFault e = cc
status-source SiteFault e = cc
status-source InputLong e = cc
status-source NoMemory e = cc

pub status-sink : (stop : Stop) → status_of stop ≡ SinkStatus → stop ≡ SinkFault
status-sink SourceFault e = cc
status-sink SinkFault e = refl
status-sink SiteFault e = cc
status-sink InputLong e = cc
status-sink NoMemory e = cc

pub status-site : (stop : Stop) → status_of stop ≡ SiteStatus → stop ≡ SiteFault
status-site SourceFault e = cc
status-site SinkFault e = cc
status-site SiteFault e = refl
status-site InputLong e = cc
status-site NoMemory e = cc
