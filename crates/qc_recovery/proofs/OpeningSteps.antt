-- Calls of a recovery, one after the other, and what a crash in their midst leaves.
use Rattle.std.proofs.Common.{◌≡◌, ◌≤◌, ℕ, List, sym, ap, ◌∙◌, subst, arith}
use Rattle.qc_site.specs.Causes.{HasCause, Rose}
use Rattle.qc_site.specs.declared.site.Site.{Ghosts}
use Rattle.qc_site.specs.declared.site.SiteFile.TheVariants.{Journal, CrmLog}
use Rattle.qc_site.specs.Disk.{Certain, LeavesOnly}
use Rattle.qc_site.specs.Image.{Image}
use Rattle.qc_site.proofs.Moments.{weaker, joined}
use Rattle.qc_frame.specs.Calls.{LogStands, ChangesFile, WritesNothing}
use Rattle.qc_frame.specs.Gate.{After}
use Rattle.qc_frame.specs.Log.{SameLog, StandsOn}
use Rattle.qc_journal.specs.Journal.{JournalView, log_of}
use Rattle.qc_machine.specs.Sites.{LeavesSame}
use Rattle.qc_machine.proofs.Images.{same-site, same-joined, same-journal, same-crm_log}
use Rattle.qc_recovery.proofs.Logs.{stands-among}

pub rose : (a b c : ℕ) → a ≤ b → Rose b c → Rose a c
rose a b c le up = omega (arith, le, up)

-- the failure of a later call, as that of all
pub causes : (a b c : ℕ) (failed then : Type 0) → (failed → then) → a ≤ b → HasCause b c then → HasCause a c failed
causes a b c failed then to le cause = record { no_fewer = omega (arith, le, cause.no_fewer); cause = λ f. rose a b c le (cause.cause (to f)) }

module _ {S : Type 0} (g : Ghosts S) where
  -- calls that keep the groups

  pub leaves-read : (site after : S) → LeavesOnly g.moment g.left_since site after (g.may_leave site) → LeavesOnly g.moment g.left_since site after (LeavesSame (g.may_leave site))
  leaves-read site after all = weaker g.moment g.left_since site after _ _ (λ c here. record { was = c; there = here; same = same-site c }) all

  pub leaves-journal : (site after : S) → LeavesOnly g.moment g.left_since site after (After Journal SameLog (g.may_leave site)) → LeavesOnly g.moment g.left_since site after (LeavesSame (g.may_leave site))
  leaves-journal site after all = weaker g.moment g.left_since site after _ _ (λ c left. record { was = left.0; there = left.1; same = same-journal left.0 c left.2.bytes left.2.is left.2.by }) all

  pub leaves-log : (site after : S) → LeavesOnly g.moment g.left_since site after (After CrmLog SameLog (g.may_leave site)) → LeavesOnly g.moment g.left_since site after (LeavesSame (g.may_leave site))
  leaves-log site after all = weaker g.moment g.left_since site after _ _ (λ c left. record { was = left.0; there = left.1; same = same-crm_log left.0 c left.2.bytes left.2.is left.2.by }) all

  pub leaves-on : (old mid new : S) → ((c : Image) → g.may_leave mid c → g.left_since mid (g.moment old) c) → LeavesOnly g.moment g.left_since old mid (LeavesSame (g.may_leave old)) → LeavesOnly g.moment g.left_since mid new (LeavesSame (g.may_leave mid))
      → LeavesOnly g.moment g.left_since old new (LeavesSame (g.may_leave old))
  leaves-on old mid new counts first second =
      let back : (c : Image) → LeavesSame (g.may_leave mid) c → LeavesSame (g.may_leave old) c
      = λ c left.
      let d = first.each left.was (counts left.was left.there) in
      record { was = d.was; there = d.there; same = same-joined d.was left.was c d.same left.same } in
      joined g.moment g.left_since old mid new _ first (weaker g.moment g.left_since mid new _ _ back second)

  -- the journal stands where the log of compensations alone changed
  pub journal-stands : {failed : Type 0} (step : List ℕ → List ℕ → Type 0) (journal : JournalView) (site after : S) → ((c : Image) → g.told → g.may_leave after c → g.left_since after (g.moment site) c) → ¬ failed → ChangesFile g CrmLog step failed site after → LogStands g (log_of journal) site → LogStands g (log_of journal) after
  journal-stands step journal site after counts fine changes stands = λ told.
      let st = stands told in
      let same : (g.shown after).journal ≡ (g.shown site).journal = ap (λ (i : Image). i.journal) (changes.shown told fine).is in
      let certain : Certain Journal (g.shown site).journal (g.may_leave after) = λ c here.
      let left = (changes.any_moment told).each c (counts c told here) in
      ap (λ (i : Image). i.journal) left.2.is ∙ st.certain left.0 left.1 in
      subst (λ (b : List ℕ). StandsOn b (g.may_leave after) (log_of journal)) (sym same) (stands-among (g.shown site).journal (g.may_leave site) (g.may_leave after) (log_of journal) certain st)

  -- a call is said to fail in other words
  pub same-failure : {file : _} (step : List ℕ → List ℕ → Type 0) (failed then : Type 0) (site after : S) → (failed → then) → (then → failed) → ChangesFile g file step then site after → ChangesFile g file step failed site after
  same-failure step failed then site after to back changes = record {
    shown = λ told fine. changes.shown told (λ f. fine (back f));
    any_moment = changes.any_moment;
    cause = record { no_fewer = changes.cause.no_fewer; cause = λ f. changes.cause.cause (to f) };
  }

  pub writes-said : (failed then : Type 0) (site after : S) → (failed → then) → (then → failed) → WritesNothing g then site after → WritesNothing g failed site after
  writes-said failed then site after to back writes = record {
    same = λ told fine. writes.same told (λ f. fine (back f));
    crash = writes.crash;
    any_moment = writes.any_moment;
    cause = record { no_fewer = writes.cause.no_fewer; cause = λ f. writes.cause.cause (to f) };
  }

  pub writes-joined : (failed then : Type 0) (site mid after : S) → ¬ failed → WritesNothing g failed site mid → WritesNothing g then mid after → WritesNothing g then site after
  writes-joined failed then site mid after fine first second = record {
    same = λ told well. second.same told well ∙ first.same told fine;
    crash = λ told c here. first.crash told c (second.crash told c here);
    any_moment = λ told. joined g.moment g.left_since site mid after _ (first.any_moment told) (weaker g.moment g.left_since mid after _ _ (first.crash told) (second.any_moment told));
    cause = causes (g.faults site) (g.faults mid) (g.faults after) _ _ (λ f. f) first.cause.no_fewer second.cause;
  }
