-- Calls that keep a log's groups, one after the other.
use Rattle.std.proofs.Common.{◌≡◌, ◌≤◌, ℕ, List, ◌∙◌, ap, subst, arith}
use Rattle.qc_site.specs.Image.{Image, bytes_of, with_bytes}
use Rattle.qc_site.specs.Disk.{Images, FileStep, LeavesOnly}
use Rattle.qc_site.specs.declared.site.SiteFile.{SiteFile}
use Rattle.qc_site.proofs.Images.{bytes_of-with_bytes, with_bytes-with_bytes}
use Rattle.qc_site.proofs.Moments.{weaker, joined}
use Rattle.qc_site.specs.Causes.{Rose}
use Rattle.qc_site.specs.declared.site.Site.{Ghosts}
use Rattle.qc_frame.specs.Gate.{After}
use Rattle.qc_frame.specs.Calls.{KeepsGroups}
use Rattle.qc_frame.specs.Log.{LogView, SameFrom}

pub same_joined : (start : ℕ) (a b c : List ℕ) → SameFrom start a b → SameFrom start b c → SameFrom start a c
same_joined start a b c first second = record { front = second.front ∙ first.front; followed = λ lt. second.followed (first.followed lt); same = second.same ∙ first.same }

-- a step of a file after a step of the same file
pub after_joined : (file : SiteFile) (step : List ℕ → List ℕ → Type 0) → ((a b c : List ℕ) → step a b → step b c → step a c) → (images mid : Images) → ((d : Image) → mid d → After file step images d) → (c : Image) → After file step mid c → After file step images c
after_joined file step joins images mid from_first c second =
    let first = from_first second.0 second.1 in
    let b = first.2.bytes in
    let is : second.0 ≡ with_bytes file b first.0 = first.2.is in
    let there : bytes_of file second.0 ≡ b = ap (λ (i : Image). bytes_of file i) is ∙ bytes_of-with_bytes file b first.0 in (
      first.0,
      first.1,
      record {
        bytes = second.2.bytes;
        is = second.2.is ∙ ap (λ (i : Image). with_bytes file second.2.bytes i) is ∙ with_bytes-with_bytes file second.2.bytes b first.0;
        by = joins (bytes_of file first.0) b second.2.bytes first.2.by (subst (λ (l : List ℕ). step l second.2.bytes) there second.2.by);
      },
    )

-- a run of calls, each of which keeps the groups
pub chained : {S : Type 0} (moment : S → ℕ) (left_since : S → ℕ → Images) (may_leave : S → Images) (file : SiteFile) (start : ℕ) (old mid new : S) → ((t : ℕ) (c : Image) → t ≤ moment mid → may_leave mid c → left_since mid t c)
    → LeavesOnly moment left_since old mid (After file (SameFrom start) (may_leave old)) → LeavesOnly moment left_since mid new (After file (SameFrom start) (may_leave mid)) → LeavesOnly moment left_since old new (After file (SameFrom start) (may_leave old))
chained moment left_since may_leave file start old mid new counts first second =
    joined moment left_since old mid new (After file (SameFrom start) (may_leave old)) first (
    weaker moment left_since mid new (After file (SameFrom start) (may_leave mid)) (After file (SameFrom start) (may_leave old))
    (after_joined file (SameFrom start) (same_joined start) (may_leave old) (may_leave mid) (λ d here. first.each d (counts (moment old) d first.later here))) second)

rose : (old mid now : ℕ) → old ≤ mid → Rose mid now → Rose old now
rose old mid now le up = omega (arith, le, up)

module _ {S : Type 0} (g : Ghosts S) (log : LogView) where
  -- after a run that only read, a call that keeps the groups
  pub keeps_on : (failed then : Type 0) (old mid new : S) → (failed → then) → (then → failed) → ((t : ℕ) (c : Image) → g.told → t ≤ g.moment mid → g.may_leave mid c → g.left_since mid t c)
      → (g.told → g.shown mid ≡ g.shown old) → g.faults old ≤ g.faults mid → (g.told → LeavesOnly g.moment g.left_since old mid (After log.file (SameFrom log.start) (g.may_leave old)))
      → KeepsGroups g log then mid new → KeepsGroups g log failed old new
  keeps_on failed then old mid new to back counts still faults moments last = record {
    shown = λ told fine. subst (λ (i : Image). FileStep log.file (SameFrom log.start) i (g.shown new)) (still told) (last.shown told (λ f. fine (back f)));
    any_moment = λ told. chained g.moment g.left_since g.may_leave log.file log.start old mid new (λ t c le here. counts t c told le here) (moments told) (last.any_moment told);
    cause = record { no_fewer = omega (arith, faults, last.cause.no_fewer); cause = λ f. rose (g.faults old) (g.faults mid) (g.faults new) faults (last.cause.cause (to f)) };
  }
