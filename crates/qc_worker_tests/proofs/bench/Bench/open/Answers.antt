use Rattle.std.proofs.Common.{◌≡◌, ◌∙◌, length, max, ap, arith}
use Rattle.qc_frame.proofs.Staged.{stands_reserved}
use Rattle.qc_frame.specs.Log.{LogView}
use Rattle.qc_entries.specs.Entries.{EntriesView}
use Rattle.crm_clerk.specs.Clerk.{ClerkView, new_clerk}
use Rattle.qc_worker_tests.proofs.bench.Bench.open.Goals as goal

pub returns : goal.returns
returns g c =
    let site = c.log_at_end.new.site in
    let old = c.in_ok-log.log in
    let new = c.reserve.new.self in
    let res = c.in_ok-reserve.ensures.ok in
    let log_is : new.log ≡ record old.log { spare = max old.log.spare 3960 } = ap (λ (v : EntriesView). v.log) res in
    let clerk_is : c.in_ok-clerk.clerk ≡ new_clerk 1 7 20 = c.in_ok-clerk.ensures in
    λ running. record {
      stands = stands_reserved g.S.Site.told (g.S.Site.shown site) (g.S.Site.may_leave site) old.log new.log (max old.log.spare 3960) log_is c.in_ok-log.ensures.stands;
      clerk_room = omega (arith, ap (λ (v : ClerkView). v.room) clerk_is);
      log_room = record {
        ended = ap (λ (l : LogView). l.ended) log_is ∙ c.in_ok-log.ensures.ended.0;
        room = omega (arith, ap (λ (l : LogView). l.spare) log_is);
        fits = omega (arith, ap (λ (l : LogView). length l.payload) log_is, ap length c.in_ok-log.ensures.ended.1);
      };
    }
