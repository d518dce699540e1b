use Rattle.std.proofs.Common.{◌∙◌, length, max, refl, ap, arith}
use Rattle.qc_frame.proofs.Staged.{stands_reserved}
use Rattle.qc_entries.specs.Entries.{EntriesView}
use Rattle.crm_clerk.specs.Clerk.{ClerkView}
use Rattle.crm_clerk_tests.proofs.desk.Desk.open.Goals as goal

pub returns : goal.returns
returns g c =
    let site = c.log_at_end.new.site in
    let old = c.in_ok-log.log in
    let new = c.reserve.new.self in
    let res = c.in_ok-reserve.ensures.ok in (
      record {
        stands = stands_reserved g.S.Site.told (g.S.Site.shown site) (g.S.Site.may_leave site) old.log new.log (max old.log.spare 2640) (ap (λ (v : EntriesView). v.log) res) c.in_ok-log.ensures.stands;
        clerk_room = omega (arith, ap (λ (v : ClerkView). v.room) c.in_ok-clerk.ensures);
        log_room = record {
          ended = ap (λ (v : EntriesView). v.log.ended) res ∙ c.in_ok-log.ensures.ended.0;
          room = omega (arith, ap (λ (v : EntriesView). v.log.spare) res);
          fits = omega (arith, ap (λ (v : EntriesView). length v.log.payload) res, ap length c.in_ok-log.ensures.ended.1);
        };
      },
      refl,
    )
