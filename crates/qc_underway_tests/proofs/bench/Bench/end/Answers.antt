use Rattle.std.proofs.Common.{ap}
use Rattle.qc_entries.specs.Entries.{EntriesView}
use Rattle.qc_frame.proofs.Staged.{stands_reserved}
use Rattle.qc_underway_tests.proofs.bench.Bench.end.Goals as goal

pub close-ended-requires-clause-stands : goal.close-ended-requires-clause-stands
close-ended-requires-clause-stands g c =
    let s = g.S.Site in
    let site = c.force_log.new.site in
    let old = c.force_log.new.log in
    let new = c.set_aside.new.log in
    let made = c.in_ok-made.ensures in
    stands_reserved s.told (s.shown site) (s.may_leave site) old.log new.log made.spare (ap (λ (e : EntriesView). e.log) made.same) c.in-Ok.ensures.forces.makes.stands
