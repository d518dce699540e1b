use Rattle.std.proofs.Common.{ap}
use Rattle.qc_base.specs.Spelling.{spelled_line}
use Rattle.qc_entries.specs.Entries.{EntriesView}
use Rattle.qc_frame.proofs.Staged.{stands_reserved, stands_staged}
use Rattle.qc_recovery_tests.proofs.add_line.Goals as goal

pub force-requires : goal.force-requires
force-requires g c =
    let site = g.S.Site in
    let shown = site.shown c.log_at_end.new.site in
    let images = site.may_leave c.log_at_end.new.site in
    let roomier = stands_reserved site.told shown images c.in_ok-log.log.log c.reserve.new.self.log _ (ap (λ (v : EntriesView). v.log) c.in_ok-reserve.ensures.ok) c.in_ok-log.ensures.stands in
    record { stands = stands_staged site.told shown images c.reserve.new.self.log c.stage_line.new.self.log (spelled_line c.args.line.now) (ap (λ (v : EntriesView). v.log) c.stage_line.ensures.stages) roomier }
