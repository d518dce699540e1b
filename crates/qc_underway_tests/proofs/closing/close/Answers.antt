use Rattle.std.proofs.Common.{ap}
use Rattle.qc_entries.specs.Entries.{EntriesView}
use Rattle.qc_frame.proofs.Staged.{stands_still}
use Rattle.qc_underway_tests.proofs.closing.close.Goals as goal

pub finish-requires-clause-stands : goal.finish-requires-clause-stands
finish-requires-clause-stands g c =
    let s = g.S.Site in
    let site = c.args.site.now in
    let log = c.args.log.now in
    let later = c.ask_all-refuser.new.log in
    let takes = c.ask_all-refuser.ensures.forgets.staged.room in
    let stood = stands_still s.told (s.shown site) (s.may_leave site) log.log later.log later.log.payload later.log.spare (ap (λ (e : EntriesView). e.log) takes.same) c.requires.stands in
    c.in-Ok.ensures.stands later.log stood
