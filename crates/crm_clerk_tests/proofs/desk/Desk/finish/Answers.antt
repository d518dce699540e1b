use Rattle.std.proofs.Common.{ap}
use Rattle.qc_frame.proofs.Staged.{stands_still}
use Rattle.qc_entries.specs.Entries.{EntriesView}
use Rattle.crm_clerk_tests.proofs.desk.Desk.finish.Goals as goal

pub force-requires : goal.force-requires
force-requires g c =
    let d = c.args.self in
    let later = c.finish.new.log in
    record {
      stands = stands_still g.S.Site.told (g.S.Site.shown d.site) (g.S.Site.may_leave d.site) d.log.log later.log later.log.payload later.log.spare
          (ap (λ (v : EntriesView). v.log) c.finish.ensures.room.same) c.requires.ready.stands;
    }
