use Rattle.std.proofs.Common.{◌∙◌, [], length, refl, ap, arith}
use Rattle.qc_base.specs.Spelling.{spelled_line}
use Rattle.qc_base.specs.declared.log_line.LogLine.TheVariants.{Done}
use Rattle.qc_base.proofs.LogSpellings.{line-bounded}
use Rattle.qc_frame.proofs.Staged.{stands_staged}
use Rattle.qc_entries.specs.Entries.{EntriesView}
use Rattle.crm_log.specs.Log.{LinesWait}
use Rattle.crm_log.proofs.Spells.{some_wait}
use Rattle.crm_recovery.specs.Settling.{done_group}
use Rattle.crm_recovery.proofs.Finishing.{done-finished}
use Rattle.crm_recovery.proofs.InTurn.{adds-done}
use Rattle.crm_recovery.proofs.finish.write_done.Goals as goal

pub stage_line-requires : goal.stage_line-requires
stage_line-requires g c =
    let bounds = line-bounded (Done c.args.attempt) c.requires.limits in
    record {
      limits = c.requires.limits;
      can = record {
        some = bounds.0;
        ended = c.requires.ended;
        room = c.requires.room;
        fits = omega (arith, ap length c.requires.waits, bounds.1);
      };
    }

pub force-requires : goal.force-requires
force-requires g c =
    let site = g.S.Site in
    record {
      stands = stands_staged site.told (site.shown c.args.site.now) (site.may_leave c.args.site.now) c.args.log.now.log c.stage_line.new.self.log (spelled_line (Done c.args.attempt))
          (ap (λ (v : EntriesView). v.log) c.stage_line.ensures.stages) c.requires.stands;
    }

pub returns-clause-finishes : goal.returns-clause-finishes
returns-clause-finishes g c =
    done-finished g.S.Site c.args.attempt c.args.log.now c.stage_line.new.self c.force.new.self c.args.site.now c.force.new.site c.length.ensures.whole.0 c.requires.waits c.stage_line.ensures.stages c.requires.limits c.force.ensures.left
    c.force.result c.force.ensures.forces c.force.ensures.spells

pub returns-clause-moments : goal.returns-clause-moments
returns-clause-moments g c =
    let site = g.S.Site in
    let staged = c.stage_line.new.self in
    let is = c.stage_line.ensures.stages in
    let wait : LinesWait staged (done_group c.args.attempt) = c.stage_line.ensures.waits [] (record { limits = refl; payload = c.requires.waits }) in
    let stood = stands_staged site.told (site.shown c.args.site.now) (site.may_leave c.args.site.now) c.args.log.now.log staged.log (spelled_line (Done c.args.attempt)) (ap (λ (v : EntriesView). v.log) is) c.requires.stands in
    adds-done site c.args.attempt staged.log c.force.new.self.log c.args.site.now c.force.new.site (ap (λ (v : EntriesView). v.log.file) is ∙ c.length.ensures.whole.0) (ap (λ (v : EntriesView). v.log.start) is ∙ c.length.ensures.whole.1)
    wait.payload (some_wait staged (done_group c.args.attempt) wait (omega arith)) stood (λ t i told le here. g.met.S.Site.counts_now c.force.new.site t i told le here) c.force.result c.force.ensures.forces
