use Rattle.std.proofs.Common.{sym, subst}
use Rattle.qc_entries.specs.Entries.{EntriesView}
use Rattle.crm_clerk.specs.Staging.{TakesRoom}
use Rattle.crm_clerk.proofs.Rooms.{can-stage, takes-one}
use Rattle.crm_clerk.proofs.clerk.stage.Goals as goal

pub stage_line-requires : goal.stage_line-requires
stage_line-requires c = can-stage c.args.log.now c.args.line.now c.within_limits.ensures c.requires.log

pub returns-clause-room : goal.returns-clause-room
returns-clause-room c = subst (λ (e : EntriesView). TakesRoom 1 c.args.log.now e) (sym c.stage_line.ensures.stages) (takes-one c.args.log.now c.args.line.now c.within_limits.ensures)
