use Rattle.std.proofs.Common.{drop}
use Rattle.qc_underway.specs.Compensators.{registered_by}
use Rattle.qc_underway.proofs.Delivering.{Delivering}
use Rattle.qc_underway.proofs.phase.deliver.Given as goal

abbrev pub invariant-loop-registered : goal.invariant-loop-registered
invariant-loop-registered g l = Delivering g.S.Site l.clerk l.committed l.fn.told l.fn.notices l.fn.site (drop l.registered-index (registered_by l.clerk)) l.told l.notices l.site
