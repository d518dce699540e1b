use Rattle.std.proofs.Common.{drop, None}
use Rattle.qc_underway.specs.Compensators.{registered_by}
use Rattle.qc_underway.proofs.Asking.{Asking}
use Rattle.qc_underway.proofs.votes.ask_all.Given as goal

abbrev pub invariant-loop-index : goal.invariant-loop-index
invariant-loop-index l = Asking l.fn.told l.fn.clerk l.fn.log l.fn.notices None (drop l.index (registered_by l.fn.clerk)) l.told l.clerk l.log l.notices
