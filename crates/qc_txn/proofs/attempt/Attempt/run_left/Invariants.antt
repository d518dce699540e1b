use Rattle.std.proofs.Common.{◌-◌}
use Rattle.qc_txn.proofs.CallsLeft.{RanSoFar}
use Rattle.qc_txn.proofs.attempt.Attempt.run_left.Given as goal

abbrev pub invariant-loop-self : goal.invariant-loop-self
invariant-loop-self l = RanSoFar l.catalogue l.fn.self l.self

abbrev pub decreases-loop-self : goal.decreases-loop-self
decreases-loop-self l = l.self.count - l.self.calls
