use Rattle.std.proofs.Common.{◌≤◌}
use Rattle.qc_realsite.proofs.streams.RealSourceSource.read.Given as goal

abbrev pub invariant-loop : goal.invariant-loop
invariant-loop g l = l.initial.self.faults.count ≤ l.self.faults.count
