use Rattle.std.proofs.Common.{◌≤◌}
use Rattle.qc_sqlite_tests.proofs.agree.Given as goal

-- neither count has fallen
abbrev pub invariant-loop : goal.invariant-loop
invariant-loop g l = (g.A.Keeper.faults l.initial.first ≤ g.A.Keeper.faults l.first) × (g.B.Keeper.faults l.initial.second ≤ g.B.Keeper.faults l.second)
