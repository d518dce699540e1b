use Rattle.std.proofs.Common.{◌≡◌, ◌+◌, ℕ, List, length, drop}
use Rattle.std.specs.Prelude.{sum_by}
use Rattle.qc_underway.specs.Compensators.{records_of}
use Rattle.qc_underway_tests.proofs.closing.count.Given as goal

abbrev pub invariant-loop-one : goal.invariant-loop-one
invariant-loop-one l = l.total + sum_by (λ (p : List ℕ × ℕ). length (records_of l.clerk p.0)) (drop l.one-index l.registered) ≡ sum_by (λ (p : List ℕ × ℕ). length (records_of l.clerk p.0)) l.registered
