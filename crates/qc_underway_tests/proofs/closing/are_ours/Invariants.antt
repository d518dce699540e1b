use Rattle.std.proofs.Common.{◌≡◌, ℕ, List, drop}
use Rattle.std.specs.List.{list_all}
use Rattle.qc_underway.proofs.Made.{is_made}
use Rattle.qc_underway_tests.proofs.closing.are_ours.Given as goal

abbrev pub invariant-loop-one : goal.invariant-loop-one
invariant-loop-one l = list_all (λ (p : List ℕ × ℕ). is_made l.catalogue l.names p.0) (drop l.one-index l.registered) ≡ list_all (λ (p : List ℕ × ℕ). is_made l.catalogue l.names p.0) l.registered
