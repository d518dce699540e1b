use Rattle.std.proofs.Common.{◌≡◌, ◌≤◌, ◌*◌, ℕ, List, take}
use Rattle.std.specs.List.{sum_by}
use Rattle.qc_rows.proofs.table.total_of.Given as goal

abbrev pub invariant-loop-row : goal.invariant-loop-row
invariant-loop-row l = record {
  is : l.total ≡ sum_by (λ (r : List ℕ × ℕ). r.1) (take l.row-index l.rows);
  bound : l.total ≤ 1000000000000000 * l.row-index;
}
