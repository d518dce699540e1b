use Rattle.std.proofs.Common.{◌≡◌, ℕ, List, take}
use Rattle.qc_memsite.specs.Rows.{row_of}
use Rattle.qc_memsite.proofs.rows.RowList.copy.Given as goal

abbrev pub invariant-loop-row : goal.invariant-loop-row
invariant-loop-row l = (r k : List ℕ) → row_of l.rows.items r k ≡ row_of (take l.row-index l.row-items) r k
