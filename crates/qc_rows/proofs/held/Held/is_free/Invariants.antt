use Rattle.std.proofs.Common.{◌≡◌, drop}
use Rattle.std.specs.List.{list_any}
use Rattle.qc_rows.specs.Holdings.{is_row_held}
use Rattle.qc_rows.proofs.held.Held.is_free.Given as goal

abbrev pub invariant-loop-row : goal.invariant-loop-row
invariant-loop-row l = list_any (is_row_held l.self) (drop l.row-index l.rows) ≡ list_any (is_row_held l.self) l.rows
