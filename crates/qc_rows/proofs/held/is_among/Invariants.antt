use Rattle.std.proofs.Common.{◌≡◌, drop}
use Rattle.std.specs.List.{list_any}
use Rattle.qc_base.specs.Rows.{row_eq}
use Rattle.qc_rows.proofs.held.is_among.Given as goal

abbrev pub invariant-loop-other : goal.invariant-loop-other
invariant-loop-other l = list_any (row_eq l.row) (drop l.other-index l.rows) ≡ list_any (row_eq l.row) l.rows
