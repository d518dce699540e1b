use Rattle.std.proofs.Common.{◌≡◌, take, filter}
use Rattle.qc_rows.specs.Tables.{is_set}
use Rattle.qc_rows.proofs.table.set_rows.Given as goal

abbrev pub invariant-loop-row : goal.invariant-loop-row
invariant-loop-row l = l.there.items ≡ filter is_set (take l.row-index l.rows)
