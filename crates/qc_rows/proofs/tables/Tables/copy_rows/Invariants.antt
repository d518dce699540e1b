use Rattle.std.proofs.Common.{◌≡◌, take, map}
use Rattle.qc_rows.specs.Tables.{row_amount}
use Rattle.qc_rows.proofs.tables.Tables.copy_rows.Given as goal

abbrev pub invariant-loop-row : goal.invariant-loop-row
invariant-loop-row l = l.amounts.items ≡ map (row_amount l.self.tables) (take l.row-index l.rows)
