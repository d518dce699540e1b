use Rattle.std.proofs.Common.{◌≡◌, ◌++◌, drop, take}
use Rattle.qc_rows.specs.Places.{written_row}
use Rattle.qc_rows.proofs.tables.write_row.Given as goal

abbrev pub invariant-loop-table : goal.invariant-loop-table
invariant-loop-table l = l.tables ≡ written_row l.row l.amount (take l.table-index l.fn.tables) ++ drop l.table-index l.fn.tables
