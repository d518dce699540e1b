use Rattle.std.proofs.Common.{◌≡◌, drop}
use Rattle.qc_rows.specs.Tables.{rows_shown}
use Rattle.qc_rows.proofs.tables.rows_of.Given as goal

abbrev pub invariant-loop-table : goal.invariant-loop-table
invariant-loop-table l = rows_shown l.name l.tables ≡ rows_shown l.name (drop l.table-index l.tables)
