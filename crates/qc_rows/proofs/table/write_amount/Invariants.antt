use Rattle.std.proofs.Common.{◌≡◌, ◌++◌, drop, take}
use Rattle.qc_rows.specs.Places.{written}
use Rattle.qc_rows.proofs.table.write_amount.Given as goal

abbrev pub invariant-loop-row : goal.invariant-loop-row
invariant-loop-row l = l.rows ≡ written l.key l.amount (take l.row-index l.fn.rows) ++ drop l.row-index l.fn.rows
