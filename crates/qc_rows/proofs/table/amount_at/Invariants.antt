use Rattle.std.proofs.Common.{◌≡◌, drop}
use Rattle.qc_rows.specs.Tables.{amount_at}
use Rattle.qc_rows.proofs.table.amount_at.Given as goal

abbrev pub invariant-loop-row : goal.invariant-loop-row
invariant-loop-row l = amount_at l.key l.rows ≡ amount_at l.key (drop l.row-index l.rows)
