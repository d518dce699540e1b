use Rattle.std.proofs.Common.{◌≡◌, drop}
use Rattle.qc_rows.specs.Outside.{amount_there}
use Rattle.qc_rows.proofs.outside.amount_there.Given as goal

abbrev pub invariant-loop-row : goal.invariant-loop-row
invariant-loop-row l = amount_there l.key l.rows ≡ amount_there l.key (drop l.row-index l.rows)
