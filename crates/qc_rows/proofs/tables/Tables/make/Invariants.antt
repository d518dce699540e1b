use Rattle.std.proofs.Common.{◌≡◌, take, map}
use Rattle.qc_rows.specs.Tables.{opening_rows}
use Rattle.qc_rows.proofs.tables.Tables.make.Given as goal

abbrev pub invariant-loop-opening : goal.invariant-loop-opening
invariant-loop-opening l = l.tables.items ≡ map opening_rows (take l.opening-index l.openings)
