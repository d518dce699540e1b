use Rattle.std.proofs.Common.{◌≡◌, take, map}
use Rattle.qc_machine.specs.Listing.{shown_row}
use Rattle.qc_hub.proofs.table.shown_rows.Given as goal

abbrev pub invariant-loop-row : goal.invariant-loop-row
invariant-loop-row l = l.shown.items ≡ map shown_row (take l.row-index l.rows)
