use Rattle.std.proofs.Common.{◌≡◌, ◌≤◌, ◌*◌, take}
use Rattle.qc_machine.specs.Listing.{shown_total}
use Rattle.qc_hub.proofs.outside.total_of.Given as goal

abbrev pub invariant-loop-row : goal.invariant-loop-row
invariant-loop-row l = record {
  is : l.total ≡ shown_total (take l.row-index l.rows);
  bound : l.total ≤ 1000000000000000 * l.row-index;
}
