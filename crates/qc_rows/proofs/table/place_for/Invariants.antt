use Rattle.std.proofs.Common.{◌≡◌, ◌++◌, drop, take}
use Rattle.qc_rows.specs.Places.{with_place}
use Rattle.qc_rows.proofs.table.place_for.Given as goal

abbrev pub invariant-loop-row : goal.invariant-loop-row
invariant-loop-row l = record {
  is : with_place l.key l.rows ≡ take l.place l.rows ++ with_place l.key (drop l.place l.rows);
  place : l.place ≡ l.row-index;
}
