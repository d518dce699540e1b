use Rattle.std.proofs.Common.{◌≡◌, take, map, true}
use Rattle.qc_rows.specs.Places.{are_reserved, places_of, Widens}
use Rattle.qc_rows.proofs.tables.reserve_rows.Given as goal

abbrev pub invariant-loop-row : goal.invariant-loop-row
invariant-loop-row l = record {
  widened : Widens l.fn.tables l.tables;
  reserved : are_reserved (take l.row-index l.rows) (map places_of l.tables) ≡ true;
}
