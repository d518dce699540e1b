use Rattle.std.proofs.Common.{◌≡◌, take, map, true}
use Rattle.qc_rows.specs.Places.{is_reserved, places_of, Widens}
use Rattle.qc_rows.proofs.tables.reserve_row.Given as goal

abbrev pub invariant-loop-i : goal.invariant-loop-i
invariant-loop-i l = record {
  widened : Widens l.fn.tables l.tables;
  reserved : is_reserved l.row (map places_of (take l.i l.tables)) ≡ true;
}
