use Rattle.std.proofs.Common.{◌≡◌, ◌≤◌, length, map, take, vec_len, vec_capacity}
use Rattle.qc_frame.specs.Calls.{WritesNothing}
use Rattle.qc_machine.specs.Listing.{held_row}
use Rattle.qc_hub.proofs.outside.held_rows.Given as goal

abbrev pub invariant-loop-row : goal.invariant-loop-row
invariant-loop-row g l = record {
  read : g.S.Site.told → l.shown.items ≡ map (held_row (g.S.Site.shown l.fn.site).rows l.fn.resource) (take l.row-index l.fn.rows);
  writes : WritesNothing g.S.Site ⊥ l.fn.site l.site;
  len : vec_len l.shown ≡ l.row-index;
  room : length l.fn.rows ≤ vec_capacity l.shown;
}
