use Rattle.std.proofs.Common.{◌≡◌, drop}
use Rattle.qc_rows.specs.Places.{written_by}
use Rattle.qc_rows.proofs.tables.write_view.Given as goal

abbrev pub invariant-loop-seen : goal.invariant-loop-seen
invariant-loop-seen l = written_by (drop l.seen-index l.view) l.tables ≡ written_by l.view l.fn.tables
