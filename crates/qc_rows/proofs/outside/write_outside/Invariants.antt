use Rattle.std.proofs.Common.{◌≡◌, drop}
use Rattle.qc_rows.specs.Outside.{outside_by}
use Rattle.qc_rows.proofs.outside.write_outside.Given as goal

abbrev pub invariant-loop-seen : goal.invariant-loop-seen
invariant-loop-seen l = outside_by (drop l.seen-index l.view) l.resources ≡ outside_by l.view l.fn.resources
