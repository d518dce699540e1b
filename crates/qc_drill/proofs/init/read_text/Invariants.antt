use Rattle.std.proofs.Common.{◌≤◌, ◌-◌, length}
use Rattle.qc_drill.proofs.Making.{TextSoFar}
use Rattle.qc_drill.proofs.init.read_text.Given as goal

abbrev pub invariant-loop-chunk : goal.invariant-loop-chunk
invariant-loop-chunk g l = record {
  count : g.I.Source.faults l.initial.source ≤ g.I.Source.faults l.source;
  so_far : TextSoFar l.text.items (g.I.Source.left l.initial.source) (g.I.Source.left l.source);
}

abbrev pub decreases-loop-chunk : goal.decreases-loop-chunk
decreases-loop-chunk g l = 1048577 - length l.text.items
