use Rattle.qc_entries.specs.Entries.{way_left}
use Rattle.crm_recovery.proofs.LinesRead.{ReadSoFar}
use Rattle.crm_recovery.proofs.reading.read_lines.Given as goal

abbrev pub invariant-loop-lines : goal.invariant-loop-lines
invariant-loop-lines g l = ReadSoFar g.S.Site l.catalogue l.sent l.ended l.fn.log l.fn.site l.log l.lines.items l.site

abbrev pub decreases-loop-lines : goal.decreases-loop-lines
decreases-loop-lines g l = way_left l.log
