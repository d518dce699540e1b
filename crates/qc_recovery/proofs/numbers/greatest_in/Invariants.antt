use Rattle.std.proofs.Common.{◌≡◌, map, max, drop}
use Rattle.qc_base.specs.LogLines.{attempt_of_line}
use Rattle.qc_machine.specs.Attempts.{greatest}
use Rattle.qc_recovery.proofs.numbers.greatest_in.Given as goal

abbrev pub invariant-loop-line : goal.invariant-loop-line
invariant-loop-line l = max l.greatest (greatest (map attempt_of_line (drop l.line-index l.lines))) ≡ max l.least (greatest (map attempt_of_line l.lines))
