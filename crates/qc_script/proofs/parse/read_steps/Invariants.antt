use Rattle.std.proofs.Common.{◌≡◌, ◌+◌, ◌≤◌, ◌++◌, length}
use Rattle.qc_script.specs.Scripts.{lines, first_fault, steps_in}
use Rattle.qc_script.specs.Reading.{fault_from, lines_left, rest_size}
use Rattle.qc_script.proofs.LinesRead.{IsRead}
use Rattle.qc_script.proofs.parse.read_steps.Given as goal

abbrev pub invariant-loop-left : goal.invariant-loop-left
invariant-loop-left l = IsRead (lines l.names l.params l.text) l.number l.reading.steps.items l.reading.when (lines_left l.names l.params l.left) (rest_size l.left)

abbrev pub decreases-loop-left : goal.decreases-loop-left
decreases-loop-left l = rest_size l.left
