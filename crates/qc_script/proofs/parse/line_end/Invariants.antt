use Rattle.std.proofs.Common.{◌≡◌, ◌+◌, drop}
use Rattle.qc_script.specs.Reading.{line_length}
use Rattle.qc_script.proofs.parse.line_end.Given as goal

abbrev pub invariant-loop-index : goal.invariant-loop-index
invariant-loop-index l = l.index + line_length (drop l.index l.text) ≡ line_length l.text
