use Rattle.std.proofs.Common.{◌≡◌, ◌+◌, drop, false}
use Rattle.qc_script.specs.Words.{word_length}
use Rattle.qc_script.proofs.words.word_end.Given as goal

abbrev pub invariant-loop-index : goal.invariant-loop-index
invariant-loop-index l = l.index + word_length l.inside (drop l.index l.line) ≡ word_length false l.line
