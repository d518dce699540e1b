use Rattle.std.proofs.Common.{◌≡◌, drop}
use Rattle.qc_script.specs.Words.{words}
use Rattle.qc_script.proofs.words.behind_spaces.Given as goal

abbrev pub invariant-loop-index : goal.invariant-loop-index
invariant-loop-index l = words (drop l.index l.line) ≡ words l.line
