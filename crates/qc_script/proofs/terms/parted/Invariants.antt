use Rattle.std.proofs.Common.{◌≡◌, ◌+◌, drop}
use Rattle.std.specs.List.{position_or_len}
use Rattle.qc_script.specs.Terms.{is_open}
use Rattle.qc_script.proofs.terms.parted.Given as goal

abbrev pub invariant-loop-index : goal.invariant-loop-index
invariant-loop-index l = l.index + position_or_len is_open (drop l.index l.word) ≡ position_or_len is_open l.word
