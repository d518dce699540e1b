use Rattle.std.proofs.Common.{◌≡◌, length, take}
use Rattle.std.specs.List.{flat_map}
use Rattle.qc_base.specs.Spelling.{spelled_arg}
use Rattle.qc_base.proofs.size.args_size.Given as goal

abbrev pub invariant-loop-arg : goal.invariant-loop-arg
invariant-loop-arg l = l.size ≡ length (flat_map spelled_arg (take l.arg-index l.args))
