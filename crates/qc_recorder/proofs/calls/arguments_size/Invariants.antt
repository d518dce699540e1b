use Rattle.std.proofs.Common.{◌≡◌, ◌≤◌, ◌*◌, length, take}
use Rattle.std.specs.List.{flat_map}
use Rattle.qc_base.specs.Spelling.{spelled_arg}
use Rattle.qc_recorder.proofs.calls.arguments_size.Given as goal

abbrev pub invariant-loop-arg : goal.invariant-loop-arg
invariant-loop-arg l = record {
  is : l.size ≡ length (flat_map spelled_arg (take l.arg-index l.args));
  bound : l.size ≤ 66 * l.arg-index;
}
