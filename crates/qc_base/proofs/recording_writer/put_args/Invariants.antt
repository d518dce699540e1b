use Rattle.std.proofs.Common.{◌≡◌, ◌≤◌, ◌++◌, take, vec_capacity}
use Rattle.std.specs.List.{flat_map}
use Rattle.qc_base.specs.Spelling.{spelled_arg}
use Rattle.qc_base.proofs.recording_writer.put_args.Given as goal

abbrev pub invariant-loop-arg : goal.invariant-loop-arg
invariant-loop-arg l =
    (l.out.items ≡ l.initial.out.items ++ flat_map spelled_arg (take l.arg-index l.args))
    × (vec_capacity l.initial.out ≤ vec_capacity l.out)
