use Rattle.std.proofs.Common.{◌≡◌, ◌≤◌, ◌++◌, take, vec_capacity}
use Rattle.std.specs.List.{flat_map}
use Rattle.qc_base.specs.Spelling.{spelled_call}
use Rattle.qc_base.proofs.recording_writer.put_calls.Given as goal

abbrev pub invariant-loop-call : goal.invariant-loop-call
invariant-loop-call l =
    (l.out.items ≡ l.initial.out.items ++ flat_map spelled_call (take l.call-index l.calls))
    × (vec_capacity l.initial.out ≤ vec_capacity l.out)
