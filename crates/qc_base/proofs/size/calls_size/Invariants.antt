use Rattle.std.proofs.Common.{◌≡◌, length, take}
use Rattle.std.specs.List.{flat_map}
use Rattle.qc_base.specs.Spelling.{spelled_call}
use Rattle.qc_base.proofs.size.calls_size.Given as goal

abbrev pub invariant-loop-call : goal.invariant-loop-call
invariant-loop-call l = l.size ≡ length (flat_map spelled_call (take l.call-index l.calls))
