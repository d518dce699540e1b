use Rattle.std.proofs.Common.{◌≡◌, take}
use Rattle.qc_recorder.proofs.calls.with_call.Given as goal

abbrev pub invariant-loop-held : goal.invariant-loop-held
invariant-loop-held l = l.items.items ≡ take l.held-index l.calls
