use Rattle.std.proofs.Common.{◌≡◌, take}
use Rattle.qc_protocol.proofs.order.RawCalls.copy.Given as goal

abbrev pub invariant-loop-call : goal.invariant-loop-call
invariant-loop-call l = l.items.items ≡ take l.call-index l.call-items
