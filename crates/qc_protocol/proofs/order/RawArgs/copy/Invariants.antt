use Rattle.std.proofs.Common.{◌≡◌, take}
use Rattle.qc_protocol.proofs.order.RawArgs.copy.Given as goal

abbrev pub invariant-loop-arg : goal.invariant-loop-arg
invariant-loop-arg l = l.items.items ≡ take l.arg-index l.arg-items
