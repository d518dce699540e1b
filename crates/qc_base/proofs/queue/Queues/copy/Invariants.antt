use Rattle.std.proofs.Common.{◌≡◌, take}
use Rattle.qc_base.proofs.queue.Queues.copy.Given as goal

abbrev pub invariant-loop-queue : goal.invariant-loop-queue
invariant-loop-queue l = l.items.items ≡ take l.queue-index l.queue-items
