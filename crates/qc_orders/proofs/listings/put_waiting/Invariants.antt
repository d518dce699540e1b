use Rattle.std.proofs.Common.{◌≡◌, ◌++◌, drop}
use Rattle.qc_protocol.specs.Texts.{queues_text}
use Rattle.qc_orders.proofs.listings.put_waiting.Given as goal

abbrev pub invariant-loop-number : goal.invariant-loop-number
invariant-loop-number l = l.out.items ++ queues_text l.app l.number (drop l.number l.queues) ≡ l.initial.out.items ++ queues_text l.app 0 l.queues
