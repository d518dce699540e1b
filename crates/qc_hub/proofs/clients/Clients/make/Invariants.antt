use Rattle.std.proofs.Common.{◌≡◌, replicate, None}
use Rattle.qc_hub.proofs.clients.Clients.make.Given as goal

abbrev pub invariant-loop : goal.invariant-loop
invariant-loop l = l.slots.items ≡ replicate l.counter None
