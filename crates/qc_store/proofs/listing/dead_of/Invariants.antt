use Rattle.std.proofs.Common.{◌≡◌, take, map}
use Rattle.qc_base.specs.declared.queue.Waiting.{Waiting}
use Rattle.qc_store.proofs.listing.dead_of.Given as goal

abbrev pub invariant-loop-waiting : goal.invariant-loop-waiting
invariant-loop-waiting l = l.ids.items ≡ map (λ (w : Waiting). w.id) (take l.waiting-index l.waiting-items)
