use Rattle.std.proofs.Common.{◌≡◌, Bor, map, filter, take}
use Rattle.qc_base.specs.declared.message.Message.{Message}
use Rattle.qc_base.specs.Messages.{in_queue, waiting_as}
use Rattle.qc_store.proofs.listing.queue_of.Given as goal

abbrev pub invariant-loop-message : goal.invariant-loop-message
invariant-loop-message l = l.list.items ≡ map (λ (m : Message). waiting_as m.id m.place) (filter (λ (m : Message). in_queue l.queue m.place) (map (λ (r : Bor Message). r.now) (take l.message-index l.own)))
