use Rattle.std.proofs.Common.{◌≡◌, ℕ, List, [], ◌∷◌, take, map}
use Rattle.qc_base.specs.declared.message.Message.{Message}
use Rattle.qc_base.specs.Messages.{listing}
use Rattle.qc_store.specs.Own.{AreOwn}
use Rattle.qc_store.proofs.listing.queues_of.Given as goal

abbrev pub invariant-loop-queue : goal.invariant-loop-queue
invariant-loop-queue l = (app : List ℕ) → (messages : List Message) → AreOwn app messages l.own → l.queues.items ≡ map (λ q. listing app q messages) (take l.queue-index (0 ∷ 1 ∷ 2 ∷ 3 ∷ 4 ∷ 5 ∷ []))
