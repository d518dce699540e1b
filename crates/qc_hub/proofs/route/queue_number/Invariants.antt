use Rattle.std.proofs.Common.{◌≡◌, drop, find, [], ◌∷◌}
use Rattle.std.specs.Str.{bytes_eq}
use Rattle.qc_protocol.specs.Texts.{queue_name}
use Rattle.qc_machine.specs.Moving.{queue_number}
use Rattle.qc_hub.proofs.route.queue_number.Given as goal

abbrev pub invariant-loop-queue : goal.invariant-loop-queue
invariant-loop-queue l = find (λ q. bytes_eq (queue_name l.app q) l.name) (drop l.queue-index (0 ∷ 1 ∷ 2 ∷ 3 ∷ 4 ∷ 5 ∷ 6 ∷ [])) ≡ queue_number l.app l.name
