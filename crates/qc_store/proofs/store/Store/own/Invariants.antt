use Rattle.std.proofs.Common.{◌≡◌, Bor, map, take}
use Rattle.qc_base.specs.declared.message.Message.{Message}
use Rattle.qc_base.specs.Messages.{of_app}
use Rattle.qc_store.proofs.store.Store.own.Given as goal

abbrev pub invariant-loop-message : goal.invariant-loop-message
invariant-loop-message l = map (λ (r : Bor Message). r.now) l.own.items ≡ of_app l.app (take l.message-index l.message-items)
