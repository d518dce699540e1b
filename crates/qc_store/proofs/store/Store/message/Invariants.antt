use Rattle.std.proofs.Common.{◌≡◌, take, None}
use Rattle.qc_base.specs.Messages.{message_of}
use Rattle.qc_store.proofs.store.Store.message.Given as goal

abbrev pub invariant-loop-message : goal.invariant-loop-message
invariant-loop-message l = message_of l.id (take l.message-index l.message-items) ≡ None
