use Rattle.std.proofs.Common.{◌≡◌, ◌++◌, take, drop}
use Rattle.qc_base.specs.Messages.{after_moved}
use Rattle.qc_store.proofs.change.move_to.Given as goal

abbrev pub invariant-loop-message : goal.invariant-loop-message
invariant-loop-message l = l.messages ≡ after_moved l.ids l.queue l.at (take l.message-index l.initial.messages) ++ drop l.message-index l.initial.messages
