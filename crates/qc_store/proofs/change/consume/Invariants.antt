use Rattle.std.proofs.Common.{◌≡◌, ◌++◌, take, drop}
use Rattle.qc_base.specs.Messages.{after_consumed}
use Rattle.qc_store.proofs.change.consume.Given as goal

abbrev pub invariant-loop-message : goal.invariant-loop-message
invariant-loop-message l = l.messages ≡ after_consumed l.id l.attempt (take l.message-index l.initial.messages) ++ drop l.message-index l.initial.messages
