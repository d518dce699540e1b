use Rattle.std.proofs.Common.{◌≡◌, ◌++◌, take, drop}
use Rattle.qc_base.specs.Messages.{after_failed}
use Rattle.qc_store.proofs.change.fail.Given as goal

abbrev pub invariant-loop-message : goal.invariant-loop-message
invariant-loop-message l = l.messages ≡ after_failed l.id l.at (take l.message-index l.initial.messages) ++ drop l.message-index l.initial.messages
