use Rattle.std.proofs.Common.{take, option_map, Bor}
use Rattle.qc_base.specs.declared.message.Message.{Message}
use Rattle.qc_store.specs.Due.{may_be_next}
use Rattle.qc_store.proofs.First.{FirstOf}
use Rattle.qc_store.proofs.store.Store.next_due.Given as goal

abbrev pub invariant-loop-message : goal.invariant-loop-message
invariant-loop-message l = FirstOf (may_be_next l.app l.after) (take l.message-index l.message-items) (option_map (λ (r : Bor Message). r.now) l.first)
