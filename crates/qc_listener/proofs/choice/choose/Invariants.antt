use Rattle.qc_listener.proofs.Choosing.{Walked}
use Rattle.qc_listener.proofs.choice.choose.Given as goal

abbrev pub invariant-loop : goal.invariant-loop
invariant-loop l = Walked l.held l.rows l.now l.app l.store.messages l.after l.blocked l.counter
