use Rattle.std.proofs.Common.{◌≡◌, take}
use Rattle.qc_machine.specs.History.{settled_amount}
use Rattle.qc_txn.specs.Outcome.{view_of}
use Rattle.qc_history.proofs.attempts.see.Given as goal

abbrev pub invariant-loop-index : goal.invariant-loop-index
invariant-loop-index l = l.seen.items ≡ view_of (settled_amount l.tables.tables l.outside) (take l.index l.rows)
