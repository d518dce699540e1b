use Rattle.std.proofs.Common.{◌≡◌, ◌+◌, drop}
use Rattle.qc_txn.specs.Parts.{parts_from, rows_of_parts}
use Rattle.qc_listener.proofs.attempt.with_calls.Given as goal

abbrev pub invariant-loop-call : goal.invariant-loop-call
invariant-loop-call l = rows_of_parts (parts_from (l.call-index + 1) l.methods (drop l.call-index l.calls)) l.rows.items ≡ rows_of_parts (parts_from 1 l.methods l.calls) l.fn.rows.items
