use Rattle.std.proofs.Common.{◌≡◌, take}
use Rattle.qc_play.specs.Play.{rows_in}
use Rattle.qc_txn.proofs.attempt.Attempt.rows.Given as goal

abbrev pub invariant-loop-seen : goal.invariant-loop-seen
invariant-loop-seen l = l.rows.items ≡ rows_in (take l.seen-index l.seen-items)
