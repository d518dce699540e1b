use Rattle.std.proofs.Common.{◌≡◌, ◌++◌, drop, take}
use Rattle.qc_play.specs.Play.{with_amount}
use Rattle.qc_play.proofs.state.write_row.Given as goal

abbrev pub invariant-loop-seen : goal.invariant-loop-seen
invariant-loop-seen l = l.view ≡ with_amount l.row l.amount (take l.seen-index l.fn.view) ++ drop l.seen-index l.fn.view
