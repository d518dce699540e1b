use Rattle.std.proofs.Common.{◌≡◌, drop}
use Rattle.qc_play.specs.Board.{seen_of}
use Rattle.qc_play.proofs.worth.seen_of.Given as goal

abbrev pub invariant-loop-seen : goal.invariant-loop-seen
invariant-loop-seen l = seen_of l.row (drop l.seen-index l.view) ≡ seen_of l.row l.view
