use Rattle.std.proofs.Common.{◌≡◌, drop}
use Rattle.qc_play.specs.Board.{looked_up}
use Rattle.qc_play.proofs.worth.behind_writes.Given as goal

abbrev pub invariant-loop-write : goal.invariant-loop-write
invariant-loop-write l = looked_up l.row (drop l.write-index l.writes) l.amount ≡ looked_up l.row l.writes l.fn.before
