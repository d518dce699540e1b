use Rattle.std.proofs.Common.{◌≡◌, drop}
use Rattle.qc_play.specs.Board.{applied}
use Rattle.qc_play.proofs.state.write_rows.Given as goal

abbrev pub invariant-loop-write : goal.invariant-loop-write
invariant-loop-write l = applied (drop l.write-index l.writes) l.view ≡ applied l.writes l.fn.view
