use Rattle.std.proofs.Common.{◌≡◌, ◌+◌, count_by, take}
use Rattle.qc_play.specs.Play.{is_of}
use Rattle.qc_play.proofs.board.Board.next_of.Given as goal

abbrev pub invariant-loop-record : goal.invariant-loop-record
invariant-loop-record l = l.next ≡ count_by (is_of l.resource) (take l.record-index l.record-items) + 1
