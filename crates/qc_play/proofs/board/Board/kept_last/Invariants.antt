use Rattle.std.proofs.Common.{◌≡◌, drop}
use Rattle.qc_play.specs.Play.{kept_last}
use Rattle.qc_play.proofs.Records.{kept_over}
use Rattle.qc_play.proofs.board.Board.kept_last.Given as goal

abbrev pub invariant-loop-record : goal.invariant-loop-record
invariant-loop-record l = kept_over l.resource l.last (drop l.record-index l.record-items) ≡ kept_last l.resource l.record-items
