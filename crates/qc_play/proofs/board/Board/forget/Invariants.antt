use Rattle.std.proofs.Common.{◌≡◌, ◌++◌, drop, take}
use Rattle.qc_play.specs.Play.{forget}
use Rattle.qc_play.proofs.board.Board.forget.Given as goal

abbrev pub invariant-loop-record : goal.invariant-loop-record
invariant-loop-record l = l.record-items ≡ forget l.resource l.seq (take l.record-index l.fn.self.records.items) ++ drop l.record-index l.fn.self.records.items
