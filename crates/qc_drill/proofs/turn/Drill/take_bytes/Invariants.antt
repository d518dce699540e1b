use Rattle.std.proofs.Common.{◌≤◌, ℕ, List, length, Ok}
use Rattle.qc_hub.specs.Calls.{IsReady}
use Rattle.qc_drill.specs.Calls.{LeavesDrill}
use Rattle.qc_drill.specs.Holds.{Holds}
use Rattle.qc_drill.proofs.Turns.{CameTo}
use Rattle.qc_drill.proofs.turn.Drill.take_bytes.Given as goal

abbrev pub invariant-loop-end : goal.invariant-loop-end
invariant-loop-end g l = record {
  ready : IsReady g.S.Site l.self.hub l.site;
  small : length l.rest ≤ 4096;
  leaves : LeavesDrill g.S.Site (Ok (tt {0})) l.initial.self.hub l.initial.site (g.O.Sink.faults l.initial.sink) l.self.hub l.site (g.O.Sink.faults l.sink);
  came : (line : List ℕ) → Holds l.initial.self.piece line → CameTo g.S.Site line l.bytes l.rest l.initial.self.hub l.initial.site (g.O.Sink.contents l.initial.sink) l.self.hub l.self.piece l.site (g.O.Sink.contents l.sink);
}

abbrev pub decreases-loop-end : goal.decreases-loop-end
decreases-loop-end g l = length l.rest
