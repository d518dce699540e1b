use Rattle.std.proofs.Common.{◌≤◌, ℕ, List, Ok}
use Rattle.qc_hub.specs.Calls.{IsReady}
use Rattle.qc_drill.specs.Calls.{LeavesDrill}
use Rattle.qc_drill.proofs.Reading.{SoFar}
use Rattle.qc_drill.proofs.turn.Drill.answer_all.Given as goal

abbrev pub invariant-loop-self : goal.invariant-loop-self
invariant-loop-self g l = record {
  ready : IsReady g.S.Site l.self.hub l.site;
  leaves : LeavesDrill g.S.Site (Ok (tt {0})) l.initial.self.hub l.initial.site (g.O.Sink.faults l.initial.sink) l.self.hub l.site (g.O.Sink.faults l.sink);
  source_count : g.I.Source.faults l.initial.source ≤ g.I.Source.faults l.source;
  so_far : (taken : List ℕ) × SoFar g.S.Site taken l.more l.initial.self.hub l.initial.site (g.I.Source.left l.initial.source) (g.O.Sink.contents l.initial.sink) l.self.hub l.self.piece l.site (g.I.Source.left l.source) (g.O.Sink.contents l.sink);
}

abbrev pub decreases-loop-self : goal.decreases-loop-self
decreases-loop-self g l = l.more
