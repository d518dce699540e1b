use Rattle.std.proofs.Common.{◌≡◌, drop}
use Rattle.qc_underway.specs.Compensators.{place_from}
use Rattle.qc_underway.proofs.compensators.place_of.Given as goal

abbrev pub invariant-loop-index : goal.invariant-loop-index
invariant-loop-index l = place_from l.index l.resource (drop l.index l.each) ≡ place_from 0 l.resource l.each
