use Rattle.std.proofs.Common.{◌≡◌, drop}
use Rattle.qc_script.specs.Terms.{place_from}
use Rattle.qc_script.proofs.terms.place_of.Given as goal

abbrev pub invariant-loop-index : goal.invariant-loop-index
invariant-loop-index l = place_from l.index l.kind l.name (drop l.index l.params) ≡ place_from 0 l.kind l.name l.params
