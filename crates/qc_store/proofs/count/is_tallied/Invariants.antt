use Rattle.std.proofs.Common.{◌≡◌, drop}
use Rattle.qc_store.specs.Tallies.{is_tallied}
use Rattle.qc_store.proofs.count.is_tallied.Given as goal

abbrev pub invariant-loop-tally : goal.invariant-loop-tally
invariant-loop-tally l = is_tallied l.app (drop l.tally-index l.tallies) ≡ is_tallied l.app l.tallies
