use Rattle.std.proofs.Common.{◌≡◌, drop}
use Rattle.qc_store.specs.Tallies.{tally_of}
use Rattle.qc_store.proofs.count.tally_of.Given as goal

abbrev pub invariant-loop-tally : goal.invariant-loop-tally
invariant-loop-tally l = tally_of l.app (drop l.tally-index l.tallies) ≡ tally_of l.app l.tallies
