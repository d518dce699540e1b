use Rattle.std.proofs.Common.{◌≡◌, find, take, None}
use Rattle.std.specs.Str.{bytes_eq}
use Rattle.qc_store.specs.declared.tally.Tally.{Tally}
use Rattle.qc_store.proofs.count.add_one.Given as goal

abbrev pub invariant-loop-tally : goal.invariant-loop-tally
invariant-loop-tally l = record { same : l.tallies ≡ l.initial.tallies; none : find (λ (t : Tally). bytes_eq t.app l.app) (take l.tally-index l.initial.tallies) ≡ None }
