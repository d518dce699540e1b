use Rattle.std.proofs.Common.{◌≡◌, length, false}
use Rattle.qc_script.specs.Sums.{terms_front, prefixed}
use Rattle.qc_script.proofs.sums.read_sum.Given as goal

abbrev pub invariant-loop-sign : goal.invariant-loop-sign
invariant-loop-sign l = terms_front l.tables l.params false l.fn.words ≡ prefixed l.terms.items (terms_front l.tables l.params l.minus l.words)

abbrev pub decreases-loop-sign : goal.decreases-loop-sign
decreases-loop-sign l = length l.words
