use Rattle.std.proofs.Common.{◌≡◌, ◌++◌, length}
use Rattle.qc_machine.specs.Moving.{batches, facts_of_batches}
use Rattle.qc_hub.proofs.moving.facts_moved.Given as goal

abbrev pub invariant-loop-left : goal.invariant-loop-left
invariant-loop-left l = l.facts.items ++ facts_of_batches l.route.app l.route.to l.at (batches l.size l.left) ≡ facts_of_batches l.route.app l.route.to l.at (batches l.size l.ids)

abbrev pub decreases-loop-left : goal.decreases-loop-left
decreases-loop-left l = length l.left
