use Rattle.std.proofs.Common.{◌≡◌, drop}
use Rattle.qc_machine.specs.History.{are_distinct}
use Rattle.qc_history.proofs.moving.are_distinct.Given as goal

abbrev pub invariant-loop-index : goal.invariant-loop-index
invariant-loop-index l = are_distinct l.ids ≡ are_distinct (drop l.index l.ids)
