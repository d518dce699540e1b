use Rattle.std.proofs.Common.{◌≡◌, take, map}
use Rattle.qc_rows.specs.Outside.{named_rows}
use Rattle.qc_rows.proofs.outside.OutsideAmounts.make.Given as goal

abbrev pub invariant-loop-resource : goal.invariant-loop-resource
invariant-loop-resource l = l.resources.items ≡ map named_rows (take l.resource-index l.named)
