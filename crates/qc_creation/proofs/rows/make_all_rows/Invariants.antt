use Rattle.std.proofs.Common.{take}
use Rattle.std.specs.List.{flat_map}
use Rattle.qc_creation.specs.Rows.{rows_of}
use Rattle.qc_creation.proofs.Rowing.{RowsDone}
use Rattle.qc_creation.proofs.rows.make_all_rows.Given as goal

abbrev pub invariant-loop-resource : goal.invariant-loop-resource
invariant-loop-resource g l = RowsDone g.S.Site (flat_map rows_of l.fn.resources) (flat_map rows_of (take l.resource-index l.fn.resources)) l.fn.site l.site
