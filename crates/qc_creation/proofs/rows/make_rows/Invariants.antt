use Rattle.std.proofs.Common.{take, map}
use Rattle.qc_creation.specs.Rows.{opening_row, rows_of}
use Rattle.qc_creation.proofs.Rowing.{RowsDone}
use Rattle.qc_creation.proofs.rows.make_rows.Given as goal

abbrev pub invariant-loop-key : goal.invariant-loop-key
invariant-loop-key g l = RowsDone g.S.Site (rows_of l.fn.resource) (map (opening_row l.fn.resource.name) (take l.key-index l.fn.resource.rows)) l.fn.site l.site
