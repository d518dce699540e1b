use Rattle.std.proofs.Common.{◌≡◌, None, take}
use Rattle.qc_memsite.specs.Rows.{row_of}
use Rattle.qc_memsite.proofs.rows.RowList.place.Given as goal

abbrev pub invariant-loop-place : goal.invariant-loop-place
invariant-loop-place l = row_of (take l.place l.self.rows.items) l.resource l.key ≡ None
