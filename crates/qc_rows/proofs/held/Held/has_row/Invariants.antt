use Rattle.std.proofs.Common.{◌≡◌, drop}
use Rattle.std.specs.List.{list_any}
use Rattle.qc_base.specs.Rows.{row_eq}
use Rattle.qc_rows.specs.Holdings.{Holding}
use Rattle.qc_rows.proofs.held.Held.has_row.Given as goal

abbrev pub invariant-loop-holder : goal.invariant-loop-holder
invariant-loop-holder l = list_any (λ (h : Holding). list_any (row_eq l.row) h.rows) (drop l.holder-index l.holder-items) ≡ list_any (λ (h : Holding). list_any (row_eq l.row) h.rows) l.holder-items
