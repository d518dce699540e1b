use Rattle.std.proofs.Common.{◌≡◌, ◌==◌, drop}
use Rattle.std.specs.List.{list_any}
use Rattle.qc_rows.specs.Holdings.{Holding}
use Rattle.qc_rows.proofs.held.Held.has.Given as goal

abbrev pub invariant-loop-holder : goal.invariant-loop-holder
invariant-loop-holder l = list_any (λ (h : Holding). h.id == l.id) (drop l.holder-index l.holder-items) ≡ list_any (λ (h : Holding). h.id == l.id) l.holder-items
