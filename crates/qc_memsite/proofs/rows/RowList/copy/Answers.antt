use Rattle.std.proofs.Common.{◌≡◌, ◌∙◌, ◌&&◌, sym, ap, rules, List, cond, Some, None, [], ◌∷◌}
use Rattle.std.specs.Str.{bytes_eq}
use Rattle.qc_memsite.specs.Rows.{row_of}
use Rattle.qc_memsite.specs.declared.row.RowAmount.{RowAmount}
use Rattle.qc_memsite.proofs.Amounts.{row_more, row_append, option_or}
use Rattle.qc_memsite.proofs.rows.RowList.copy.Goals as goal

pub loop-row-preserved : goal.loop-row-preserved
loop-row-preserved c = λ r k.
    let list = c.deref-row-items.result.now in
    let x = c.row-item.result in
    let y = c.in_ok-row.row in
    let rs : y.resource.items ≡ x.resource.items = search rules in
    let ks : y.key.items ≡ x.key.items = search rules in
    ap (λ (l : List RowAmount). row_of l r k) c.in_ok-push.ensures.items
    ∙ row_append c.loop-row.rows.items (y ∷ []) r k
    ∙ (λ j. option_or (c.loop-row.invariant r k j) (cond (bytes_eq r (rs j) && bytes_eq k (ks j)) (Some (c.in_ok-row.ensures.amount j)) None))
    ∙ sym (row_more list c.loop-row.row-index x r k c.loop-row-test.true c.row-item.is)
