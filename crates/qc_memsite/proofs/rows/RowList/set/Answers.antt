use Rattle.std.proofs.Common.{◌∙◌, ◌++◌, ◌∷◌, [], sym, ap, List}
use Rattle.qc_memsite.specs.Rows.{row_of}
use Rattle.qc_memsite.specs.declared.row.RowAmount.{RowAmount}
use Rattle.qc_memsite.proofs.Amounts.{row_pushed, none_of}
use Rattle.qc_memsite.proofs.rows.RowList.set.Goals as goal

pub returns-clause-ok : goal.returns-clause-ok
returns-clause-ok c =
    let rows = c.args.self.now.rows.items in
    let row = c.in_ok-row.row in
    let missing = none_of (row_of rows c.args.resource.now c.args.key.now) (sym c.put.ensures.there ∙ c.if-put.false) in
    let pushed = c.in_ok-push.ensures.items ∙ ap (λ (l : List RowAmount). l ++ row ∷ []) (c.put.ensures.same c.if-put.false) in
    λ r k. ap (λ (l : List RowAmount). row_of l r k) pushed ∙ row_pushed rows row c.args.resource.now c.args.key.now c.args.amount missing c.in_ok-row.ensures.resource c.in_ok-row.ensures.key c.in_ok-row.ensures.amount r k
