use Rattle.std.proofs.Common.{◌≡◌, ◌<◌, ◌∙◌, sym, rules, length, false, cond, Some, None}
use Rattle.qc_memsite.specs.Rows.{is_row}
use Rattle.qc_memsite.proofs.Amounts.{row_more, option_or}
use Rattle.qc_memsite.proofs.rows.RowList.place.Goals as goal

pub loop-place-preserved : goal.loop-place-preserved
loop-place-preserved c =
    let rows = c.args.self.now.rows.items in
    let x = c.index.result.now in
    let lt : c.loop-place.place < length rows = search rules in
    let no : is_row c.args.resource.now c.args.key.now x ≡ false = sym c.is_of.ensures ∙ c.if-is_of.false in
    row_more rows c.loop-place.place x c.args.resource.now c.args.key.now lt c.index.ensures ∙ (λ j. option_or (c.loop-place.invariant j) (cond (no j) (Some x.amount) None))
