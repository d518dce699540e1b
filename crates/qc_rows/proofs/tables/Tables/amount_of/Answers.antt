use Rattle.std.proofs.Common.{◌∙◌, sym, ap}
use Rattle.qc_rows.specs.Tables.{amount_at}
use Rattle.qc_rows.proofs.Amounts.{set-amount}
use Rattle.qc_rows.proofs.tables.Tables.amount_of.Goals as goal

pub returns : goal.returns
returns c = c.amount_at.ensures ∙ sym (set-amount c.args.key.now c.rows.result.now c.rows.ensures.ascend) ∙ ap (amount_at c.args.key.now) c.rows.ensures.rows
