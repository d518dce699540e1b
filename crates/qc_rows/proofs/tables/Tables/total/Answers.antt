use Rattle.std.proofs.Common.{◌∙◌, sym, ap}
use Rattle.qc_rows.specs.Tables.{sum_of}
use Rattle.qc_rows.proofs.Amounts.{set-sum}
use Rattle.qc_rows.proofs.tables.Tables.total.Goals as goal

pub returns : goal.returns
returns c = c.total_of.ensures ∙ sym (set-sum c.rows.result.now) ∙ ap sum_of c.rows.ensures.rows
