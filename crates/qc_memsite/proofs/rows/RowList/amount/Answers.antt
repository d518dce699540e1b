use Rattle.std.proofs.Common.{sym}
use Rattle.qc_memsite.proofs.Amounts.{row_at}
use Rattle.qc_memsite.proofs.rows.RowList.amount.Goals as goal

pub returns-clause-value : goal.returns-clause-value
returns-clause-value c = sym (row_at c.args.self.now.rows.items c.in_ok-place.place c.index.result.now c.args.resource.now c.args.key.now c.in_ok-place.ensures.there c.index.ensures)
