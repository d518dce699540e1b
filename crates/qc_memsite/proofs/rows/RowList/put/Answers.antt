use Rattle.std.proofs.Common.{refl, sym, ap, Option, ℕ}
use Rattle.std.specs.Option.{is_some}
use Rattle.qc_memsite.proofs.Amounts.{row_at, row_put}
use Rattle.qc_memsite.proofs.rows.RowList.put.Goals as goal

pub returns-in-Some-clause-there : goal.returns-in-Some-clause-there
returns-in-Some-clause-there c = sym (ap (λ (o : Option ℕ). is_some o) (row_at c.args.self.now.rows.items c.in-Some.place c.index_mut.result.now c.args.resource.now c.args.key.now c.in-Some.ensures.there c.index_mut.ensures.value))

pub returns-in-Some-clause-set : goal.returns-in-Some-clause-set
returns-in-Some-clause-set c = λ found. row_put c.args.self.now.rows.items c.in-Some.place c.index_mut.result.now _ c.args.resource.now c.args.key.now c.args.amount c.in-Some.ensures.there c.index_mut.ensures.value refl refl refl
