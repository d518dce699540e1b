use Rattle.std.proofs.Common.{codes, arith}
use Rattle.std.proofs.lemmas.Grind.{common_steps}
use Rattle.qc_orders.proofs.Joined.{joined_first}
use Rattle.qc_orders.proofs.text.put_joined.Goals as goal

pub returns : goal.returns
returns g c = let e = joined_first (codes ", ") g.T.Show.text c.args.items.now c.in-Some.first.now c.in-Some.rest.now c.in-Some.ensures.cases.0 in grind (arith, common_steps, e)
