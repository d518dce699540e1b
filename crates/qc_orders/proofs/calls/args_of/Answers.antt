use Rattle.std.proofs.Common.{arith}
use Rattle.std.proofs.lemmas.Grind.{common_steps}
use Rattle.qc_orders.proofs.Items.{args_of-items_view}
use Rattle.qc_orders.proofs.calls.args_of.Goals as goal

pub returns : goal.returns
returns c = let e = args_of-items_view c.args.values.now in grind (arith, common_steps, e)
