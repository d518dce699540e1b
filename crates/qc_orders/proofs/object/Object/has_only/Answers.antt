use Rattle.std.proofs.Common.{◌∙◌, ◌++◌}
use Rattle.serde_json.specs.View.{view}
use Rattle.qc_orders.specs.Orders.{heading}
use Rattle.qc_orders.proofs.Items.{has_only-keys}
use Rattle.qc_orders.proofs.object.Object.has_only.Goals as goal

pub returns-in-Some : goal.returns-in-Some
returns-in-Some c = c.all_own.ensures ∙ has_only-keys (heading c.args.self.now.moment ++ c.args.members.now) (view c.args.self.now.value.now) c.in-Some.map.now.entries c.in-Some.ensures
