use Rattle.std.proofs.Common.{◌≡◌, ◌++◌, drop, option_map}
use Rattle.serde_json.specs.View.{items_view}
use Rattle.qc_orders.specs.Orders.{calls_of}
use Rattle.qc_orders.proofs.calls.calls_of.Given as goal

abbrev pub invariant-loop-value : goal.invariant-loop-value
invariant-loop-value l = calls_of (items_view l.values) ≡ option_map (λ more. l.calls.items ++ more) (calls_of (items_view (drop l.value-index l.values)))
