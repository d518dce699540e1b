use Rattle.std.proofs.Common.{◌≡◌, map, take}
use Rattle.serde_json.specs.View.{view}
use Rattle.qc_orders.specs.Orders.{arg_of}
use Rattle.qc_orders.proofs.calls.args_of.Given as goal

abbrev pub invariant-loop-value : goal.invariant-loop-value
invariant-loop-value l = l.args.items ≡ map (λ v. arg_of (view v)) (take l.value-index l.values)
