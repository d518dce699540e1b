use Rattle.std.proofs.Common.{sym, rules}
use Rattle.serde_json.specs.Errors.{IsMemory}
use Rattle.serde_json.specs.View.{view}
use Rattle.qc_orders.proofs.Values.{value_there, no_value}
use Rattle.qc_orders.proofs.members.read_value.Goals as goal

pub returns-in-Ok : goal.returns-in-Ok
returns-in-Ok c = let ok = c.in-Ok.ensures.ok in sym (value_there c.args.line.now (view c.in-Ok.value) ok.0 ok.1)

pub returns-in-Err-2 : goal.returns-in-Err-2
returns-in-Err-2 c = let refused : ¬ IsMemory c.in-Err.e = search rules in sym (no_value c.args.line.now (c.in-Err.ensures.err refused))
