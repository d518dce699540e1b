use Rattle.std.proofs.Common.{◌≡◌, drop}
use Rattle.std.specs.List.{list_all}
use Rattle.qc_txn.specs.Parts.{has_method}
use Rattle.qc_txn.proofs.parts.has_methods.Given as goal

abbrev pub invariant-loop-call : goal.invariant-loop-call
invariant-loop-call l = list_all (has_method l.component.methods) l.calls ≡ list_all (has_method l.component.methods) (drop l.call-index l.calls)
