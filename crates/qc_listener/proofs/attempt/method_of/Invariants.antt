use Rattle.std.proofs.Common.{◌≡◌, drop}
use Rattle.qc_catalogue.specs.Lookup.{method_of}
use Rattle.qc_listener.proofs.attempt.method_of.Given as goal

abbrev pub invariant-loop-method : goal.invariant-loop-method
invariant-loop-method l = method_of l.name l.methods ≡ method_of l.name (drop l.method-index l.methods)
