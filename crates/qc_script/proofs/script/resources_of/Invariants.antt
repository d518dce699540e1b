use Rattle.std.proofs.Common.{◌≡◌, drop, flat_map, []}
use Rattle.qc_script.specs.Naming.{effect_of, names_with}
use Rattle.qc_script.proofs.script.resources_of.Given as goal

abbrev pub invariant-loop-step : goal.invariant-loop-step
invariant-loop-step l = names_with l.names.items (flat_map effect_of (drop l.step-index l.steps)) ≡ names_with [] (flat_map effect_of l.steps)
