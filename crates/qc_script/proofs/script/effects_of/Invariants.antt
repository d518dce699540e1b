use Rattle.std.proofs.Common.{◌≡◌, ◌+◌, ◌≤◌, drop}
use Rattle.qc_script.specs.Naming.{effects}
use Rattle.qc_script.proofs.script.effects_of.Given as goal

abbrev pub invariant-loop-step : goal.invariant-loop-step
invariant-loop-step l = (l.count + effects (drop l.step-index l.steps) ≡ effects l.steps) × (l.count ≤ l.step-index)
