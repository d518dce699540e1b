use Rattle.std.proofs.Common.{◌≡◌, ◌+◌, ◌≤◌, drop}
use Rattle.qc_script.specs.Naming.{outs}
use Rattle.qc_script.proofs.script.outs_of.Given as goal

abbrev pub invariant-loop-step : goal.invariant-loop-step
invariant-loop-step l = (l.count + outs (drop l.step-index l.steps) ≡ outs l.steps) × (l.count ≤ l.step-index)
