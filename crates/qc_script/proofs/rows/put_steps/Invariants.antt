use Rattle.std.proofs.Common.{◌≡◌, drop, flat_map}
use Rattle.qc_script.specs.Naming.{rows_with, rows_of_step}
use Rattle.qc_script.proofs.rows.put_steps.Given as goal

abbrev pub invariant-loop-step : goal.invariant-loop-step
invariant-loop-step l = rows_with l.rows.items (flat_map (rows_of_step l.args) (drop l.step-index l.steps)) ≡ rows_with l.fn.rows.items (flat_map (rows_of_step l.args) l.steps)
