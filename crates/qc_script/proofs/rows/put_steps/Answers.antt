use Rattle.std.proofs.Common.{◌≡◌, sym, rules}
use Rattle.qc_script.specs.Naming.{rows_with, rows_of_step}
use Rattle.qc_script.proofs.RowsWith.{steps_on}
use Rattle.qc_script.proofs.rows.put_steps.Goals as goal

pub loop-step-preserved : goal.loop-step-preserved
loop-step-preserved c =
    let put : c.put_step.new.rows.items ≡ rows_with c.loop-step.rows.items (rows_of_step c.args.args.now c.step-item.result) = search rules in
    steps_on c.args.args.now c.loop-step.rows.items c.put_step.new.rows.items _ c.args.steps.now c.loop-step.step-index c.step-item.result c.loop-step-test.true (sym c.step-item.is) put c.loop-step.invariant
