-- Orders that switch an application on or off.
use Rattle.std.specs.Prelude.{ℕ, List, Bool}
use Rattle.qc_base.specs.declared.fact.Fact.{Fact}
use Rattle.qc_base.specs.declared.fact.Fact.TheVariants.{Switched as FactSwitched}
use Rattle.qc_protocol.specs.declared.reply.Reply.TheVariants.{Switched}
use Rattle.qc_machine.specs.State.{State, with_new_fact}
use Rattle.qc_machine.specs.Steps.{Step, stays}

abbrev pub fact_switched : State → List ℕ → Bool → Fact
fact_switched s app on = FactSwitched app on s.last

abbrev pub switch_step : State → List ℕ → Bool → Step
switch_step s app on = stays (with_new_fact (fact_switched s app on) s) (Switched app on)
