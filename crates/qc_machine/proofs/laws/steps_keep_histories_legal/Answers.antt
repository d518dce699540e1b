use Rattle.qc_machine.proofs.Settled.{step-settled}
use Rattle.qc_machine.proofs.laws.steps_keep_histories_legal.Goals as goal

pub returns : goal.returns
returns c = step-settled
