use Rattle.qc_machine.proofs.Totals.{totals-settled}
use Rattle.qc_machine.proofs.laws.totals_are_settled.Goals as goal

pub returns : goal.returns
returns c = totals-settled
