use Rattle.qc_machine.proofs.Rules.{step-refused, step-moments, step-facts}
use Rattle.qc_machine.proofs.laws.steps_keep_the_rules.Goals as goal

pub returns : goal.returns
returns c = record { refused = step-refused; moments = step-moments; facts = step-facts }
