use Rattle.crm_recovery.proofs.Unfinished.{legal-behind, all-finished}
use Rattle.crm_recovery.proofs.laws.nothing_is_left_to_finish.Goals as goal

pub returns-clause-legal : goal.returns-clause-legal
returns-clause-legal c = legal-behind

pub returns-clause-finished : goal.returns-clause-finished
returns-clause-finished c = all-finished
