use Rattle.crm_recovery.proofs.LinesRead.{not-damaged}
use Rattle.crm_recovery.proofs.laws.a_legal_log_is_not_damaged.Goals as goal

pub returns : goal.returns
returns c = not-damaged
