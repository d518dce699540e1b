use Rattle.qc_recovery.proofs.Refusing.{not-refused, empty-not-damaged}
use Rattle.qc_recovery.proofs.laws.a_site_that_stands_is_not_refused.Goals as goal

pub returns-clause-stands : goal.returns-clause-stands
returns-clause-stands c = λ image facts log spells error why. not-refused c.a_legal_log_is_not_damaged.ensures image facts log spells error why

pub returns-clause-one_cause : goal.returns-clause-one_cause
returns-clause-one_cause c = λ image damage empty why. empty-not-damaged image damage empty why
