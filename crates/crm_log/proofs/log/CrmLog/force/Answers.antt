use Rattle.std.proofs.Common.{rules}
use Rattle.crm_log.proofs.Kept.{forced_log}
use Rattle.crm_log.proofs.log.CrmLog.force.Goals as goal

pub returns-clause-spells : goal.returns-clause-spells
returns-clause-spells g c = search (rules, forced_log)
