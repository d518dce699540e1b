use Rattle.qc_machine.specs.Carrying.{clerk_over}
use Rattle.qc_laws.proofs.LegalLog.{all-keep, calls-keep, change-may, end-keeps, phase-keeps}
use Rattle.qc_laws.proofs.Writing.{retract-follow}
use Rattle.qc_laws.proofs.laws.an_attempt_keeps_the_log_legal.Goals as goal

pub returns : goal.returns
returns m = record {
  change = change-may;
  retract = λ c sent ended o attempt id resource undone. retract-follow c sent ended (clerk_over o attempt id) resource undone;
  effects = λ c sent ended attempt id rows first effects o before after known is outer leads may. all-keep c sent ended attempt id rows first known effects o before after is outer leads may;
  calls = λ c sent ended rows first parts all x known is may. calls-keep c sent ended rows first known parts all x is may;
  votes = end-keeps;
  phase = phase-keeps;
}
