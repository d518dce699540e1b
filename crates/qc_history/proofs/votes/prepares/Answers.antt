use Rattle.std.proofs.Common.{◌∙◌, ap}
use Rattle.crm_driver.specs.Compensators.{CompensatorState}
use Rattle.qc_history.proofs.votes.prepares.Goals as goal

pub returns : goal.returns
returns c = c.prepare.ensures.answer ∙ ap (λ (s : CompensatorState). s.rules.ready c.args.records.now) c.in_ok-told.ensures
