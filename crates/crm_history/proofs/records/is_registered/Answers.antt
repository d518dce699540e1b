use Rattle.std.proofs.Common.{◌∙◌}
use Rattle.crm_history.proofs.Lines.{registered-any}
use Rattle.crm_history.proofs.records.is_registered.Goals as goal

pub returns : goal.returns
returns c = c.has_registration.ensures ∙ registered-any c.args.attempt c.args.resource.now c.args.lines.now
