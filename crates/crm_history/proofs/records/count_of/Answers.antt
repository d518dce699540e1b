use Rattle.std.proofs.Common.{◌∙◌}
use Rattle.crm_history.proofs.Lines.{counted}
use Rattle.crm_history.proofs.records.count_of.Goals as goal

pub returns : goal.returns
returns c = c.count_written.ensures ∙ counted c.args.attempt c.args.resource.now c.args.lines.now
