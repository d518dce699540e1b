use Rattle.std.proofs.Common.{◌∙◌}
use Rattle.crm_history.proofs.Lines.{wrote-any}
use Rattle.crm_history.proofs.records.wrote_row.Goals as goal

pub returns : goal.returns
returns c = c.has_key.ensures ∙ wrote-any c.args.attempt c.args.resource.now c.args.key.now c.args.lines.now
