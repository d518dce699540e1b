use Rattle.std.proofs.Common.{◌==◌, not, rules}
use Rattle.std.proofs.lemmas.Fn.{filter_same}
use Rattle.qc_listener.specs.Index.{MessageRows}
use Rattle.qc_listener.proofs.index.take_out.Goals as goal

pub returns-clause-items : goal.returns-clause-items
returns-clause-items c = filter_same _ (λ (m : MessageRows). not (m.id == c.args.id)) _ (λ x b f' k. search rules) _ _ c.retain.ensures.filtered
