use Rattle.std.proofs.Common.{ℕ, List, not, rules}
use Rattle.std.specs.Str.{bytes_eq}
use Rattle.std.proofs.lemmas.Fn.{filter_same}
use Rattle.qc_history.proofs.switches.take_out.Goals as goal

pub returns-clause-items : goal.returns-clause-items
returns-clause-items c = filter_same _ (λ (name : List ℕ). not (bytes_eq name c.args.app.now)) _ (λ x b f' k. search rules) _ _ c.retain.ensures.filtered
