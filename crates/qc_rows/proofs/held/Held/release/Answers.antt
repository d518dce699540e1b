use Rattle.std.proofs.Common.{◌==◌, ◌∙◌, not, ap, rules}
use Rattle.std.proofs.lemmas.Fn.{filter_same}
use Rattle.qc_rows.specs.Holdings.{Holding, released}
use Rattle.qc_rows.proofs.held.Held.release.Goals as goal

pub returns : goal.returns
returns c = filter_same _ (λ (h : Holding). not (h.attempt == c.args.attempt)) _ (λ x b f' k. search rules) _ _ c.retain.ensures.filtered ∙ ap (released c.args.attempt) c.self.view_is
