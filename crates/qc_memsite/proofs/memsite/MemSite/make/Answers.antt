use Rattle.std.proofs.Common.{◌∙◌}
use Rattle.qc_memsite.specs.Calls.{shown_after}
use Rattle.qc_memsite.specs.Shown.{shown_by, first_by}
use Rattle.qc_memsite.proofs.memsite.MemSite.make.Goals as goal

pub returns-clause-no_rows : goal.returns-clause-no_rows
returns-clause-no_rows c = λ r k. (λ i. (shown_by (c.over.ensures.kept i)).rows r k) ∙ (λ i. (shown_after (c.make.ensures.calls i) (first_by c.make.result)).rows r k) ∙ c.make.ensures.rows r k
