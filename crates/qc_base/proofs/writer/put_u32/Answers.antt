use Rattle.std.proofs.Common.{◌∙◌, ap, ℕ, List, ◌++◌}
use Rattle.qc_base.specs.Spelling.{four_bytes}
use Rattle.qc_base.proofs.writer.put_u32.Goals as goal

pub returns-clause-bytes : goal.returns-clause-bytes
unfolding four_bytes
returns-clause-bytes c = c.put_bytes.ensures.bytes ∙ ap (λ (l : List ℕ). c.args.out.now.items ++ l) c.to_be_bytes.ensures
