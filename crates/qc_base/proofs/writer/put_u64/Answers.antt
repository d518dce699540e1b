use Rattle.std.proofs.Common.{◌∙◌, ap, ℕ, List, ◌++◌}
use Rattle.qc_base.specs.Spelling.{eight_bytes}
use Rattle.qc_base.proofs.writer.put_u64.Goals as goal

pub returns-clause-bytes : goal.returns-clause-bytes
unfolding eight_bytes
returns-clause-bytes c = c.put_bytes.ensures.bytes ∙ ap (λ (l : List ℕ). c.args.out.now.items ++ l) c.to_be_bytes.ensures
