use Rattle.std.proofs.Common.{rules}
use Rattle.std.proofs.lemmas.Nat.{be_bytes_4}
use Rattle.qc_base.specs.Spelling.{four_bytes}
use Rattle.qc_base.proofs.reader.u32_of.Goals as goal

pub returns : goal.returns
unfolding four_bytes
returns c = be_bytes_4 _ _ (search rules) (search rules) c.from_be_bytes.ensures
