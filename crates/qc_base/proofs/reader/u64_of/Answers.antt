use Rattle.std.proofs.Common.{rules}
use Rattle.std.proofs.lemmas.Nat.{be_bytes_8}
use Rattle.qc_base.specs.Spelling.{eight_bytes}
use Rattle.qc_base.proofs.reader.u64_of.Goals as goal

pub returns : goal.returns
unfolding eight_bytes
returns c = be_bytes_8 _ _ (search rules) (search rules) c.from_be_bytes.ensures
