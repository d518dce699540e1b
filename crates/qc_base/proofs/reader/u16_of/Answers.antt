use Rattle.std.proofs.Common.{rules}
use Rattle.std.proofs.lemmas.Nat.{be_bytes_2}
use Rattle.qc_base.specs.Spelling.{two_bytes}
use Rattle.qc_base.proofs.reader.u16_of.Goals as goal

pub returns : goal.returns
unfolding two_bytes
returns c = be_bytes_2 _ _ (search rules) (search rules) c.from_be_bytes.ensures
