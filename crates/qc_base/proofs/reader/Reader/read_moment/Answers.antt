use Rattle.std.proofs.Common.{lit<}
use Rattle.qc_base.proofs.Reading.{eight_bytes-read}
use Rattle.qc_base.proofs.reader.Reader.read_moment.Goals as goal

pub returns : goal.returns
returns c = eight_bytes-read 1000000000000 _ _ _ _ (lit< tt) c.in_ok-read_u64.ensures c.new.ensures
