use Rattle.qc_base.specs.Names.{is_text}
use Rattle.qc_base.proofs.Reading.{short_bytes-read}
use Rattle.qc_base.proofs.reader.Reader.read_text.Goals as goal

pub returns : goal.returns
returns c = short_bytes-read is_text _ _ _ _ _ _ c.in_ok-len.ensures c.in_ok-read_bytes.ensures.0 c.in_ok-read_bytes.ensures.1 c.read.ensures
