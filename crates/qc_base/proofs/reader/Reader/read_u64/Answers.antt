use Rattle.qc_base.specs.Spelling.{eight_bytes, is_id}
use Rattle.qc_base.proofs.Bytes.{none_short, length-eight_bytes, eight_bytes-taken}
use Rattle.qc_base.proofs.reader.Reader.read_u64.Goals as goal

pub returns-in_err-bytes : goal.returns-in_err-bytes
returns-in_err-bytes c = rw c.from_residual.ensures (rw (← c.self.view_is) (none_short is_id eight_bytes 8 length-eight_bytes _ c.in_err-bytes.ensures.cases))

pub returns : goal.returns
returns c = rw (← c.self.view_is) (eight_bytes-taken _ _ _ _ c.in_ok-bytes.ensures.cases.0 c.in_ok-bytes.ensures.cases.1 c.u64_of.type_inv c.u64_of.ensures)
