use Rattle.qc_base.specs.Spelling.{two_bytes, fits_two}
use Rattle.qc_base.proofs.Bytes.{none_short, length-two_bytes, two_bytes-taken}
use Rattle.qc_base.proofs.reader.Reader.read_u16.Goals as goal

pub returns-in_err-bytes : goal.returns-in_err-bytes
returns-in_err-bytes c = rw c.from_residual.ensures (rw (← c.self.view_is) (none_short fits_two two_bytes 2 length-two_bytes _ c.in_err-bytes.ensures.cases))

pub returns : goal.returns
returns c = rw (← c.self.view_is) (two_bytes-taken _ _ _ _ c.in_ok-bytes.ensures.cases.0 c.in_ok-bytes.ensures.cases.1 c.u16_of.type_inv c.u16_of.ensures)
