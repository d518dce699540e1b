use Rattle.qc_base.specs.Spelling.{four_bytes, fits_four}
use Rattle.qc_base.proofs.Bytes.{none_short, length-four_bytes, four_bytes-taken}
use Rattle.qc_base.proofs.reader.Reader.read_u32.Goals as goal

pub returns-in_err-bytes : goal.returns-in_err-bytes
returns-in_err-bytes c = rw c.from_residual.ensures (rw (← c.self.view_is) (none_short fits_four four_bytes 4 length-four_bytes _ c.in_err-bytes.ensures.cases))

pub returns : goal.returns
returns c = rw (← c.self.view_is) (four_bytes-taken _ _ _ _ c.in_ok-bytes.ensures.cases.0 c.in_ok-bytes.ensures.cases.1 c.u32_of.type_inv c.u32_of.ensures)
