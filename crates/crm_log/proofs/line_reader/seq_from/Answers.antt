use Rattle.std.proofs.Common.{arith}
use Rattle.qc_base.specs.Spelling.{four_bytes, fits_four}
use Rattle.crm_log.specs.Parts.{is_seq}
use Rattle.qc_entries.proofs.Sequence.{narrower_none}
use Rattle.crm_log.proofs.Refused.{four_free, seq_fits, seq_some}
use Rattle.crm_log.proofs.line_reader.seq_from.Goals as goal

pub returns-then-seq-lt1 : goal.returns-then-seq-lt1
returns-then-seq-lt1 c = narrower_none fits_four is_seq four_bytes four_free seq_fits _ _ c.in_ok-seq.seq c.in_ok-seq.ensures (λ h. omega (arith, c.if-seq-lt1.true, seq_some c.in_ok-seq.seq h))
