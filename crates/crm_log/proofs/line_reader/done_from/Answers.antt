use Rattle.qc_base.specs.Spelling.{is_line, spelled_line}
use Rattle.qc_entries.proofs.Sequence.{reads_none}
use Rattle.crm_log.proofs.Refused.{done_none}
use Rattle.crm_log.proofs.line_reader.done_from.Goals as goal

pub returns-in_err-attempt : goal.returns-in_err-attempt
returns-in_err-attempt c = reads_none is_line spelled_line _ _ _ c.from_residual.ensures (done_none _ c.in_err-attempt.ensures)
