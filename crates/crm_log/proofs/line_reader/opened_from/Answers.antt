use Rattle.qc_base.specs.Spelling.{eight_bytes, is_attempt, is_id, is_line, spelled_line}
use Rattle.qc_base.proofs.Facts.{attempt-free}
use Rattle.qc_entries.proofs.Sequence.{pair_none, pair_none_behind, reads_none}
use Rattle.crm_log.proofs.Refused.{opened_none}
use Rattle.crm_log.proofs.line_reader.opened_from.Goals as goal

pub returns-in_err-attempt : goal.returns-in_err-attempt
returns-in_err-attempt c = reads_none is_line spelled_line _ _ _ c.from_residual.ensures (opened_none _ (pair_none is_attempt eight_bytes is_id eight_bytes _ c.in_err-attempt.ensures))

pub returns-in_err-id : goal.returns-in_err-id
returns-in_err-id c = reads_none is_line spelled_line _ _ _ c.from_residual-in_err-id.ensures (opened_none _ (pair_none_behind is_attempt eight_bytes is_id eight_bytes attempt-free _ _ _ c.in_ok-attempt.ensures c.in_err-id.ensures))
