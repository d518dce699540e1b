use Rattle.qc_base.specs.Names.{is_name}
use Rattle.qc_base.specs.Spelling.{eight_bytes, fits_four, four_bytes, is_attempt, is_line, short_bytes, spelled_line}
use Rattle.qc_base.proofs.Facts.{attempt-free}
use Rattle.qc_entries.proofs.Attempts.{name_free}
use Rattle.qc_entries.proofs.Sequence.{both, pair, pair_none, pair_none_behind, reads_none}
use Rattle.crm_log.proofs.Refused.{forgot_none}
use Rattle.crm_log.proofs.line_reader.forgot_from.Goals as goal

pub returns-in_err-attempt : goal.returns-in_err-attempt
returns-in_err-attempt c = reads_none is_line spelled_line _ _ _ c.from_residual.ensures (forgot_none _ (pair_none is_attempt eight_bytes (both is_name fits_four) (pair short_bytes four_bytes) _ c.in_err-attempt.ensures))

pub returns-in_err-resource : goal.returns-in_err-resource
returns-in_err-resource c = reads_none is_line spelled_line _ _ _ c.from_residual-in_err-resource.ensures (forgot_none _ (pair_none_behind is_attempt eight_bytes (both is_name fits_four) (pair short_bytes four_bytes) attempt-free _ _ _ c.in_ok-attempt.ensures (pair_none is_name short_bytes fits_four four_bytes _ c.in_err-resource.ensures)))

pub returns-in_err-seq : goal.returns-in_err-seq
returns-in_err-seq c = reads_none is_line spelled_line _ _ _ c.from_residual-in_err-seq.ensures (forgot_none _ (pair_none_behind is_attempt eight_bytes (both is_name fits_four) (pair short_bytes four_bytes) attempt-free _ _ _ c.in_ok-attempt.ensures (pair_none_behind is_name short_bytes fits_four four_bytes name_free _ _ _ c.in_ok-resource.ensures c.in_err-seq.ensures)))
