use Rattle.qc_base.specs.Names.{is_name}
use Rattle.qc_base.specs.Spelling.{eight_bytes, is_attempt, is_line, short_bytes, spelled_line}
use Rattle.crm_log.specs.Parts.{are_phases, one_byte}
use Rattle.qc_base.proofs.Facts.{attempt-free}
use Rattle.qc_entries.proofs.Attempts.{name_free}
use Rattle.qc_entries.proofs.Sequence.{both, pair, pair_none, pair_none_behind, reads_none}
use Rattle.crm_log.proofs.Refused.{registered_none}
use Rattle.crm_log.proofs.line_reader.registered_from.Goals as goal

pub returns-in_err-attempt : goal.returns-in_err-attempt
returns-in_err-attempt c = reads_none is_line spelled_line _ _ _ c.from_residual.ensures (registered_none _ (pair_none is_attempt eight_bytes (both is_name are_phases) (pair short_bytes one_byte) _ c.in_err-attempt.ensures))

pub returns-in_err-resource : goal.returns-in_err-resource
returns-in_err-resource c = reads_none is_line spelled_line _ _ _ c.from_residual-in_err-resource.ensures (registered_none _ (pair_none_behind is_attempt eight_bytes (both is_name are_phases) (pair short_bytes one_byte) attempt-free _ _ _ c.in_ok-attempt.ensures (pair_none is_name short_bytes are_phases one_byte _ c.in_err-resource.ensures)))

pub returns-in_err-phases : goal.returns-in_err-phases
returns-in_err-phases c = reads_none is_line spelled_line _ _ _ c.from_residual-in_err-phases.ensures (registered_none _ (pair_none_behind is_attempt eight_bytes (both is_name are_phases) (pair short_bytes one_byte) attempt-free _ _ _ c.in_ok-attempt.ensures (pair_none_behind is_name short_bytes are_phases one_byte name_free _ _ _ c.in_ok-resource.ensures c.in_err-phases.ensures)))
