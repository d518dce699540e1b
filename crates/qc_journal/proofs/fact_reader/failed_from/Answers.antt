use Rattle.qc_base.specs.Spelling.{eight_bytes, is_id, is_moment, is_attempt, spelled_fact, is_fact}
use Rattle.qc_entries.proofs.Sequence.{both, pair, pair_none, pair_none_behind, reads_none}
use Rattle.qc_base.proofs.Facts.{id-free, attempt-free}
use Rattle.qc_journal.proofs.Refused.{failed_none}
use Rattle.qc_journal.proofs.fact_reader.failed_from.Goals as goal

pub returns-in_err-id : goal.returns-in_err-id
returns-in_err-id c = reads_none is_fact spelled_fact _ _ _ c.from_residual.ensures (failed_none _ (pair_none is_id eight_bytes (both is_attempt is_moment) (pair eight_bytes eight_bytes) _ c.in_err-id.ensures))

pub returns-in_err-attempt : goal.returns-in_err-attempt
returns-in_err-attempt c = reads_none is_fact spelled_fact _ _ _ c.from_residual-in_err-attempt.ensures (failed_none _ (pair_none_behind is_id eight_bytes (both is_attempt is_moment) (pair eight_bytes eight_bytes) id-free _ _ _ c.in_ok-id.ensures (pair_none is_attempt eight_bytes is_moment eight_bytes _ c.in_err-attempt.ensures)))

pub returns-in_err-at : goal.returns-in_err-at
returns-in_err-at c = reads_none is_fact spelled_fact _ _ _ c.from_residual-in_err-at.ensures (failed_none _ (pair_none_behind is_id eight_bytes (both is_attempt is_moment) (pair eight_bytes eight_bytes) id-free _ _ _ c.in_ok-id.ensures (pair_none_behind is_attempt eight_bytes is_moment eight_bytes attempt-free _ _ _ c.in_ok-attempt.ensures c.in_err-at.ensures)))
