use Rattle.qc_base.specs.Spelling.{eight_bytes, is_id, is_moment, is_attempt, spelled_fact, is_fact}
use Rattle.qc_journal.specs.Parts.{is_any, spelled_kind}
use Rattle.qc_entries.proofs.Sequence.{both, pair, pair_none, pair_none_behind, reads_none}
use Rattle.qc_base.proofs.Facts.{id-free, attempt-free}
use Rattle.qc_journal.proofs.PartsFree.{kind_free}
use Rattle.qc_journal.proofs.Refused.{played_none}
use Rattle.qc_journal.proofs.fact_reader.played_from.Goals as goal

pub returns-in_err-id : goal.returns-in_err-id
returns-in_err-id c = reads_none is_fact spelled_fact _ _ _ c.from_residual.ensures (played_none _ (pair_none is_id eight_bytes (both is_attempt (both is_any is_moment)) (pair eight_bytes (pair spelled_kind eight_bytes)) _ c.in_err-id.ensures))

pub returns-in_err-attempt : goal.returns-in_err-attempt
returns-in_err-attempt c = reads_none is_fact spelled_fact _ _ _ c.from_residual-in_err-attempt.ensures (played_none _ (pair_none_behind is_id eight_bytes (both is_attempt (both is_any is_moment)) (pair eight_bytes (pair spelled_kind eight_bytes)) id-free _ _ _ c.in_ok-id.ensures (pair_none is_attempt eight_bytes (both is_any is_moment) (pair spelled_kind eight_bytes) _ c.in_err-attempt.ensures)))

pub returns-in_err-kind : goal.returns-in_err-kind
returns-in_err-kind c = reads_none is_fact spelled_fact _ _ _ c.from_residual-in_err-kind.ensures (played_none _ (pair_none_behind is_id eight_bytes (both is_attempt (both is_any is_moment)) (pair eight_bytes (pair spelled_kind eight_bytes)) id-free _ _ _ c.in_ok-id.ensures (pair_none_behind is_attempt eight_bytes (both is_any is_moment) (pair spelled_kind eight_bytes) attempt-free _ _ _ c.in_ok-attempt.ensures (pair_none is_any spelled_kind is_moment eight_bytes _ c.in_err-kind.ensures))))

pub returns-in_err-at : goal.returns-in_err-at
returns-in_err-at c = reads_none is_fact spelled_fact _ _ _ c.from_residual-in_err-at.ensures (played_none _ (pair_none_behind is_id eight_bytes (both is_attempt (both is_any is_moment)) (pair eight_bytes (pair spelled_kind eight_bytes)) id-free _ _ _ c.in_ok-id.ensures (pair_none_behind is_attempt eight_bytes (both is_any is_moment) (pair spelled_kind eight_bytes) attempt-free _ _ _ c.in_ok-attempt.ensures (pair_none_behind is_any spelled_kind is_moment eight_bytes kind_free _ _ _ c.in_ok-kind.ensures c.in_err-at.ensures))))
