use Rattle.qc_base.specs.Names.{is_name}
use Rattle.qc_base.specs.Spelling.{short_bytes, eight_bytes, is_moment, spelled_fact, is_fact}
use Rattle.qc_journal.specs.Parts.{is_any, spelled_flag}
use Rattle.qc_entries.proofs.Sequence.{both, pair, pair_none, pair_none_behind, reads_none}
use Rattle.qc_entries.proofs.Attempts.{name_free}
use Rattle.qc_journal.proofs.PartsFree.{flag_free}
use Rattle.qc_journal.proofs.Refused.{switched_none}
use Rattle.qc_journal.proofs.fact_reader.switched_from.Goals as goal

pub returns-in_err-app : goal.returns-in_err-app
returns-in_err-app c = reads_none is_fact spelled_fact _ _ _ c.from_residual.ensures (switched_none _ (pair_none is_name short_bytes (both is_any is_moment) (pair spelled_flag eight_bytes) _ c.in_err-app.ensures))

pub returns-in_err-on : goal.returns-in_err-on
returns-in_err-on c = reads_none is_fact spelled_fact _ _ _ c.from_residual-in_err-on.ensures (switched_none _ (pair_none_behind is_name short_bytes (both is_any is_moment) (pair spelled_flag eight_bytes) name_free _ _ _ c.in_ok-app.ensures (pair_none is_any spelled_flag is_moment eight_bytes _ c.in_err-on.ensures)))

pub returns-in_err-at : goal.returns-in_err-at
returns-in_err-at c = reads_none is_fact spelled_fact _ _ _ c.from_residual-in_err-at.ensures (switched_none _ (pair_none_behind is_name short_bytes (both is_any is_moment) (pair spelled_flag eight_bytes) name_free _ _ _ c.in_ok-app.ensures (pair_none_behind is_any spelled_flag is_moment eight_bytes flag_free _ _ _ c.in_ok-on.ensures c.in_err-at.ensures)))
