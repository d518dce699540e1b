use Rattle.std.proofs.Common.{◌∙◌, ap, option_map, Some}
use Rattle.qc_listener.specs.Index.{rows_by, rows_for}
use Rattle.qc_listener.proofs.Kept.{none_removed, others_removed, others_set, rows_of_kind, told_set}
use Rattle.qc_listener.proofs.laws.what_is_set_is_told.Goals as goal

pub returns-clause-set : goal.returns-clause-set
returns-clause-set _ = λ c id r kind index. ap (option_map (rows_by kind)) (told_set (rows_for c id r) index) ∙ ap Some (rows_of_kind c id r kind)

pub returns-clause-others_at_set : goal.returns-clause-others_at_set
returns-clause-others_at_set _ = λ entry id kind index other. ap (option_map (rows_by kind)) (others_set entry id index other)

pub returns-clause-removed : goal.returns-clause-removed
returns-clause-removed _ = λ id kind index. ap (option_map (rows_by kind)) (none_removed id index)

pub returns-clause-others_at_removal : goal.returns-clause-others_at_removal
returns-clause-others_at_removal _ = λ gone id kind index other. ap (option_map (rows_by kind)) (others_removed gone id index other)
