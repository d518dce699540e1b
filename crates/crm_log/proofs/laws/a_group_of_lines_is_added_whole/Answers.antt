use Rattle.crm_log.proofs.Spells.{spells_more, whole_or_not}
use Rattle.crm_log.proofs.laws.a_group_of_lines_is_added_whole.Goals as goal

pub returns : goal.returns
returns c = record {
  whole = λ old new log lines fit spells whole. spells_more old new log lines whole.more fit spells;
  whole_or_not = whole_or_not;
}
