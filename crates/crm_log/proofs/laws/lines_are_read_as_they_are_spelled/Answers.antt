use Rattle.crm_log.proofs.Spells.{all_ahead, first_ahead, none_ahead, sound_ahead}
use Rattle.crm_log.proofs.laws.lines_are_read_as_they_are_spelled.Goals as goal

pub returns : goal.returns
returns c = record {
  opened = λ file log entries none place spells. all_ahead file entries log none place spells;
  next = first_ahead;
  end = none_ahead;
  sound = λ file old at lines ahead damaged. sound_ahead file old at lines ahead damaged;
}
