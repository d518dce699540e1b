use Rattle.qc_machine.proofs.Crashed.{sound-left}
use Rattle.qc_machine.proofs.sound_laws.what_can_be_finished_is_sound.Goals as goal

pub returns : goal.returns
returns c = sound-left
