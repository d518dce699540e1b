use Rattle.qc_machine.proofs.PutRows.{sound-settled, settled-sound}
use Rattle.qc_machine.proofs.sound_laws.where_all_is_done_rows_are_settled.Goals as goal

pub returns : goal.returns
returns c = record { settled = sound-settled; sound = settled-sound }
