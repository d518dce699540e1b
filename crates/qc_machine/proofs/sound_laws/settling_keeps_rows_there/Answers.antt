use Rattle.qc_machine.proofs.PutRows.{same-settled, sound-there}
use Rattle.qc_machine.proofs.sound_laws.settling_keeps_rows_there.Goals as goal

pub returns : goal.returns
returns c = record { settling = same-settled; sound = sound-there }
