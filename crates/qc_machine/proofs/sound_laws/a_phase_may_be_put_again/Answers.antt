use Rattle.qc_machine.proofs.Finishing.{finished, finished-beside}
use Rattle.qc_machine.proofs.sound_laws.a_phase_may_be_put_again.Goals as goal

pub returns : goal.returns
returns c = record { own = finished; others = finished-beside }
