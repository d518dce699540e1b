use Rattle.std.proofs.Common.{refl}
use Rattle.qc_script.specs.Scripts.{script_of}
use Rattle.qc_script.specs.Words.{words}
use Rattle.qc_play.proofs.worked.abort_forces.Goals as goal

pub returns : goal.returns
unfolding script_of words
returns c = refl
