use Rattle.qc_worker.proofs.Logged.{retract-front}
use Rattle.qc_worker.proofs.laws.no_record_is_forgotten_before_its_row_is_back.Goals as goal

pub returns : goal.returns
returns c = λ clerk r rows done left was now split goes. retract-front clerk r rows done left was now split goes
