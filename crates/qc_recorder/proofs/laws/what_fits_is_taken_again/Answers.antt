use Rattle.qc_recorder.proofs.Again.{call-again, call-fits-again}
use Rattle.qc_recorder.proofs.laws.what_fits_is_taken_again.Goals as goal

pub returns : goal.returns
returns c = record { taken = call-again; fits = call-fits-again }
