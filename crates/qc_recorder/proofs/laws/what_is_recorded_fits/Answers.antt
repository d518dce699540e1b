use Rattle.qc_recorder.proofs.Held.{begun-held, called-held, recorded-held, within-recording}
use Rattle.qc_recorder.proofs.laws.what_is_recorded_fits.Goals as goal

pub returns : goal.returns
returns c = record { begun = begun-held; called = called-held; recorded = recorded-held; sent = λ _ r held some. within-recording r held.within some }
