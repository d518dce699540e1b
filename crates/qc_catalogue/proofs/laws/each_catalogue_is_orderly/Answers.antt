use Rattle.qc_catalogue.proofs.Orderly.{orderly}
use Rattle.qc_catalogue.proofs.laws.each_catalogue_is_orderly.Goals as goal

pub returns : goal.returns
returns c = orderly
