use Rattle.crm_recovery.proofs.Catalogues.{catalogue-hears}
use Rattle.crm_recovery.proofs.laws.each_catalogue_can_be_finished.Goals as goal

pub returns : goal.returns
returns c = catalogue-hears
