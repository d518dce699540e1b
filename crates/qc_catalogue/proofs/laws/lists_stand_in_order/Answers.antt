use Rattle.qc_catalogue.proofs.Orderly.{stand_in_order}
use Rattle.qc_catalogue.proofs.laws.lists_stand_in_order.Goals as goal

pub returns : goal.returns
returns c = stand_in_order
