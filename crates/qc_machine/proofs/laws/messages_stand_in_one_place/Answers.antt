use Rattle.qc_machine.proofs.EachOnce.{each-once}
use Rattle.qc_machine.proofs.laws.messages_stand_in_one_place.Goals as goal

pub returns : goal.returns
returns c = each-once
