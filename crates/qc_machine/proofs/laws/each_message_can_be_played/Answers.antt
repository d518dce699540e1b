use Rattle.qc_machine.proofs.Playable.{message-playable}
use Rattle.qc_machine.proofs.laws.each_message_can_be_played.Goals as goal

pub returns : goal.returns
returns c = message-playable
