use Rattle.qc_machine.proofs.Unfinished.{unfinished-rising, unfinished-among, unopened-unnamed}
use Rattle.qc_machine.proofs.sound_laws.unfinished_attempts_are_told_in_order.Goals as goal

pub returns : goal.returns
returns c = record { order = unfinished-rising; among = unfinished-among; unopened = unopened-unnamed }
