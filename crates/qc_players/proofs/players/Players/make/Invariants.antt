use Rattle.std.proofs.Common.{◌≡◌, replicate, None}
use Rattle.qc_players.proofs.players.Players.make.Given as goal

abbrev pub invariant-loop : goal.invariant-loop
invariant-loop l = l.slots.items ≡ replicate l.counter None
