use Rattle.std.proofs.Common.{◌≡◌, max, drop}
use Rattle.qc_machine.specs.Attempts.{greatest}
use Rattle.qc_players.specs.Players.{numbers_of, players_of}
use Rattle.qc_players.proofs.players.Players.greatest.Given as goal

abbrev pub invariant-loop-slot : goal.invariant-loop-slot
invariant-loop-slot l =
    max l.most (greatest (numbers_of (players_of (drop l.slot-index l.slot-items)))) ≡ greatest (numbers_of (players_of l.slot-items))
