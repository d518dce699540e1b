use Rattle.std.proofs.Common.{◌≡◌, ◌+◌, ◌≤◌, drop}
use Rattle.qc_players.specs.Players.{count_without_fact, players_of}
use Rattle.qc_players.proofs.players.Players.without_fact.Given as goal

abbrev pub invariant-loop-slot : goal.invariant-loop-slot
invariant-loop-slot l =
    (l.count ≤ l.slot-index) × (l.count + count_without_fact (players_of (drop l.slot-index l.slot-items)) ≡ count_without_fact (players_of l.slot-items))
