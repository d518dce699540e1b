use Rattle.std.proofs.Common.{◌≡◌, ◌+◌, ◌≤◌, length, drop}
use Rattle.qc_players.specs.Players.{held_in, players_of}
use Rattle.qc_players.proofs.players.Players.count.Given as goal

abbrev pub invariant-loop-slot : goal.invariant-loop-slot
invariant-loop-slot l =
    (l.count ≤ l.slot-index) × (l.count + length (held_in (players_of (drop l.slot-index l.slot-items))) ≡ length (held_in (players_of l.slot-items)))
