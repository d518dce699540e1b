-- What the fields of a hub mean.
use Rattle.std.specs.Prelude.{◌≡◌, ◌≤◌, ℕ, List, true, Option, Some}
use Rattle.qc_protocol.specs.declared.reply.Reply.{Reply}
use Rattle.qc_site.specs.Image.{Image}
use Rattle.qc_history.specs.Stands.{IsHistoryOf}
use Rattle.qc_machine.specs.Attempts.{has_no_fact}
use Rattle.qc_machine.specs.History.{by_text}
use Rattle.qc_machine.specs.Laws.{IsSettled}
use Rattle.qc_machine.specs.State.{State, HeldAttempt, in_slot}
use Rattle.qc_machine.specs.Steps.{Step}
use Rattle.qc_machine.specs.Sites.{IsSiteOf}
use Rattle.qc_players.specs.Players.{ArePlayedBy, players_of}
use Rattle.qc_rows.specs.Places.{Places, are_reserved, rows_seen}
use Rattle.qc_hub.specs.declared.hub.Hub.{Hub}

-- the rows of an attempt that has no fact yet have places
abbrev pub HasPlaces : List Places → HeldAttempt → Type 0
HasPlaces places a = has_no_fact a.stage ≡ true → are_reserved (rows_seen a.play.view) places ≡ true

abbrev pub HavePlaces : List Places → List (Option HeldAttempt) → Type 0
HavePlaces places players = (n : ℕ) (a : HeldAttempt) → in_slot n players ≡ Some a → HasPlaces places a

-- What a hub has beside its state, so that the attempts that are held go on and end without memory: they are played by the
-- catalogue, their rows have places, and there is room for the fact of an end. Each fact takes some bytes of the journal.
pub record IsFit (hub : Hub) : Type 0 where
  pub played : ArePlayedBy hub.history.catalogue hub.players
  pub places : HavePlaces hub.history.tables.places (players_of hub.players)
  pub room : 30 ≤ hub.journal.spare
  pub counted : hub.history.facts ≤ hub.journal.place

-- the hub is in this state, which its facts have led to
pub record IsHubOf (hub : Hub) (s : State) : Type 0 where
  pub history : IsHistoryOf hub.history s.history
  pub clients : hub.clients ≡ s.clients
  pub players : players_of hub.players ≡ s.players
  pub last : hub.last ≡ s.last
  pub limits : hub.limits ≡ s.limits
  pub journal : s.journal ≡ record { gate = hub.journal.place; size = hub.journal.length }
  pub log : s.log ≡ record { gate = hub.log.place; size = hub.log.length }
  pub settled : IsSettled by_text s
  pub fit : IsFit hub

-- the hub is in a state, which is one of the site where that tells
pub record IsHubOn (told : Type 0) (shown : Image) (hub : Hub) : Type 0 where
  pub state : State
  pub is_in : IsHubOf hub state
  pub on_site : told → IsSiteOf shown state

-- the reply, the hub and the site after a step
pub record StepsTo (t : Step) (hub : Hub) (shown : Image) (reply : Reply) : Type 0 where
  pub replies : reply ≡ t.reply
  pub is_in : IsHubOf hub t.state
  pub on_site : IsSiteOf shown t.state
