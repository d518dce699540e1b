-- Attempts that players begin.
use Rattle.std.specs.Prelude.{◌≡◌, ℕ, ◌-◌, List, [], ◌∷◌, true, Option, Some, None, not, Ok, Err, if◌then◌else◌, IfOk, IfErr}
use Rattle.std.specs.declared.result.Result.{Result}
use Rattle.qc_base.specs.declared.message.Message.{Message}
use Rattle.qc_protocol.specs.declared.order.Act.TheVariants.{Take}
use Rattle.qc_protocol.specs.declared.reply.Refusal.{Refusal}
use Rattle.qc_protocol.specs.declared.reply.Refusal.TheVariants.{NotBuilt}
use Rattle.qc_protocol.specs.declared.reply.Reply.{Reply}
use Rattle.qc_protocol.specs.declared.reply.Reply.TheVariants.{Refused as ReplyRefused, Taken}
use Rattle.qc_history.specs.Adding.{SetsAside}
use Rattle.qc_machine.specs.Attempts.{chosen_message, next_attempt}
use Rattle.qc_machine.specs.Names.{app_unknown}
use Rattle.qc_machine.specs.Refuse.{first_some, is_of_line, refuse_if}
use Rattle.qc_machine.specs.Rooms.{take_full}
use Rattle.qc_machine.specs.Slots.{out_of_slots, player_busy}
use Rattle.qc_machine.specs.State.{State, HeldAttempt}
use Rattle.qc_machine.specs.Step.{refusal}
use Rattle.qc_machine.specs.Taking.{can_play, app_off, new_attempt, app_none_due}
use Rattle.qc_players.specs.Players.{IsPlayedBy, held_of}
use Rattle.qc_rows.specs.Places.{are_reserved, rows_seen}
use Rattle.qc_txn.specs.Attempt.{AttemptView}
use Rattle.qc_hub.specs.declared.error.HubError.{HubError}
use Rattle.qc_hub.specs.declared.error.HubError.TheVariants.{NoMemory as out_of_memory}
use Rattle.qc_hub.specs.declared.hub.Hub.{Hub}
use Rattle.qc_hub.specs.declared.taking.NotBegun.{NotBegun}
use Rattle.qc_hub.specs.declared.taking.NotBegun.TheVariants.{Refused, NoMemory}
use Rattle.qc_hub.specs.Stands.{IsHubOf}

-- why a player takes no message of an application, whatever message that would be
abbrev pub untaken : State → ℕ → List ℕ → Option Refusal
untaken s n app = first_some (out_of_slots n ∷ player_busy s.players n ∷ app_unknown s.history.catalogue app ∷ app_off s app ∷ app_none_due s app ∷ [])

-- and why no attempt is begun on the message that would be taken
abbrev pub unplayed : State → Message → Option Refusal
unplayed s m = first_some (refuse_if (not (can_play s.history.catalogue m)) NotBuilt ∷ take_full s m ∷ [])

-- the id of the message that is taken, or why there is none
abbrev pub Chooses : State → ℕ → List ℕ → Result ℕ Refusal → Type 0
Chooses s n app (Ok id) = (m : Message) × (untaken s n app ≡ None) × (chosen_message s app ≡ Some m) × (m.id ≡ id)
Chooses s n app (Err r) = untaken s n app ≡ Some r

-- the number of the attempt on a message, or why it isn't begun
abbrev pub Numbers : State → Message → Result ℕ Refusal → Type 0
Numbers s m (Ok number) = (unplayed s m ≡ None) × (number ≡ next_attempt s)
Numbers s m (Err r) = unplayed s m ≡ Some r

-- a message may be taken, and this is the attempt on it
pub record IsTaken (s : State) (n : ℕ) (app : List ℕ) (a : HeldAttempt) : Type 0 where
  pub free : refusal s (Take n app) ≡ None
  pub message : Message
  pub chosen : chosen_message s app ≡ Some message
  pub is : a ≡ new_attempt s message

-- an attempt that a hub's player has begun, and whose rows have places
pub record IsBegun (n : ℕ) (a : AttemptView) (hub : Hub) : Type 0 where
  pub app : List ℕ
  pub taken : (s : State) → IsHubOf hub s → IsTaken s n app (held_of a)
  pub played : IsPlayedBy hub.history.catalogue a
  pub places : are_reserved (rows_seen a.play.view) hub.history.tables.places ≡ true

abbrev pub UnlessBegun : State → ℕ → List ℕ → NotBegun → Type 0
UnlessBegun s n app (Refused r) = refusal s (Take n app) ≡ Some r
UnlessBegun s n app NoMemory = Unit {0}

-- A player begins an attempt on the message of an application that is taken. Memory is taken for it, and nothing else
-- changes.
pub record Begins (n : ℕ) (app : List ℕ) (result : Result AttemptView NotBegun) (hub new : Hub) : Type 0 where
  pub begun : IfOk result (λ a. (s : State) → IsHubOf hub s → IsTaken s n app (held_of a))
  pub played : IfOk result (IsPlayedBy new.history.catalogue)
  pub places : IfOk result (λ a. are_reserved (rows_seen a.play.view) new.history.tables.places ≡ true)
  pub others : IfErr result (λ why. (s : State) → IsHubOf hub s → UnlessBegun s n app why)
  pub kept : SetsAside hub.history new.history
  pub same : new ≡ record hub { history = new.history }

-- what is told where no attempt is begun, and the last moment seen then

abbrev pub told_of : NotBegun → Result Reply HubError
told_of (Refused r) = Ok (ReplyRefused r)
told_of NoMemory = Err out_of_memory

abbrev pub last_after : NotBegun → ℕ → ℕ → ℕ
last_after (Refused r) before last = if is_of_line r then before else last
last_after NoMemory before last = last

-- what is told of an attempt that is taken
abbrev pub taken : AttemptView → Reply
taken a = Taken a.id a.number a.kind (a.count - a.calls)
