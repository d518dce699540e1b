-- Room that a hub takes, and what is refused for want of it.
use Rattle.std.specs.Prelude.{◌≡◌, ◌≤◌, ℕ, ◌+◌, [], ◌∷◌, length, Option, Some, None, IfOk, OnErr, Err, if◌then◌else◌}
use Rattle.std.specs.declared.result.Result.{Result}
use Rattle.qc_base.specs.declared.recording.Recording.{Recording}
use Rattle.qc_base.specs.Spelling.{is_attempt, spelled_recording}
use Rattle.qc_protocol.specs.declared.reply.Refusal.{Refusal}
use Rattle.qc_history.specs.Adding.{HasRoomFor, SetsAside}
use Rattle.qc_machine.specs.Attempts.{next_attempt}
use Rattle.qc_machine.specs.Refuse.{first_some}
use Rattle.qc_machine.specs.Sending.{too_many, no_room_for}
use Rattle.qc_machine.specs.State.{State}
use Rattle.qc_hub.specs.declared.error.HubError.{HubError}
use Rattle.qc_hub.specs.declared.error.HubError.TheVariants.{NoMemory}
use Rattle.qc_hub.specs.declared.hub.Hub.{Hub}
use Rattle.qc_hub.specs.Stands.{IsHubOf}

-- the number of the next attempt, where it is one
abbrev pub attempt_number : State → Option ℕ
attempt_number s = if is_attempt (next_attempt s) then Some (next_attempt s) else None

-- the hub is the same but for its room, which isn't less
pub record SameBut (hub new : Hub) : Type 0 where
  pub history : SetsAside hub.history new.history
  pub journal : new.journal ≡ record hub.journal { spare = new.journal.spare }
  pub room : hub.journal.spare ≤ new.journal.spare
  pub others : new ≡ record hub { history = new.history; journal = new.journal }

-- why a message with this recording isn't sent
abbrev pub unsent : State → Recording → Option Refusal
unsent s r = first_some (too_many s (Some r) ∷ no_room_for s (Some r) ∷ [])

-- memory was taken for a message with this recording
pub record HasRoom (r : Recording) (hub : Hub) : Type 0 where
  pub history : HasRoomFor r hub.history
  pub journal : 23 + length (spelled_recording r) ≤ hub.journal.spare

-- A call takes all memory for a message with this recording, where it may be sent.
pub record MakesRoom (r : Recording) (result : Result (Option Refusal) HubError) (hub new : Hub) : Type 0 where
  pub refused : (s : State) → IsHubOf hub s → IfOk result (λ refusal. refusal ≡ unsent s r)
  pub room : IfOk result (λ refusal. refusal ≡ None → HasRoom r new)
  pub kept : SameBut hub new
  pub starved : OnErr result (result ≡ Err NoMemory)
