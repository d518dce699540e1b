-- Orders that take a message, and why they don't.
use Rattle.std.specs.Prelude.{ℕ, List, length, Bool, not, Option, Some, None, option_and_then, is_none}
use Rattle.qc_base.specs.declared.message.Message.{Message}
use Rattle.qc_protocol.specs.declared.order.Act.{Act}
use Rattle.qc_protocol.specs.declared.order.Act.TheVariants.{Take, Play}
use Rattle.qc_protocol.specs.declared.reply.Refusal.{Refusal}
use Rattle.qc_protocol.specs.declared.reply.Refusal.TheVariants.{NotBuilt, SwitchedOff, NothingDue}
use Rattle.qc_protocol.specs.declared.reply.Reply.TheVariants.{SentNothing, Taken}
use Rattle.qc_catalogue.specs.declared.catalogue.Catalogue.{Catalogue}
use Rattle.qc_txn.specs.Attempt.{stage_after}
use Rattle.qc_txn.specs.Outcome.{new_play}
use Rattle.qc_txn.specs.Parts.{parts_of}
use Rattle.qc_listener.specs.Choice.{kind_at}
use Rattle.qc_machine.specs.Attempts.{chosen_message, earliest_of, blocked_count, next_attempt, parts_held}
use Rattle.qc_machine.specs.History.{plays_inside, is_on, view_at}
use Rattle.qc_machine.specs.Refuse.{refuse_if}
use Rattle.qc_machine.specs.Rooms.{take_full}
use Rattle.qc_machine.specs.State.{State, HeldAttempt, with_player}
use Rattle.qc_machine.specs.Steps.{Step, stays}

-- the application of which an order takes a message
abbrev pub app_taken : Act → Option (List ℕ)
app_taken (Take n app) = Some app
app_taken (Play n app) = Some app
app_taken _ = None

abbrev pub app_off : State → List ℕ → Option Refusal
app_off s app = refuse_if (not (is_on app s.history)) SwitchedOff

abbrev pub switched_off : State → Act → Option Refusal
switched_off s act = option_and_then (app_off s) (app_taken act)

abbrev pub app_none_due : State → List ℕ → Option Refusal
app_none_due s app = refuse_if (is_none (chosen_message s app)) (NothingDue (earliest_of s app) (blocked_count s app))

abbrev pub nothing_due : State → Act → Option Refusal
nothing_due s act = option_and_then (app_none_due s) (app_taken act)

-- attempts that change something outside aren't built yet
abbrev pub can_play : Catalogue → Message → Bool
can_play c m = plays_inside c m.recording (kind_at m.place)

abbrev pub app_not_built : State → List ℕ → Option Refusal
app_not_built s app = option_and_then (λ (m : Message). refuse_if (not (can_play s.history.catalogue m)) NotBuilt) (chosen_message s app)

abbrev pub attempt_not_built : State → Act → Option Refusal
attempt_not_built s act = option_and_then (app_not_built s) (app_taken act)

-- an attempt on a message, before its first call
abbrev pub new_attempt : State → Message → HeldAttempt
new_attempt s m = record {
  attempt = next_attempt s;
  id = m.id;
  kind = kind_at m.place;
  recording = m.recording;
  play = new_play (view_at s.history m.recording (kind_at m.place));
  calls = 0;
  stage = stage_after 0 (length (parts_of s.history.catalogue m.recording (kind_at m.place)));
  why = None;
}

abbrev pub take_in : State → ℕ → HeldAttempt → Step
take_in s n a = stays (with_player n (Some a) s) (Taken a.id a.attempt a.kind (length (parts_held s.history.catalogue a)))

abbrev pub take_step : State → ℕ → Option Message → Step
take_step s n None = stays s SentNothing
take_step s n (Some m) = take_in s n (new_attempt s m)

-- Full, where a log has no room for an attempt on the message that would be taken
abbrev pub no_room_to_take : State → List ℕ → Option Refusal
no_room_to_take s app = option_and_then (take_full s) (chosen_message s app)
