-- Which slot an order asks for, and why it is refused by its slot.
use Rattle.std.specs.Prelude.{ℕ, nat_le, List, length, Bool, true, false, not, ◌&&◌, Option, Some, None, option_map, option_and_then, is_none}
use Rattle.qc_base.specs.declared.log_line.Stage.{Stage}
use Rattle.qc_base.specs.declared.log_line.Stage.TheVariants.{Calls, Ready, Failing, Commit, Abort}
use Rattle.qc_base.specs.declared.recording.Recording.{Recording}
use Rattle.qc_protocol.specs.declared.order.Act.{Act}
use Rattle.qc_protocol.specs.declared.order.Act.TheVariants.{OpenSlot, CallSlot, CommitSlot, CancelSlot, Take, Work, End, Phase, Play}
use Rattle.qc_protocol.specs.declared.reply.Refusal.{Refusal}
use Rattle.qc_protocol.specs.declared.reply.Refusal.TheVariants.{NoSuchSlot, SlotBusy, SlotIdle, WrongStage}
use Rattle.qc_machine.specs.State.{State, HeldAttempt, in_slot}
use Rattle.qc_machine.specs.Refuse.{refuse_if}

abbrev pub slot_of : Act → Option ℕ
slot_of (OpenSlot n app component) = Some n
slot_of (CallSlot n call) = Some n
slot_of (CommitSlot n) = Some n
slot_of (CancelSlot n) = Some n
slot_of (Take n app) = Some n
slot_of (Work n) = Some n
slot_of (End n) = Some n
slot_of (Phase n) = Some n
slot_of (Play n app) = Some n
slot_of _ = None

-- slots have the numbers 1 to 16
abbrev pub is_slot : ℕ → Bool
is_slot n = nat_le 1 n && nat_le n 16

abbrev pub out_of_slots : ℕ → Option Refusal
out_of_slots n = refuse_if (not (is_slot n)) (NoSuchSlot n)

abbrev pub no_such_slot : Act → Option Refusal
no_such_slot act = option_and_then out_of_slots (slot_of act)

-- a recorder that is open, with the calls that it holds
abbrev pub client_busy : List (Option Recording) → ℕ → Option Refusal
client_busy clients n = option_map (λ (r : Recording). SlotBusy (length r.calls)) (in_slot n clients)

-- an attempt that is held, with its message
abbrev pub player_busy : List (Option HeldAttempt) → ℕ → Option Refusal
player_busy players n = option_map (λ (a : HeldAttempt). SlotBusy a.id) (in_slot n players)

abbrev pub slot_busy : State → Act → Option Refusal
slot_busy s (OpenSlot n app component) = client_busy s.clients n
slot_busy s (Take n app) = player_busy s.players n
slot_busy s (Play n app) = player_busy s.players n
slot_busy s _ = None

-- a slot that holds nothing
abbrev pub idle : {A : Type 0} → List (Option A) → ℕ → Option Refusal
idle slots n = refuse_if (is_none (in_slot n slots)) SlotIdle

abbrev pub slot_idle : State → Act → Option Refusal
slot_idle s (CallSlot n call) = idle s.clients n
slot_idle s (CommitSlot n) = idle s.clients n
slot_idle s (CancelSlot n) = idle s.clients n
slot_idle s (Work n) = idle s.players n
slot_idle s (End n) = idle s.players n
slot_idle s (Phase n) = idle s.players n
slot_idle s _ = None

-- the stages in which an attempt can be worked on, ended, or finished

abbrev pub has_calls : Stage → Bool
has_calls Calls = true
has_calls _ = false

abbrev pub can_end : Stage → Bool
can_end Ready = true
can_end Failing = true
can_end _ = false

abbrev pub has_ended : Stage → Bool
has_ended Commit = true
has_ended Abort = true
has_ended _ = false

abbrev pub stage_unless : (Stage → Bool) → List (Option HeldAttempt) → ℕ → Option Refusal
stage_unless serves players n = option_and_then (λ (a : HeldAttempt). refuse_if (not (serves a.stage)) (WrongStage a.stage)) (in_slot n players)

abbrev pub wrong_stage : State → Act → Option Refusal
wrong_stage s (Work n) = stage_unless has_calls s.players n
wrong_stage s (End n) = stage_unless can_end s.players n
wrong_stage s (Phase n) = stage_unless has_ended s.players n
wrong_stage s _ = None
