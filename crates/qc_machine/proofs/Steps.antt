-- What the step of each order comes to.
use Rattle.std.proofs.Common.{◌≡◌, ℕ, List, [], ◌∷◌, Bool, false, not, refl, ap, ◌∙◌, cond, Option, Some, None, option_and_then}
use Rattle.qc_base.specs.Spelling.{is_between}
use Rattle.qc_protocol.specs.declared.order.Act.{Act}
use Rattle.qc_protocol.specs.declared.order.Act.TheVariants.{OpenSlot, CallSlot, CommitSlot, CancelSlot, Send, Take, Work, End, Phase, Play, Move, Switch, Queues, Table, Outside}
use Rattle.qc_protocol.specs.declared.order.RawCall.{RawCall}
use Rattle.qc_protocol.specs.declared.reply.Refusal.{Refusal}
use Rattle.qc_protocol.specs.declared.reply.Refusal.TheVariants.{BadBatch}
use Rattle.qc_protocol.specs.declared.reply.Reply.TheVariants.{Refused}
use Rattle.qc_recorder.specs.Recording.{begun, recorded}
use Rattle.qc_machine.specs.Moving.{route, no_room_to_move}
use Rattle.qc_machine.specs.Names.{app_unknown, resource_unknown, table_unknown}
use Rattle.qc_machine.specs.Recorded.{called_by, if_called, if_recorded, if_refused}
use Rattle.qc_machine.specs.Refuse.{first_some, is_of_line, refuse_if}
use Rattle.qc_machine.specs.Sending.{too_many, no_room_for}
use Rattle.qc_machine.specs.Rooms.{journal_full}
use Rattle.qc_machine.specs.Switching.{fact_switched}
use Rattle.qc_machine.specs.Taking.{app_off, app_none_due, app_not_built, no_room_to_take}
use Rattle.qc_machine.specs.Slots.{out_of_slots, client_busy, player_busy, idle, stage_unless, has_calls, can_end, has_ended}
use Rattle.qc_machine.specs.State.{State, at_moment, in_slot, fact_room}
use Rattle.qc_machine.specs.Step.{step, step_of, answer, refusal}
use Rattle.qc_machine.specs.Steps.{stays}

-- by the refusal

pub step-refused-by : (s : State) (at : ℕ) (act : Act) (r : Refusal) → refusal (at_moment at s) act ≡ Some r → is_of_line r ≡ false → step s (record { at = at; act = act }) ≡ stays (at_moment at s) (Refused r)
unfolding step
step-refused-by s at act r is order = ap (λ (o : Option Refusal). answer s (at_moment at s) act o) is ∙ ap (λ (b : Bool). stays (cond b s (at_moment at s)) (Refused r)) order

pub step-taken : (s : State) (at : ℕ) (act : Act) → refusal (at_moment at s) act ≡ None → step s (record { at = at; act = act }) ≡ step_of (at_moment at s) act
unfolding step
step-taken s at act is = ap (λ (o : Option Refusal). answer s (at_moment at s) act o) is

-- the refusals of each order

pub refusal-open : (s : State) (n : ℕ) (app component : List ℕ) → refusal s (OpenSlot n app component) ≡ first_some (out_of_slots n ∷ client_busy s.clients n ∷ if_refused (begun s.history.catalogue app component) ∷ [])
unfolding refusal
refusal-open s n app component = refl

pub refusal-call : (s : State) (n : ℕ) (call : RawCall) → refusal s (CallSlot n call) ≡ first_some (out_of_slots n ∷ idle s.clients n ∷ option_and_then if_refused (called_by s n call) ∷ [])
unfolding refusal
refusal-call s n call = refl

pub refusal-commit : (s : State) (n : ℕ) → refusal s (CommitSlot n) ≡ first_some (out_of_slots n ∷ idle s.clients n ∷ too_many s (option_and_then if_called (in_slot n s.clients)) ∷ no_room_for s (option_and_then if_called (in_slot n s.clients)) ∷ [])
unfolding refusal
refusal-commit s n = refl

pub refusal-cancel : (s : State) (n : ℕ) → refusal s (CancelSlot n) ≡ first_some (out_of_slots n ∷ idle s.clients n ∷ [])
unfolding refusal
refusal-cancel s n = refl

pub refusal-send : (s : State) (app component : List ℕ) (calls : List RawCall) → refusal s (Send app component calls)
    ≡ first_some (if_refused (recorded s.history.catalogue app component calls) ∷ too_many s (if_recorded (recorded s.history.catalogue app component calls)) ∷ no_room_for s (if_recorded (recorded s.history.catalogue app component calls)) ∷ [])
unfolding refusal
refusal-send s app component calls = refl

pub refusal-queues : (s : State) (app : List ℕ) → refusal s (Queues app) ≡ first_some (app_unknown s.history.catalogue app ∷ [])
unfolding refusal
refusal-queues s app = refl

pub refusal-table : (s : State) (name : List ℕ) → refusal s (Table name) ≡ first_some (table_unknown s.history.catalogue name ∷ [])
unfolding refusal
refusal-table s name = refl

pub refusal-outside : (s : State) (name : List ℕ) → refusal s (Outside name) ≡ first_some (resource_unknown s.history.catalogue name ∷ [])
unfolding refusal
refusal-outside s name = refl

-- those of orders on attempts

pub refusal-take : (s : State) (n : ℕ) (app : List ℕ) → refusal s (Take n app)
    ≡ first_some (out_of_slots n ∷ player_busy s.players n ∷ app_unknown s.history.catalogue app ∷ app_off s app ∷ app_none_due s app ∷ app_not_built s app ∷ no_room_to_take s app ∷ [])
unfolding refusal
refusal-take s n app = refl

pub refusal-play : (s : State) (n : ℕ) (app : List ℕ) → refusal s (Play n app)
    ≡ first_some (out_of_slots n ∷ player_busy s.players n ∷ app_unknown s.history.catalogue app ∷ app_off s app ∷ app_none_due s app ∷ app_not_built s app ∷ no_room_to_take s app ∷ [])
unfolding refusal
refusal-play s n app = refl

pub refusal-work : (s : State) (n : ℕ) → refusal s (Work n) ≡ first_some (out_of_slots n ∷ idle s.players n ∷ stage_unless has_calls s.players n ∷ [])
unfolding refusal
refusal-work s n = refl

pub refusal-end : (s : State) (n : ℕ) → refusal s (End n) ≡ first_some (out_of_slots n ∷ idle s.players n ∷ stage_unless can_end s.players n ∷ [])
unfolding refusal
refusal-end s n = refl

pub refusal-phase : (s : State) (n : ℕ) → refusal s (Phase n) ≡ first_some (out_of_slots n ∷ idle s.players n ∷ stage_unless has_ended s.players n ∷ [])
unfolding refusal
refusal-phase s n = refl

pub refusal-switch : (s : State) (app : List ℕ) (on : Bool) → refusal s (Switch app on) ≡ first_some (app_unknown s.history.catalogue app ∷ journal_full s (fact_room (fact_switched s app on)) ∷ [])
unfolding refusal
refusal-switch s app on = refl

pub refusal-move : (s : State) (from to : List ℕ) (batch : ℕ) → refusal s (Move from to batch)
    ≡ first_some (if_refused (route s.history.catalogue from to) ∷ refuse_if (not (is_between 1 1000 batch)) BadBatch ∷ no_room_to_move s batch (route s.history.catalogue from to) ∷ [])
unfolding refusal
refusal-move s from to batch = refl
