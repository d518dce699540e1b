-- One order is one step.
use Rattle.std.specs.Prelude.{[], ◌∷◌, Option, Some, None, if◌then◌else◌}
use Rattle.qc_protocol.specs.declared.order.Order.{Order}
use Rattle.qc_protocol.specs.declared.order.Act.{Act}
use Rattle.qc_protocol.specs.declared.order.Act.TheVariants.{OpenSlot, CallSlot, CommitSlot, CancelSlot, Send, Take, Work, End, Phase, Play, Move, Switch, Queues, Table, Outside}
use Rattle.qc_protocol.specs.declared.reply.Refusal.{Refusal}
use Rattle.qc_protocol.specs.declared.reply.Reply.TheVariants.{Refused}
use Rattle.qc_recorder.specs.Recording.{begun}
use Rattle.qc_machine.specs.State.{State, at_moment, in_slot, with_client, fact_room}
use Rattle.qc_machine.specs.Steps.{Step, stays}
use Rattle.qc_machine.specs.Refuse.{first_some, is_of_line}
use Rattle.qc_machine.specs.Slots.{no_such_slot, slot_busy, slot_idle, wrong_stage}
use Rattle.qc_machine.specs.Moving.{route, unknown_queue, bad_batch, no_room_to_move, move_step}
use Rattle.qc_machine.specs.Names.{unknown_app, unknown_table}
use Rattle.qc_machine.specs.Recorded.{called_by, recording_sent, not_recorded}
use Rattle.qc_machine.specs.Recording.{open_step, call_step, cancel_step}
use Rattle.qc_machine.specs.Rooms.{journal_full}
use Rattle.qc_machine.specs.Sending.{too_many, no_room_for, send_step}
use Rattle.qc_machine.specs.Taking.{switched_off, nothing_due, attempt_not_built, no_room_to_take, take_step}
use Rattle.qc_machine.specs.Playing.{on_held, work_in, end_in, phase_in, play_step}
use Rattle.qc_machine.specs.Switching.{fact_switched, switch_step}
use Rattle.qc_machine.specs.Attempts.{chosen_message}
use Rattle.qc_machine.specs.Listing.{queues_shown, table_shown, outside_shown}

-- Full, where a log has no room for what the order adds
abbrev pub no_room : State → Act → Option Refusal
no_room s (Take n app) = no_room_to_take s app
no_room s (Play n app) = no_room_to_take s app
no_room s (Move from to batch) = no_room_to_move s batch (route s.history.catalogue from to)
no_room s (Switch app on) = journal_full s (fact_room (fact_switched s app on))
no_room s act = no_room_for s (recording_sent s act)

-- the refusal of an order, the first by number; that an attempt isn't built comes behind what is due
unfoldable pub refusal : State → Act → Option Refusal
refusal s act = first_some (
    no_such_slot act
    ∷ slot_busy s act
    ∷ slot_idle s act
    ∷ wrong_stage s act
    ∷ unknown_app s act
    ∷ not_recorded s act
    ∷ unknown_queue s act
    ∷ bad_batch act
    ∷ unknown_table s act
    ∷ too_many s (recording_sent s act)
    ∷ switched_off s act
    ∷ nothing_due s act
    ∷ attempt_not_built s act
    ∷ no_room s act
    ∷ [])

-- an order that isn't refused
abbrev pub step_of : State → Act → Step
step_of s (OpenSlot n app component) = open_step s n (begun s.history.catalogue app component)
step_of s (CallSlot n call) = call_step s n (called_by s n call)
step_of s (CommitSlot n) = send_step (with_client n None s) (recording_sent s (CommitSlot n))
step_of s (CancelSlot n) = cancel_step s n (in_slot n s.clients)
step_of s (Send app component calls) = send_step s (recording_sent s (Send app component calls))
step_of s (Take n app) = take_step s n (chosen_message s app)
step_of s (Work n) = on_held s (work_in s n) (in_slot n s.players)
step_of s (End n) = on_held s (end_in s n) (in_slot n s.players)
step_of s (Phase n) = on_held s (phase_in s n) (in_slot n s.players)
step_of s (Play n app) = play_step s n (chosen_message s app)
step_of s (Move from to batch) = move_step s batch (route s.history.catalogue from to)
step_of s (Switch app on) = switch_step s app on
step_of s (Queues app) = stays s (queues_shown s.history.messages app)
step_of s (Table name) = stays s (table_shown s.history.tables name)
step_of s (Outside name) = stays s (outside_shown s.rows s.history.catalogue.resources name)

-- a refused order changes nothing but the last moment seen, and where it is refused as a line not that either
abbrev pub answer : State → State → Act → Option Refusal → Step
answer before s act (Some r) = stays (if is_of_line r then before else s) (Refused r)
answer before s act None = step_of s act

unfoldable pub step : State → Order → Step
step s order = answer s (at_moment order.at s) order.act (refusal (at_moment order.at s) order.act)
