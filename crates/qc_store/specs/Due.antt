-- Which message of an application is due first.
use Rattle.std.specs.Prelude.{ℕ, List, filter, find, Bool, true, false, not, ◌&&◌, Option, Some, None, option_and_then, if◌then◌else◌}
use Rattle.std.specs.List.{list_any}
use Rattle.std.specs.Option.{option_map_or}
use Rattle.std.specs.Str.{bytes_eq}
use Rattle.qc_base.specs.declared.fact.Place.{Place}
use Rattle.qc_base.specs.declared.fact.Place.TheVariants.{Queue, Dead, Consumed}
use Rattle.qc_base.specs.declared.message.Message.{Message}
use Rattle.qc_base.specs.Messages.{of_app, comes_before, waiting_as}

abbrev pub is_queued : Place → Bool
is_queued (Queue queue tries due) = true
is_queued Dead = false
is_queued (Consumed attempt) = false

-- an application's messages in the queues 0 to 5
abbrev pub queued_messages : List ℕ → List Message → List Message
queued_messages app messages = filter (λ (m : Message). is_queued m.place) (of_app app messages)

-- by due moment and then by id
abbrev pub is_before : Message → Message → Bool
is_before a b = comes_before (waiting_as a.id a.place) (waiting_as b.id b.place)

-- the one before which no other comes
abbrev pub first_by : {A : Type 0} → (A → A → Bool) → List A → Option A
first_by before xs = find (λ x. not (list_any (λ y. before y x) xs)) xs

-- behind a due moment and an id; behind none comes each
abbrev pub is_behind : Option (ℕ × ℕ) → Message → Bool
is_behind after m = option_map_or (λ (p : ℕ × ℕ). comes_before (record { id = p.1; tries = 0; due = p.0 }) (waiting_as m.id m.place)) after true

-- a message of the application in the queues 0 to 5, behind a due moment and an id
abbrev pub may_be_next : List ℕ → Option (ℕ × ℕ) → Message → Bool
may_be_next app after m = bytes_eq m.recording.app app && (is_queued m.place && is_behind after m)

-- the one of two that is due sooner
abbrev pub sooner : Option Message → Message → Message
sooner None m = m
sooner (Some first) m = if is_before m first then m else first

-- id, queue, tries and due moment
abbrev pub queued_as : ℕ → Place → Option (ℕ × ℕ × ℕ × ℕ)
queued_as id (Queue queue tries due) = Some (id, queue, tries, due)
queued_as id Dead = None
queued_as id (Consumed attempt) = None

-- the first of an application's messages in the queues 0 to 5 behind a due moment and an id
abbrev pub next_due : List ℕ → Option (ℕ × ℕ) → List Message → Option (ℕ × ℕ × ℕ × ℕ)
next_due app after messages = option_and_then (λ (m : Message). queued_as m.id m.place) (first_by is_before (filter (is_behind after) (queued_messages app messages)))
