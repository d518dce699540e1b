-- Messages, their places, and the listings of queues.
use Rattle.std.specs.Prelude.{ℕ, ◌+◌, nat_lt, List, [], ◌∷◌, ◌++◌, map, filter, filter_map, find, count_by, slice_index, Bool, true, false, not, ◌&&◌, ◌||◌, ◌==◌, Option, if◌then◌else◌}
use Rattle.std.specs.List.{list_any, enumerate_from}
use Rattle.std.specs.Str.{bytes_eq}
use Rattle.qc_base.specs.Moments.{due_at}
use Rattle.qc_base.specs.declared.recording.Recording.{Recording}
use Rattle.qc_base.specs.declared.message.Message.{Message}
use Rattle.qc_base.specs.declared.fact.Place.{Place}
use Rattle.qc_base.specs.declared.fact.Place.TheVariants.{Queue, Dead, Consumed}
use Rattle.qc_base.specs.declared.queue.Waiting.{Waiting}

-- retries

abbrev pub delay : ℕ → ℕ
delay queue = slice_index (0 ∷ 60 ∷ 120 ∷ 240 ∷ 480 ∷ 960 ∷ []) queue

-- where a message goes that fails at a moment
abbrev pub next_place : Place → Bool → ℕ → Place
next_place (Queue queue tries due) final_class at =
    if nat_lt tries 2 then Queue queue (tries + 1) (due_at (at + delay queue))
    else if tries == 2 then (if nat_lt queue 5 then Queue (queue + 1) 0 (due_at (at + delay (queue + 1))) else if final_class then Queue 5 3 at else Dead)
    else Dead
next_place Dead final_class at = Dead
next_place (Consumed attempt) final_class at = Consumed attempt

-- what facts do to messages

abbrev pub at_message : ℕ → (Message → Place) → List Message → List Message
at_message id to messages = map (λ (m : Message). if m.id == id then record m { place = to m } else m) messages

abbrev pub after_sent : ℕ → Recording → Bool → ℕ → List Message → List Message
after_sent id recording final_class at messages = messages ++ (record { id = id; recording = recording; final_class = final_class; place = Queue 0 0 at }) ∷ []

abbrev pub after_failed : ℕ → ℕ → List Message → List Message
after_failed id at messages = at_message id (λ m. next_place m.place m.final_class at) messages

abbrev pub after_consumed : ℕ → ℕ → List Message → List Message
after_consumed id attempt messages = at_message id (λ m. Consumed attempt) messages

abbrev pub moved_place : ℕ → ℕ → Place
moved_place queue at = if queue == 6 then Dead else Queue queue 0 at

abbrev pub after_moved : List ℕ → ℕ → ℕ → List Message → List Message
after_moved ids queue at messages = map (λ (m : Message). if list_any (λ id. id == m.id) ids then record m { place = moved_place queue at } else m) messages

abbrev pub message_of : ℕ → List Message → Option Message
message_of id messages = find (λ (m : Message). m.id == id) messages

-- listings

-- the items, each at the place of how many come before it
abbrev pub in_order : {A : Type 0} → (A → A → Bool) → List A → List A
in_order before xs = filter_map (λ (p : ℕ × _). find (λ x. count_by (λ y. before y x) xs == p.0) xs) (enumerate_from 0 xs)

abbrev pub comes_before : Waiting → Waiting → Bool
comes_before a b = nat_lt a.due b.due || ((a.due == b.due) && nat_lt a.id b.id)

abbrev pub in_queue : ℕ → Place → Bool
in_queue queue (Queue q tries due) = q == queue
in_queue queue Dead = queue == 6
in_queue queue (Consumed attempt) = false

abbrev pub is_consumed : Place → Bool
is_consumed (Consumed attempt) = true
is_consumed (Queue q tries due) = false
is_consumed Dead = false

abbrev pub waiting_as : ℕ → Place → Waiting
waiting_as id (Queue queue tries due) = record { id = id; tries = tries; due = due }
waiting_as id Dead = record { id = id; tries = 0; due = 0 }
waiting_as id (Consumed attempt) = record { id = id; tries = 0; due = 0 }

abbrev pub of_app : List ℕ → List Message → List Message
of_app app messages = filter (λ (m : Message). bytes_eq m.recording.app app) messages

-- an application's messages in a queue by due and then id; queue 6 is the dead queue, by id
abbrev pub listing : List ℕ → ℕ → List Message → List Waiting
listing app queue messages =
    in_order comes_before (map (λ (m : Message). waiting_as m.id m.place) (filter (λ (m : Message). in_queue queue m.place) (of_app app messages)))

abbrev pub consumed_ids : List ℕ → List Message → List ℕ
consumed_ids app messages = map (λ (m : Message). m.id) (filter (λ (m : Message). is_consumed m.place) (of_app app messages))

-- messages that aren't consumed
abbrev pub live : List Message → ℕ
live messages = count_by (λ (m : Message). not (is_consumed m.place)) messages

-- an application's queues 0 to 5, in order
abbrev pub waiting_queues : List ℕ → List Message → List (List Waiting)
waiting_queues app messages = map (λ q. listing app q messages) (0 ∷ 1 ∷ 2 ∷ 3 ∷ 4 ∷ 5 ∷ [])

-- the ids in its dead queue
abbrev pub dead_ids : List ℕ → List Message → List ℕ
dead_ids app messages = map (λ (w : Waiting). w.id) (listing app 6 messages)
