-- Orders that move messages from queue to queue.
use Rattle.std.specs.Prelude.{◌≡◌, ℕ, ◌≤◌, zero, suc, List, [], ◌∷◌, length, map, filter, find, take, drop, sum_by, true, not, Option, None, option_map, Result, Ok, Err}
use Rattle.std.specs.List.{list_all}
use Rattle.std.specs.Option.{ok_or, option_or}
use Rattle.std.specs.Str.{bytes_eq}
use Rattle.qc_base.specs.declared.fact.Fact.{Fact}
use Rattle.qc_base.specs.declared.fact.Fact.TheVariants.{Moved as FactMoved}
use Rattle.qc_base.specs.declared.queue.Waiting.{Waiting}
use Rattle.qc_base.specs.Messages.{listing}
use Rattle.qc_base.specs.Spelling.{is_between, is_id}
use Rattle.qc_protocol.specs.declared.order.Act.{Act}
use Rattle.qc_protocol.specs.declared.order.Act.TheVariants.{Move}
use Rattle.qc_protocol.specs.declared.reply.Refusal.{Refusal}
use Rattle.qc_protocol.specs.declared.reply.Refusal.TheVariants.{UnknownQueue, BadBatch}
use Rattle.qc_protocol.specs.declared.reply.Reply.TheVariants.{SentNothing, Moved}
use Rattle.qc_protocol.specs.declared.reply.Side.TheVariants.{From, To}
use Rattle.qc_protocol.specs.Texts.{queue_name}
use Rattle.qc_catalogue.specs.declared.catalogue.App.{App}
use Rattle.qc_catalogue.specs.declared.catalogue.Catalogue.{Catalogue}
use Rattle.qc_recorder.specs.Fits.{and_then}
use Rattle.qc_rows.specs.Holdings.{is_held}
use Rattle.qc_machine.specs.Attempts.{holdings}
use Rattle.qc_machine.specs.History.{is_movable, are_distinct}
use Rattle.qc_machine.specs.Holding.{IsHeldByNone}
use Rattle.qc_machine.specs.Recorded.{if_refused}
use Rattle.qc_machine.specs.Refuse.{refuse_if}
use Rattle.qc_machine.specs.Rooms.{journal_full}
use Rattle.qc_machine.specs.State.{State, with_new_fact, fact_room}
use Rattle.qc_machine.specs.Steps.{Step, stays}

-- a queue by its application and its number; 6 is the dead queue
pub record QueueOf : Type 0 where
  pub app : List ℕ
  pub queue : ℕ

-- the number of an application's queue of this name
abbrev pub queue_number : List ℕ → List ℕ → Option ℕ
queue_number app name = find (λ q. bytes_eq (queue_name app q) name) (0 ∷ 1 ∷ 2 ∷ 3 ∷ 4 ∷ 5 ∷ 6 ∷ [])

abbrev pub queue_named : List ℕ → List App → Option QueueOf
queue_named name [] = None
queue_named name (a ∷ apps) = option_or (option_map (λ q. record { app = a.name; queue = q }) (queue_number a.name name)) (queue_named name apps)

-- where a move leads: from its source to the queue of this number of the same application
pub record Route : Type 0 where
  pub source : QueueOf
  pub to : ℕ

abbrev pub route_from : List ℕ → QueueOf → Result Route Refusal
route_from to source = ok_or (option_map (λ q. record { source = source; to = q }) (queue_number source.app to)) (UnknownQueue To)

-- UnknownQueue, where the source is no queue, or the destination is none of the same application
abbrev pub route : Catalogue → List ℕ → List ℕ → Result Route Refusal
route c from to = and_then (ok_or (queue_named from c.apps) (UnknownQueue From)) (route_from to)

abbrev pub unknown_queue : State → Act → Option Refusal
unknown_queue s (Move from to batch) = if_refused (route s.history.catalogue from to)
unknown_queue s _ = None

abbrev pub bad_batch : Act → Option Refusal
bad_batch (Move from to batch) = refuse_if (not (is_between 1 1000 batch)) BadBatch
bad_batch _ = None

-- the messages of the source, by due and then id, that no attempt holds
abbrev pub ids_moved : State → QueueOf → List ℕ
ids_moved s q = filter (λ id. not (is_held (holdings s) id)) (map (λ (w : Waiting). w.id) (listing q.app q.queue s.history.messages))

-- ids that may be moved: of messages of the application, none of them twice, that aren't consumed and that no attempt holds
pub record AreMovable (s : State) (app ids : List ℕ) : Type 0 where
  pub live : list_all (is_movable app s.history.messages) ids ≡ true
  pub distinct : are_distinct ids ≡ true
  pub limits : list_all is_id ids ≡ true
  pub free : IsHeldByNone s ids

-- at most so many batches of ids, in order, each but the last of the size
abbrev pub cut : ℕ → ℕ → List ℕ → List (List ℕ)
cut zero size ids = []
cut (suc n) size [] = []
cut (suc n) size (id ∷ ids) = take size (id ∷ ids) ∷ cut n size (drop size (id ∷ ids))

-- all ids in batches of a size
abbrev pub batches : ℕ → List ℕ → List (List ℕ)
batches size ids = cut (length ids) size ids

-- batches of a size, of which the last may be smaller, and none is empty
abbrev pub AreOfSize : ℕ → List (List ℕ) → Type 0
AreOfSize size [] = Unit {0}
AreOfSize size (batch ∷ []) = (1 ≤ length batch) × (length batch ≤ size)
AreOfSize size (batch ∷ next ∷ more) = (length batch ≡ size) × AreOfSize size (next ∷ more)

-- each batch is one fact
abbrev pub facts_of_batches : List ℕ → ℕ → ℕ → List (List ℕ) → List Fact
facts_of_batches app to at all = map (λ ids. FactMoved app to at ids) all

abbrev pub facts_moved : State → ℕ → Route → List Fact
facts_moved s batch r = facts_of_batches r.source.app r.to s.last (batches batch (ids_moved s r.source))

-- Full, where the journal has no room for the facts of all batches together
abbrev pub no_room_to_move : State → ℕ → Result Route Refusal → Option Refusal
no_room_to_move s batch (Ok r) = journal_full s (sum_by fact_room (facts_moved s batch r))
no_room_to_move s batch (Err refusal) = None

-- the state behind facts, and the states behind each of them

abbrev pub with_new_facts : List Fact → State → State
with_new_facts [] s = s
with_new_facts (fact ∷ facts) s = with_new_facts facts (with_new_fact fact s)

abbrev pub behind_each : List Fact → State → List State
behind_each [] s = []
behind_each (fact ∷ facts) s = with_new_fact fact s ∷ behind_each facts (with_new_fact fact s)

abbrev pub moved_by : List Fact → ℕ → State → Step
moved_by facts count s = record { through = behind_each facts s; state = with_new_facts facts s; reply = Moved count }

abbrev pub move_step : State → ℕ → Result Route Refusal → Step
move_step s batch (Ok r) = moved_by (facts_moved s batch r) (length (ids_moved s r.source)) s
move_step s batch (Err refusal) = stays s SentNothing
