-- Which message of an application is taken.
use Rattle.std.specs.Prelude.{◌≡◌, ℕ, nat_le, nat_lt, List, length, map, filter, All, Bool, false, not, ◌&&◌, ◌==◌, Option, Some, None, if◌then◌else◌}
use Rattle.qc_base.specs.declared.fact.Kind.{Kind}
use Rattle.qc_base.specs.declared.fact.Kind.TheVariants.{Normal, Final}
use Rattle.qc_base.specs.declared.fact.Place.{Place}
use Rattle.qc_base.specs.declared.fact.Place.TheVariants.{Queue, Dead, Consumed}
use Rattle.qc_base.specs.declared.message.Message.{Message}
use Rattle.qc_base.specs.Messages.{waiting_as}
use Rattle.qc_catalogue.specs.declared.catalogue.Catalogue.{Catalogue}
use Rattle.qc_listener.specs.Index.{MessageRows, entry_of, rows_for}
use Rattle.qc_listener.specs.declared.chosen.Chosen.{Chosen}
use Rattle.qc_listener.specs.declared.chosen.Chosen.TheVariants.{Take, NothingDue}
use Rattle.qc_rows.specs.Holdings.{Holding, is_held, are_free}
use Rattle.qc_store.specs.Due.{queued_messages, is_before, first_by}
use Rattle.qc_txn.specs.Parts.{rows_of_attempt}

-- the final attempt is the one on a message with three tries
abbrev pub kind_at : Place → Kind
kind_at (Queue queue tries due) = if tries == 3 then Final else Normal
kind_at Dead = Normal
kind_at (Consumed attempt) = Normal

abbrev pub is_due : ℕ → Place → Bool
is_due now (Queue queue tries due) = nat_le due now
is_due now Dead = false
is_due now (Consumed attempt) = false

-- an application's messages in the queues 0 to 5 that are due and that no attempt holds
abbrev pub due_messages : List Holding → ℕ → List ℕ → List Message → List Message
due_messages holdings now app messages = filter (λ (m : Message). is_due now m.place && not (is_held holdings m.id)) (queued_messages app messages)

-- no attempt holds any of the rows that its attempt would have
abbrev pub has_free_rows : Catalogue → List Holding → Message → Bool
has_free_rows c holdings m = are_free holdings (rows_of_attempt c m.recording (kind_at m.place))

-- the message that is taken: of those that are due, that no attempt holds and whose rows are free, the first by due
-- moment and then by id
abbrev pub choice : Catalogue → List Holding → ℕ → List ℕ → List Message → Option Message
choice c holdings now app messages = first_by is_before (filter (has_free_rows c holdings) (due_messages holdings now app messages))

-- when a message in a queue is due
abbrev pub due_of : Message → ℕ
due_of m = (waiting_as m.id m.place).due

-- the least due moment after a moment, of an application's messages in the queues 0 to 5, held ones included
abbrev pub earliest_due : ℕ → List ℕ → List Message → Option ℕ
earliest_due now app messages = first_by nat_lt (filter (nat_lt now) (map due_of (queued_messages app messages)))

-- what is answered: the message's id, or else the earliest due moment to come and how many messages are due and not held
abbrev pub chosen_by : Option Message → Option ℕ → ℕ → Chosen
chosen_by (Some m) earliest blocked = Take m.id
chosen_by None earliest blocked = NothingDue earliest blocked

abbrev pub chosen : Catalogue → List Holding → ℕ → List ℕ → List Message → Chosen
chosen c holdings now app messages = chosen_by (choice c holdings now app messages) (earliest_due now app messages) (length (due_messages holdings now app messages))

-- the index keeps the rows of a message by that message's own recording

abbrev pub IsKept : Catalogue → List MessageRows → Message → Type 0
IsKept c index m = entry_of m.id index ≡ Some (rows_for c m.id m.recording)

abbrev pub AreKept : Catalogue → List MessageRows → List ℕ → List Message → Type 0
AreKept c index app messages = All (IsKept c index) (queued_messages app messages)
