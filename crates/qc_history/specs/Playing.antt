-- Attempts on messages of a history: whether one can be played, how it begins, and how it ends.
use Rattle.std.specs.Prelude.{◌≡◌, ℕ, List, Bool, true, ◌&&◌, Option, Some, None, option_and_then, if◌then◌else◌}
use Rattle.qc_base.specs.declared.fact.Fact.{Fact}
use Rattle.qc_base.specs.declared.fact.Fact.TheVariants.{Played, Failed}
use Rattle.qc_base.specs.declared.fact.Kind.{Kind}
use Rattle.qc_base.specs.declared.fact.Place.{Place}
use Rattle.qc_base.specs.declared.message.Message.{Message}
use Rattle.qc_base.specs.declared.recording.Recording.{Recording}
use Rattle.qc_base.specs.Messages.{message_of}
use Rattle.qc_catalogue.specs.declared.catalogue.Catalogue.{Catalogue}
use Rattle.qc_listener.specs.Choice.{kind_at}
use Rattle.qc_machine.specs.History.{History, kind_eq, outcome_on, settled_amount}
use Rattle.qc_rows.specs.Tables.{TableRows}
use Rattle.qc_store.specs.Due.{is_queued}
use Rattle.qc_txn.specs.Attempt.{AttemptView, PlaysBy, begun, effects_in}
use Rattle.qc_txn.specs.Outcome.{ended, new_play, view_of}
use Rattle.qc_txn.specs.Parts.{is_playable, parts_of, rows_of_attempt}
use Rattle.qc_history.specs.Stands.{IsHistoryOf}
use Rattle.qc_history.specs.View.{HistoryView}

-- the kind of an attempt on a message in the queues 0 to 5, where it can be played

abbrev pub kind_by : Catalogue → Recording → Place → Option Kind
kind_by c r place = if is_queued place && is_playable c r (kind_at place) then Some (kind_at place) else None

abbrev pub kind_on : Catalogue → Message → Option Kind
kind_on c m = kind_by c m.recording m.place

abbrev pub kind_of_attempt : Catalogue → ℕ → List Message → Option Kind
kind_of_attempt c id messages = option_and_then (kind_on c) (message_of id messages)

-- an attempt with a number on a message, which sees these amounts of its rows, before its first call: there is room for
-- the effects of all its calls
abbrev pub begun_on : Catalogue → List TableRows → List TableRows → ℕ → Message → AttemptView
begun_on c tables outside number m =
    begun m.id number (kind_at m.place) m.recording
    (record {
      play = new_play (view_of (settled_amount tables outside) (rows_of_attempt c m.recording (kind_at m.place)));
      room = effects_in (parts_of c m.recording (kind_at m.place));
    })

-- An attempt begins on the message of an id over the settled amounts. It can be played by the catalogue.
pub record BeginsOn (view : HistoryView) (of number : ℕ) (a : AttemptView) : Type 0 where
  pub message : Message
  pub found : message_of of view.store.messages ≡ Some message
  pub is : a ≡ begun_on view.catalogue view.tables.tables view.outside number message
  pub plays : PlaysBy view.catalogue a

-- an attempt has ended as the outcome is of such attempts on its message
abbrev pub HasOutcome : AttemptView → History → Type 0
HasOutcome a h = (m : Message) → message_of a.id h.messages ≡ Some m → outcome_on h a.kind m ≡ ended a.play a.why

-- the fact of an attempt that ended at a moment
abbrev pub fact_ended : ℕ → AttemptView → Fact
fact_ended at a = elim a.why [ Some why ↦ Failed a.id a.number at | None ↦ Played a.id a.number a.kind at ]

-- the fact of an attempt that was read: with its kind where it was committed
abbrev pub fact_read : ℕ → ℕ → ℕ → Option Kind → Fact
fact_read id number at (Some kind) = Played id number kind at
fact_read id number at None = Failed id number at

abbrev pub fits_kind : Option Kind → Kind → Bool
fits_kind (Some told) kind = kind_eq told kind
fits_kind None kind = true

-- An attempt on the message of an id was played to its end over the settled amounts of its rows.
pub record IsPlayedAgain (view : HistoryView) (of count : ℕ) (a : AttemptView) : Type 0 where
  pub id : a.id ≡ of
  pub number : a.number ≡ count
  pub kind : kind_of_attempt view.catalogue of view.store.messages ≡ Some a.kind
  pub ends : (h : History) → IsHistoryOf view h → HasOutcome a h
