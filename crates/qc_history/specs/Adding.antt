-- What the calls do that add a fact, and those that take memory for it.
use Rattle.std.specs.Prelude.{◌≡◌, ◌+◌, ◌<◌, ◌≤◌, List, length, true, Some}
use Rattle.qc_base.specs.declared.fact.Fact.{Fact}
use Rattle.qc_base.specs.declared.recording.Recording.{Recording}
use Rattle.qc_base.specs.declared.recording.Row.{Row}
use Rattle.qc_listener.specs.Index.{entry_of, rows_for}
use Rattle.qc_machine.specs.History.{History, with_fact}
use Rattle.qc_rows.specs.Places.{are_reserved}
use Rattle.qc_history.specs.Stands.{IsHistoryOf}
use Rattle.qc_history.specs.View.{HistoryView}

-- Memory is taken, and nothing is settled. Rows that had a place keep it.
pub record SetsAside (old new : HistoryView) : Type 0 where
  pub kept : new ≡ record old {
    store = record old.store { room = new.store.room };
    tables = record old.tables { places = new.tables.places };
    rows = new.rows;
    off = record old.off { room = new.off.room };
  }
  pub places : (rows : List Row) → are_reserved rows old.tables.places ≡ true → are_reserved rows new.tables.places ≡ true

-- there is room for the message that is sent next with this recording, and its rows are kept
pub record HasRoomFor (r : Recording) (view : HistoryView) : Type 0 where
  pub room : 1 ≤ view.store.room
  pub rows : entry_of (length view.store.messages + 1) view.rows ≡ Some (rows_for view.catalogue (length view.store.messages + 1) r)

abbrev pub Always : History → Type 0
Always h = Unit {0}

-- A fact is settled, whatever history it is added to of which this is given.
pub record AddsFact (fact : Fact) (given : History → Type 0) (old new : HistoryView) : Type 0 where
  pub settles : (h : History) → IsHistoryOf old h → given h → length h.facts < 18446744073709551615 → IsHistoryOf new (with_fact fact h)
  pub counted : old.facts < 18446744073709551615 → new.facts ≡ old.facts + 1
  pub catalogue : new.catalogue ≡ old.catalogue
  pub places : new.tables.places ≡ old.tables.places
