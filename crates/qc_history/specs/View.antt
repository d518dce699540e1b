-- What is kept of a history, and what holds of it whatever history it is.
use Rattle.std.specs.Prelude.{◌≡◌, ℕ, ◌≤◌, List, [], length, All, true, false, None}
use Rattle.qc_base.specs.declared.message.Message.{Message}
use Rattle.qc_base.specs.Messages.{is_consumed}
use Rattle.qc_catalogue.specs.declared.catalogue.Catalogue.{Catalogue}
use Rattle.qc_listener.specs.Choice.{IsKept}
use Rattle.qc_listener.specs.Index.{MessageRows, entry_of}
use Rattle.qc_rows.specs.Places.{TablesView}
use Rattle.qc_rows.specs.Tables.{TableRows}
use Rattle.qc_store.specs.Stored.{Stored}
use Rattle.qc_history.specs.Switches.{OffView}

pub record HistoryView : Type 0 where
  -- the one in force
  pub catalogue : Catalogue
  pub store : Stored
  pub tables : TablesView
  -- the resources with the amounts that are settled for their rows
  pub outside : List TableRows
  -- the rows that attempts on messages would have
  pub rows : List MessageRows
  -- the applications that are off
  pub off : OffView
  -- how many facts there are
  pub facts : ℕ
  -- the moment of the last fact that has one, or 0
  pub last : ℕ
  -- the greatest number of an attempt, or 0
  pub attempt : ℕ

-- Ids go up to the count of messages at the most, and each message has at most 64 calls. The rows of each message that
-- isn't consumed are kept, by that message's own recording, and those of a consumed one aren't. Without facts there are
-- no messages.
pub record IsSound (c : Catalogue) (messages : List Message) (rows : List MessageRows) (facts : ℕ) : Type 0 where
  pub numbered : All (λ (m : Message). m.id ≤ length messages) messages
  pub short : All (λ (m : Message). length m.recording.calls ≤ 64) messages
  pub kept : All (λ (m : Message). is_consumed m.place ≡ false → IsKept c rows m) messages
  pub gone : All (λ (m : Message). is_consumed m.place ≡ true → entry_of m.id rows ≡ None) messages
  pub none : facts ≡ 0 → messages ≡ []
