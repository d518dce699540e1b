-- What holds of the states in the midst of a step.
use Rattle.std.specs.Prelude.{◌≡◌, ◌≤◌, ◌<◌, ℕ, List, ◌+◌, ◌++◌, length, true, Option, Some}
use Rattle.qc_base.specs.declared.fact.Fact.{Fact}
use Rattle.qc_base.specs.declared.recording.Recording.{Recording}
use Rattle.qc_protocol.specs.declared.order.Order.{Order}
use Rattle.qc_catalogue.specs.declared.catalogue.Catalogue.{Catalogue}
use Rattle.qc_catalogue.specs.Orderly.{is_orderly}
use Rattle.qc_recorder.specs.Recording.{IsHeld}
use Rattle.qc_machine.specs.History.{Reader, history_of, is_legal}
use Rattle.qc_machine.specs.Holding.{AreHeld}
use Rattle.qc_machine.specs.State.{State, in_slot}

-- each recorder holds what fits the catalogue, within the limits of recordings
abbrev pub AreRecorded : Catalogue → List (Option Recording) → Type 0
AreRecorded c clients = (n : ℕ) (r : Recording) → in_slot n clients ≡ Some r → IsHeld c r

-- each catalogue that is read is orderly
abbrev pub ReadsOrderly : Reader → Type 0
ReadsOrderly read = (text : List ℕ) (c : Catalogue) → read text ≡ Some c → is_orderly c ≡ true

-- The state's history is what its facts settle, a legal one, and no moment of it lies ahead. What its recorders hold may
-- be sent, and what its players hold has led from the settled amounts to where it is.
pub record IsSettled (read : Reader) (s : State) : Type 0 where
  pub history : s.history ≡ history_of read s.history.facts
  pub legal : is_legal read s.history.facts ≡ true
  pub not_ahead : s.history.last ≤ s.last
  pub in_time : s.last ≤ 1000000000000
  pub recorded : AreRecorded s.history.catalogue s.clients
  pub held : AreHeld s

-- moments are in their range, and one id more is a u64
pub record IsInRange (order : Order) (s : State) : Type 0 where
  pub at : order.at ≤ 1000000000000
  pub ids : length s.history.messages + 1 < 18446744073709551616

-- the second state has the facts of the first, and more behind them
pub record GoesOn (s t : State) : Type 0 where
  pub more : List Fact
  pub facts : t.history.facts ≡ s.history.facts ++ more
