-- What is kept of a history of the machine.
use Rattle.std.specs.Prelude.{◌≡◌, ℕ, List, length, filter_map, not}
use Rattle.qc_machine.specs.Attempts.{greatest}
use Rattle.qc_machine.specs.History.{History, attempt_of, is_on}
use Rattle.qc_history.specs.Switches.{is_among}
use Rattle.qc_history.specs.View.{HistoryView}

-- the numbers of the attempts in the facts
abbrev pub attempts_in : History → List ℕ
attempts_in h = filter_map attempt_of h.facts

-- this is kept of the history
pub record IsHistoryOf (view : HistoryView) (h : History) : Type 0 where
  pub catalogue : view.catalogue ≡ h.catalogue
  pub messages : view.store.messages ≡ h.messages
  pub tables : view.tables.tables ≡ h.tables
  pub outside : view.outside ≡ h.outside
  pub counted : view.facts ≡ length h.facts
  pub last : view.last ≡ h.last
  pub off : (name : List ℕ) → is_among name view.off.names ≡ not (is_on name h)
  pub attempt : view.attempt ≡ greatest (attempts_in h)
