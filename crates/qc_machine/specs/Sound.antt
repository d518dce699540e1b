-- What ties the log of compensations and the outside rows to a history, and when the three agree.
use Rattle.std.specs.Prelude.{◌≡◌, ℕ, List, length, filter_map, Bool, true, false, Option, Some, None}
use Rattle.std.specs.List.{list_all}
use Rattle.qc_base.specs.Rows.{OutsideRows}
use Rattle.qc_base.specs.declared.fact.Fact.{Fact}
use Rattle.qc_base.specs.declared.fact.Fact.TheVariants.{Played, Failed}
use Rattle.qc_base.specs.declared.log_line.LogLine.{LogLine}
use Rattle.qc_base.specs.declared.log_line.LogLine.TheVariants.{Opened}
use Rattle.qc_rows.specs.Outside.{outside_amount}
use Rattle.crm_history.specs.declared.ended.Ended.{Ended}
use Rattle.crm_history.specs.Legal.{is_about, is_log_legal}
use Rattle.crm_recovery.specs.Settling.{settled_rows}
use Rattle.qc_machine.specs.History.{History}

-- the attempt that a fact ends, committed or not
abbrev pub ended_by : Fact → Option Ended
ended_by (Played id attempt kind at) = Some (record { attempt = attempt; id = id; committed = true })
ended_by (Failed id attempt at) = Some (record { attempt = attempt; id = id; committed = false })
ended_by _ = None

-- whether it commits an attempt
abbrev pub commits : Fact → Bool
commits (Played id attempt kind at) = true
commits _ = false

abbrev pub ended_in : History → List Ended
ended_in h = filter_map ended_by h.facts

-- each line may follow those before it, beside this history
abbrev pub is_log_of : History → List LogLine → Bool
is_log_of h lines = is_log_legal h.catalogue (length h.messages) (ended_in h) lines

-- none of these attempts is one that a line opens for another message
abbrev pub agrees_with : List Ended → LogLine → Bool
agrees_with ended (Opened attempt id) = list_all (is_about attempt id) ended
agrees_with ended _ = true

abbrev pub all_agree : List Ended → List LogLine → Bool
all_agree ended lines = list_all (agrees_with ended) lines

-- the outside rows once each attempt that the log leaves unfinished has had its phase
abbrev pub settled_by_log : History → List LogLine → OutsideRows → OutsideRows
settled_by_log h lines rows = settled_rows h.catalogue (ended_in h) lines rows

-- History, log and outside rows agree. A put neither makes nor drops a row, so the rows are those of the history.
pub record IsSound (h : History) (lines : List LogLine) (rows : OutsideRows) : Type 0 where
  pub legal : is_log_of h lines ≡ true
  pub settled : (r k : List ℕ) → settled_by_log h lines rows r k ≡ outside_amount h.outside r k
