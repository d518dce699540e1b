-- What is asked of a log, so that the lines of an attempt's effects may follow.
use Rattle.std.specs.Prelude.{◌≡◌, ℕ, List, true, is_some}
use Rattle.std.specs.List.{list_all}
use Rattle.qc_base.specs.declared.log_line.LogLine.{LogLine}
use Rattle.qc_base.specs.declared.recording.Row.{Row}
use Rattle.qc_base.specs.Rows.{OutsideRows}
use Rattle.qc_base.specs.Spelling.{is_between}
use Rattle.qc_catalogue.specs.declared.catalogue.Catalogue.{Catalogue}
use Rattle.qc_play.specs.Play.{outside_row}
use Rattle.crm_history.specs.declared.ended.Ended.{Ended}
use Rattle.crm_history.specs.Legal.{has_row as is_row_of, is_about, is_log_legal, is_row_free}
use Rattle.qc_machine.specs.Holding.{has_row}

-- The log is legal, the message was sent, and no attempt of this number ended for another one. What the attempt sees
-- outside at first are rows of the catalogue, and no other unfinished attempt has a record of one of its rows.
pub record MayWrite (c : Catalogue) (sent : ℕ) (ended : List Ended) (lines : List LogLine) (attempt id : ℕ) (rows : List Row) (first : OutsideRows) : Type 0 where
  pub legal : is_log_legal c sent ended lines ≡ true
  pub message : is_between 1 sent id ≡ true
  pub about : list_all (is_about attempt id) ended ≡ true
  pub keys : (r k : List ℕ) → is_some (first r k) ≡ true → is_row_of c r k ≡ true
  pub free : (r k : List ℕ) → has_row rows (outside_row r k) ≡ true → is_row_free lines r k attempt ≡ true
