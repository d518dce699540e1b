-- The log of compensations with the outside rows, and what changes them.
use Rattle.std.specs.Prelude.{List, [], ◌∷◌, ◌++◌, length}
use Rattle.qc_base.specs.Rows.{OutsideRows}
use Rattle.qc_base.specs.declared.log_line.LogLine.{LogLine}
use Rattle.crm_log.specs.Log.{all_lines, lines_payload}
use Rattle.crm_driver.specs.Puts.{RowPut}
use Rattle.crm_recovery.specs.Settling.{rows_after}
use Rattle.qc_machine.specs.State.{FileEnd, after_group}

pub record LogAndRows : Type 0 where
  -- the groups of the log, in order, and the lines that wait behind them
  pub groups : List (List LogLine)
  pub staged : List LogLine
  -- where the log's file ends
  pub log : FileEnd
  -- the outside rows as they stand
  pub rows : OutsideRows

-- all lines of the log, those that wait behind the others
abbrev pub lines_of : LogAndRows → List LogLine
lines_of o = all_lines o.groups ++ o.staged

abbrev pub with_lines : List LogLine → LogAndRows → LogAndRows
with_lines lines o = record o { staged = o.staged ++ lines }

-- all that waits is one group of the log; where nothing waits, nothing changes
abbrev pub after_force : LogAndRows → LogAndRows
after_force o = elim o.staged [
  | [] ↦ o
  | line ∷ lines ↦ record o {
    groups = o.groups ++ o.staged ∷ [];
    staged = [];
    log = after_group (length (lines_payload o.staged)) o.log;
  }
]

-- rows are put, in order
abbrev pub with_puts : List RowPut → LogAndRows → LogAndRows
with_puts puts o = record o { rows = rows_after puts o.rows }
