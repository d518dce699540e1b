-- What contracts see of a compensator, and how it goes on as it is told of a phase.
use Rattle.std.specs.Prelude.{ℕ, ◌-◌, List, [], ◌∷◌, ◌++◌, length, Bool, Option}
use Rattle.qc_base.specs.declared.log_line.LogRecord.{LogRecord}
use Rattle.qc_base.specs.declared.log_line.Heard.{Heard}
use Rattle.crm_driver.specs.Puts.{RowPut}

-- what it answers and does, which no call changes
pub record Rules : Type 0 where
  -- the records that it answers are to be forgotten
  pub forgets : LogRecord → Bool
  -- the lists of records, delivered in this order, after which it is ready
  pub ready : List LogRecord → Bool
  -- the one put that it makes for a record in the commit phase, and in the abort phase, where it makes one
  pub commit_put : LogRecord → Option RowPut
  pub abort_put : LogRecord → Option RowPut

pub record CompensatorState : Type 0 where
  -- since it was made
  pub heard : List Heard
  -- since its last begin
  pub delivered : List LogRecord
  -- how many calls it can still take
  pub spare : ℕ
  pub rules : Rules

-- of one that has heard nothing yet
abbrev pub new_state : Rules → ℕ → CompensatorState
new_state rules room = record { heard = []; delivered = []; spare = room; rules = rules }

-- it has heard these entries more, and these are now the records that were delivered
abbrev pub hears : List Heard → List LogRecord → CompensatorState → CompensatorState
hears entries records s = record s { heard = s.heard ++ entries; delivered = records; spare = s.spare - length entries }

-- one call: a begin, a record, an end
abbrev pub hears_begin : Heard → CompensatorState → CompensatorState
hears_begin entry s = hears (entry ∷ []) [] s

abbrev pub hears_record : Heard → LogRecord → CompensatorState → CompensatorState
hears_record entry r s = hears (entry ∷ []) (s.delivered ++ r ∷ []) s

abbrev pub hears_end : Heard → CompensatorState → CompensatorState
hears_end entry s = hears (entry ∷ []) s.delivered s
