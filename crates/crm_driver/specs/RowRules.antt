-- The rules of a compensator that keeps the rows of a resource.
use Rattle.std.specs.Prelude.{ℕ, ◌-◌, List, [], ◌∷◌, ◌++◌, ◌==◌, Bool, Option, Some, None, if◌then◌else◌}
use Rattle.qc_base.specs.declared.log_line.LogRecord.{LogRecord}
use Rattle.qc_base.specs.declared.log_line.Heard.{Heard}
use Rattle.qc_catalogue.specs.declared.catalogue.Resource.{Resource}
use Rattle.crm_driver.specs.Puts.{RowPut}
use Rattle.crm_driver.specs.Compensators.{Rules, CompensatorState}
use Rattle.crm_driver.specs.Ready.{is_ready_by}

abbrev pub put_of : List ℕ → List ℕ → ℕ → RowPut
put_of resource key amount = record { resource = resource; key = key; amount = amount }

-- A record whose amounts are equal is forgotten. The commit phase of a late resource puts the new amounts; the abort
-- phase of an early one puts the old ones back.
abbrev pub row_rules : List ℕ → Bool → Option (ℕ × ℕ) → Rules
row_rules resource early bounds = record {
  forgets = λ r. r.old == r.new;
  ready = is_ready_by bounds;
  commit_put = λ r. if early then None else Some (put_of resource r.key r.new);
  abort_put = λ r. if early then Some (put_of resource r.key r.old) else None;
}

abbrev pub rules_of : Resource → Rules
rules_of r = row_rules r.name r.early r.bounds

-- as callers see it
pub record RowCompensatorView : Type 0 where
  pub resource : List ℕ
  pub early : Bool
  pub bounds : Option (ℕ × ℕ)
  pub heard : List Heard
  pub delivered : List LogRecord
  pub spare : ℕ

abbrev pub state_of : RowCompensatorView → CompensatorState
state_of c = record {
  heard = c.heard;
  delivered = c.delivered;
  spare = c.spare;
  rules = row_rules c.resource c.early c.bounds;
}

-- after one call more
abbrev pub told_of : Heard → List LogRecord → RowCompensatorView → RowCompensatorView
told_of entry records c = record c { heard = c.heard ++ entry ∷ []; delivered = records; spare = c.spare - 1 }
