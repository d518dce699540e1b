-- What one resource is told in a phase.
use Rattle.std.specs.Prelude.{◌≡◌, ℕ, ◌+◌, ◌≤◌, List, [], length, filter_map, reverse, sum_by, Bool, true, not, ◌&&◌, ◌==◌, Option, Some, None, option_map, if◌then◌else◌}
use Rattle.std.specs.Str.{bytes_eq}
use Rattle.qc_base.specs.declared.log_line.LogRecord.{LogRecord}
use Rattle.qc_base.specs.declared.log_line.LogLine.{LogLine}
use Rattle.qc_base.specs.declared.log_line.LogLine.TheVariants.{Registered, Written}
use Rattle.qc_base.specs.declared.log_line.Heard.{Heard}
use Rattle.qc_base.specs.declared.log_line.Notice.{Notice}
use Rattle.qc_base.specs.LogLines.{has_phase, is_forgotten, unforgotten, commit_heard, abort_heard, notices_to}
use Rattle.qc_catalogue.specs.declared.catalogue.Catalogue.{Catalogue}
use Rattle.qc_catalogue.specs.declared.catalogue.Resource.{Resource}
use Rattle.qc_catalogue.specs.Lookup.{resource_named}
use Rattle.crm_driver.specs.Compensators.{CompensatorState, new_state}
use Rattle.crm_driver.specs.Puts.{RowPut}
use Rattle.crm_driver.specs.RowRules.{state_of, rules_of}
use Rattle.crm_recovery.specs.declared.telling.Telling.{Telling}

-- a record is one of an attempt and a resource, and none of these lines forgets it
abbrev pub is_kept : List LogLine → ℕ → List ℕ → ℕ → List ℕ → LogRecord → Bool
is_kept lines attempt resource own name r = (own == attempt) && (bytes_eq name resource && not (is_forgotten lines attempt (record { resource = name; entry = r })))

-- the record that a line writes, where it is such a one
abbrev pub kept_by : List LogLine → ℕ → List ℕ → LogLine → Option LogRecord
kept_by lines attempt resource (Written own name r) = if is_kept lines attempt resource own name r then Some r else None
kept_by lines attempt resource _ = None

-- the records that a resource's compensator is told of
pub record Plan : Type 0 where
  pub name : List ℕ
  pub records : List LogRecord
  pub state : CompensatorState

abbrev pub plan_of : Telling → Plan
plan_of t = record { name = t.name; records = t.records.items; state = state_of t.compensator }

-- with a new compensator, which can take all calls of a phase
abbrev pub new_plan : Resource → List LogRecord → Plan
new_plan r records = record { name = r.name; records = records; state = new_state (rules_of r) (length records + 2) }

-- the commit phase or the abort phase
abbrev pub phase_flag : Bool → ℕ
phase_flag committed = if committed then 2 else 4

-- the catalogue's resource that a line registers for the phase of an attempt
abbrev pub heard_by : Catalogue → ℕ → Bool → LogLine → Option Resource
heard_by c attempt committed (Registered a name phases) = if (a == attempt) && has_phase (phase_flag committed) phases then resource_named name c.resources else None
heard_by c attempt committed _ = None

abbrev pub plan_by : Catalogue → List LogLine → ℕ → Bool → LogLine → Option Plan
plan_by c lines attempt committed line = option_map (λ (r : Resource). new_plan r (unforgotten lines attempt r.name)) (heard_by c attempt committed line)

-- one for each resource that is registered for the phase, in order of registration
abbrev pub plans : Catalogue → List LogLine → ℕ → Bool → List Plan
plans c lines attempt committed = filter_map (plan_by c lines attempt committed) lines

-- the compensator has heard nothing, and can take all calls of a phase
pub record IsReady (p : Plan) : Type 0 where
  pub new : p.state.heard ≡ []
  pub room : length p.records + 2 ≤ p.state.spare

abbrev pub heard_in : Bool → List LogRecord → List Heard
heard_in committed records = if committed then commit_heard true records else abort_heard true records

abbrev pub plan_notices : Bool → Plan → List Notice
plan_notices committed p = notices_to p.name (heard_in committed p.records)

abbrev pub plan_puts : Bool → Plan → List RowPut
plan_puts committed p = if committed then filter_map p.state.rules.commit_put p.records else filter_map p.state.rules.abort_put (reverse p.records)

-- how many notices these tell
abbrev pub notices_in : List Plan → ℕ
notices_in ps = sum_by (λ (p : Plan). length p.records + 2) ps
