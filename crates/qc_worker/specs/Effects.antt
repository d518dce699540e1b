-- What an effect of a call writes to the log of compensations, and which row it puts at once.
use Rattle.std.specs.Prelude.{ℕ, ◌+◌, List, [], ◌∷◌, ◌++◌, Bool, true, Option, Some, None, is_some, if◌then◌else◌}
use Rattle.qc_base.specs.declared.log_line.LogRecord.{LogRecord}
use Rattle.qc_base.specs.declared.log_line.LogLine.{LogLine}
use Rattle.qc_base.specs.LogLines.{is_registered}
use Rattle.qc_catalogue.specs.declared.catalogue.Resource.{Resource}
use Rattle.qc_play.specs.declared.effect.Effect.{Effect}
use Rattle.qc_play.specs.declared.effect.Effect.TheVariants.{Change, Retract}
use Rattle.crm_clerk.specs.Clerk.{ClerkView, registering_lines, writing_lines, forgetting_lines, last_kept}
use Rattle.crm_driver.specs.Puts.{RowPut}
use Rattle.crm_driver.specs.RowRules.{put_of}

abbrev pub resource_of : Effect → List ℕ
resource_of (Change resource key old new) = resource
resource_of (Retract resource) = resource

-- a retract takes back the last record of the resource, which is there and unforgotten
abbrev pub can_carry : ClerkView → Resource → Effect → Bool
can_carry c r (Change resource key old new) = true
can_carry c r (Retract resource) = is_some (last_kept c.lines c.attempt r.name)

-- the registration of a resource, unless it is registered
abbrev pub first_lines : ClerkView → Resource → List LogLine
first_lines c r = if is_registered c.lines c.attempt r.name then [] else registering_lines c r.name r.phases

-- a change: the first of a resource has the registration before it
abbrev pub change_lines : ClerkView → Resource → List ℕ → ℕ → ℕ → List LogLine
change_lines c r key old new = first_lines c r ++ writing_lines c r.name key old new

abbrev pub effect_lines : ClerkView → Resource → Effect → List LogLine
effect_lines c r (Change resource key old new) = change_lines c r key old new
effect_lines c r (Retract resource) = forgetting_lines c r.name

-- how much of the clerk's room its registrations and records take
abbrev pub first_room : ClerkView → Resource → ℕ
first_room c r = if is_registered c.lines c.attempt r.name then 0 else 1

abbrev pub effect_room : ClerkView → Resource → Effect → ℕ
effect_room c r (Change resource key old new) = first_room c r + 1
effect_room c r (Retract resource) = 0

-- the row of a record of an early resource has its old amount again
abbrev pub put_back : Resource → LogRecord → List RowPut
put_back r last = if r.early then put_of r.name last.key last.old ∷ [] else []

-- what a retract puts, by the record that it takes back
abbrev pub puts_back : Resource → Option LogRecord → List RowPut
puts_back r (Some last) = put_back r last
puts_back r None = []

abbrev pub retract_puts : ClerkView → Resource → List RowPut
retract_puts c r = puts_back r (last_kept c.lines c.attempt r.name)
