-- The commit phase or the abort phase of an attempt, and its end. `g` has the members of the site's trait.
use Rattle.std.specs.Prelude.{◌≡◌, ℕ, List, [], ◌++◌, filter_map, reverse, Bool, true, false, OnOk, IsOk, IsErr, Vec, if◌then◌else◌}
use Rattle.std.specs.List.{list_all}
use Rattle.std.specs.Option.{option_map_or}
use Rattle.std.specs.Str.{bytes_eq}
use Rattle.std.specs.declared.result.Result.{Result}
use Rattle.std.specs.declared.alloc.Global.{Global}
use Rattle.qc_base.specs.declared.log_line.Heard.{Heard}
use Rattle.qc_base.specs.declared.log_line.LogRecord.{LogRecord}
use Rattle.qc_base.specs.declared.log_line.Notice.{Notice}
use Rattle.qc_base.specs.LogLines.{Registration, abort_heard, commit_heard, has_phase, is_opened, phase_of, phases_of}
use Rattle.qc_site.specs.declared.site.Failed.{Failed}
use Rattle.qc_site.specs.declared.site.Site.{Ghosts}
use Rattle.qc_site.specs.Causes.{HasCause}
use Rattle.qc_frame.specs.Calls.{Forces, LogStands}
use Rattle.qc_frame.specs.Log.{LogView}
use Rattle.qc_entries.specs.Entries.{EntriesView}
use Rattle.qc_catalogue.specs.declared.catalogue.Catalogue.{Catalogue}
use Rattle.qc_catalogue.specs.Rows.{has_its_phases}
use Rattle.crm_clerk.specs.Clerk.{ClerkView, finishing_lines}
use Rattle.crm_clerk.specs.Staging.{staged_lines}
use Rattle.crm_driver.specs.Compensators.{CompensatorState, Rules}
use Rattle.crm_driver.specs.Puts.{RowPut, MakesPuts}
use Rattle.crm_history.specs.Legal.{has_phases}
use Rattle.crm_recovery.specs.Settling.{phase_puts}
use Rattle.crm_recovery.specs.Tellings.{phase_flag}
use Rattle.qc_machine.specs.LogAndRows.{LogAndRows, lines_of, with_puts}
use Rattle.qc_machine.specs.Underway.{done_where, heard_in_phase}
use Rattle.qc_underway.specs.declared.compensators.Compensators.{Compensators}
use Rattle.qc_underway.specs.Compensators.{IsMadeBy, TellsMore, forget_room, named, records_of, registered_by}
use Rattle.qc_underway.specs.Standing.{IsAt, IsUnderway}

-- What is known of an attempt's registrations: each is of a resource of the catalogue, with its phases, and each
-- resource hears of the phases that it needs.
pub record AreRegistered (c : Catalogue) (clerk : ClerkView) : Type 0 where
  pub phases : list_all has_its_phases c.resources ≡ true
  pub each : list_all (λ (r : Registration). has_phases c r.resource r.phases) (registered_by clerk) ≡ true

-- what a compensator hears in a phase of an attempt under way, and the order in which the records are delivered

abbrev pub phase_heard : Bool → List LogRecord → List Heard
phase_heard committed records = if committed then commit_heard false records else abort_heard false records

abbrev pub phase_order : Bool → List LogRecord → List LogRecord
phase_order committed records = if committed then records else reverse records

-- what it puts
abbrev pub rules_puts : Rules → Bool → List LogRecord → List RowPut
rules_puts rules committed records = if committed then filter_map rules.commit_put records else filter_map rules.abort_put (reverse records)

-- the puts of a registered resource, by its compensator
abbrev pub told_puts : ClerkView → Compensators → Bool → Registration → List RowPut
told_puts clerk told committed r =
    if has_phase (phase_flag committed) r.phases
    then option_map_or (λ (s : CompensatorState). rules_puts s.rules committed (records_of clerk r.resource)) (named told r.resource) []
    else []

module _ {S : Type 0} (g : Ghosts S) where
  -- the phase of one registered resource
  pub record DeliversOne (clerk : ClerkView) (committed : Bool) (r : Registration) (result : Result (Unit {0}) Failed)
      (told : Compensators) (notices : Vec Notice Global) (site : S) (after : Compensators) (more : Vec Notice Global) (now : S) : Type 0 where
    pub puts : MakesPuts g (told_puts clerk told committed r) result site now
    pub heard : OnOk result (TellsMore (phase_of clerk.lines clerk.attempt committed false r) notices more)
    pub others : OnOk result ((name : List ℕ) → bytes_eq r.resource name ≡ false → named after name ≡ named told name)
    pub forget : OnOk result (forget_room after ≡ forget_room told)

  -- The phase of all registered resources, over their records that aren't forgotten: the puts are those of the machine,
  -- in order, and so is what is heard. The log stands where it stood. It fails only where the site failed.
  pub record DeliversPhase (clerk : ClerkView) (committed : Bool) (result : Result (Unit {0}) Failed)
      (told : Compensators) (old : List Notice) (site : S) (new : List Notice) (after : S) : Type 0 where
    pub puts : (c : Catalogue) → IsMadeBy c told → AreRegistered c clerk
        → MakesPuts g (phase_puts c clerk.lines clerk.attempt committed) result site after
    pub heard : OnOk result (new ≡ old ++ phases_of clerk.lines clerk.attempt committed false)
    pub stands : (log : LogView) → LogStands g log site → OnOk result (LogStands g log after)
    pub shown : g.told → (c : Catalogue) → IsMadeBy c told → AreRegistered c clerk
        → (log : EntriesView) → (o : LogAndRows) → IsUnderway (g.shown site) log clerk o
        → OnOk result (IsUnderway (g.shown after) log clerk (with_puts (phase_puts c (lines_of o) clerk.attempt committed) o)
        × (new ≡ old ++ heard_in_phase clerk.attempt committed o))
    pub cause : HasCause (g.faults site) (g.faults after) (IsErr result)

  -- The end of an attempt: Done is written and forced, with all that waits, exactly where it was opened. It fails only
  -- where the site failed.
  pub record EndsAttempt (clerk : ClerkView) (result : Result (Unit {0}) Failed)
      (log : EntriesView) (site : S) (later : EntriesView) (after : S) : Type 0 where
    pub nothing : is_opened clerk.lines clerk.attempt ≡ false → IsOk result × (later ≡ log) × (after ≡ site)
    pub shown : g.told → (o : LogAndRows) → IsUnderway (g.shown site) log clerk o
        → OnOk result (IsAt (g.shown after) later (done_where (is_opened (lines_of o) clerk.attempt) clerk.attempt o))
    -- at each moment an image has the group with Done whole or not at all, and after Ok each later image has it
    pub forces : is_opened clerk.lines clerk.attempt ≡ true
        → Forces g {A = Unit {0}} {E = Failed} result (staged_lines log (finishing_lines clerk)).log site later.log after
    pub stands : OnOk result (LogStands g later.log after)
    pub cause : HasCause (g.faults site) (g.faults after) (IsErr result)
