-- What running a call leaves of an attempt, its clerk, the log and the site. `g` has the members of the site's trait.
use Rattle.std.specs.Prelude.{◌≡◌, ◌⊎◌, ℕ, List, [], ◌∷◌, slice_get, Option, Some, None, Ok, Err, OnOk, IsOk, IsErr}
use Rattle.std.specs.declared.result.Result.{Result}
use Rattle.qc_site.specs.declared.site.Failed.{Failed}
use Rattle.qc_site.specs.declared.site.Site.{Ghosts}
use Rattle.qc_site.specs.Causes.{HasCause}
use Rattle.qc_frame.specs.Calls.{LogStands}
use Rattle.qc_entries.specs.Entries.{EntriesView}
use Rattle.qc_catalogue.specs.declared.catalogue.Catalogue.{Catalogue}
use Rattle.qc_catalogue.specs.declared.catalogue.Resource.{Resource}
use Rattle.qc_catalogue.specs.Lookup.{resource_named}
use Rattle.qc_play.specs.declared.effect.Effect.{Effect}
use Rattle.qc_txn.specs.Attempt.{AttemptView, RunsNext}
use Rattle.qc_txn.specs.Parts.{Part, parts_of}
use Rattle.crm_clerk.specs.Clerk.{ClerkView}
use Rattle.qc_worker.specs.Calls.{Carries}
use Rattle.qc_worker.specs.Effects.{resource_of}
use Rattle.qc_machine.specs.Carrying.{carry_all}
use Rattle.qc_machine.specs.LogAndRows.{LogAndRows}
use Rattle.qc_machine.specs.State.{HeldAttempt}
use Rattle.qc_machine.specs.Underway.{run_next}
use Rattle.qc_underway.specs.Standing.{IsUnderway, IsHeld, HasRoomLeft, LeavesRoom, clerk_by_all, lines_by_all}

-- the attempt, once its next call ran or failed; where the site failed the call has run
abbrev pub RanCall : Option Part → AttemptView → AttemptView → Result (Result ℕ ℕ) Failed → Type 0
RanCall part old new (Ok told) = RunsNext part old new told
RanCall part old new (Err failed) = (number : ℕ) × RunsNext part old new (Ok number)

module _ {S : Type 0} (g : Ghosts S) where
  -- nothing is done
  pub record PassesOver (result : Result (Unit {0}) Failed)
      (old : ClerkView) (log : EntriesView) (site : S) (new : ClerkView) (later : EntriesView) (after : S) : Type 0 where
    pub ok : IsOk result
    pub clerk : new ≡ old
    pub lines : later ≡ log
    pub still : after ≡ site

  -- an effect of this resource; one without a resource of the catalogue is passed over
  abbrev pub CarriesBy : Option Resource → Effect → Result (Unit {0}) Failed → ClerkView → EntriesView → S → ClerkView → EntriesView → S → Type 0
  CarriesBy (Some r) e result old log site new later after = Carries g r e result old log site new later after
  CarriesBy None e result old log site new later after = PassesOver result old log site new later after

  abbrev pub CarriesOne : Catalogue → Effect → Result (Unit {0}) Failed → ClerkView → EntriesView → S → ClerkView → EntriesView → S → Type 0
  CarriesOne c e result old log site new later after = CarriesBy (resource_named (resource_of e) c.resources) e result old log site new later after

  -- the first of these effects is carried out, and then the others
  pub record CarriesOn (first : Result (Unit {0}) Failed → ClerkView → EntriesView → S → Type 0)
      (others : ClerkView → EntriesView → S → Type 0) : Type 0 where
    pub clerk : ClerkView
    pub log : EntriesView
    pub site : S
    pub done : first (Ok (tt {0})) clerk log site
    pub left : others clerk log site

  -- Effects one after another. Where one fails, those before it were carried out.
  abbrev pub CarriesEach : Catalogue → List Effect → Result (Unit {0}) Failed → ClerkView → EntriesView → S → ClerkView → EntriesView → S → Type 0
  CarriesEach c [] result old log site new later after = PassesOver result old log site new later after
  CarriesEach c (e ∷ es) result old log site new later after =
      CarriesOn (λ told mid between then. CarriesOne c e told old log site mid between then) (λ mid between then. CarriesEach c es result mid between then new later after)
      ⊎ (IsErr result × CarriesOne c e result old log site new later after)

  -- The effects of a call are carried out in order. After Ok the clerk has their lines, and log and rows are those of the
  -- machine. It fails only where the site failed.
  pub record CarriesAll (c : Catalogue) (effects : List Effect) (result : Result (Unit {0}) Failed)
      (old : ClerkView) (log : EntriesView) (site : S) (new : ClerkView) (later : EntriesView) (after : S) : Type 0 where
    pub each : CarriesEach c effects result old log site new later after
    pub clerk : OnOk result (new ≡ clerk_by_all c old effects)
    pub room : OnOk result (LeavesRoom (lines_by_all c old effects) log later)
    pub stands : OnOk result (LogStands g later.log after)
    pub told : g.told → (o : LogAndRows) → IsUnderway (g.shown site) log old o
        → OnOk result (IsUnderway (g.shown after) later new (carry_all c old.attempt old.id effects o))
    pub cause : HasCause (g.faults site) (g.faults after) (IsErr result)

  -- a call that ran has its effects carried out, up to where the site failed, and one that failed has none
  abbrev pub CarriesCall : Catalogue → List Effect → Result (Result ℕ ℕ) Failed → ClerkView → EntriesView → S → ClerkView → EntriesView → S → Type 0
  CarriesCall c effects (Ok (Ok number)) old log site new later after = CarriesAll c effects (Ok (tt {0})) old log site new later after
  CarriesCall c effects (Ok (Err step)) old log site new later after = PassesOver (Ok (tt {0})) old log site new later after
  CarriesCall c effects (Err failed) old log site new later after = CarriesAll c effects (Err failed) old log site new later after

  -- The next call of an attempt runs. After Ok the log and the rows are those of the machine, and there is room for the
  -- calls that are left. It fails only where the site failed.
  pub record RunsOn (c : Catalogue) (result : Result (Result ℕ ℕ) Failed)
      (a : AttemptView) (old : ClerkView) (log : EntriesView) (site : S)
      (b : AttemptView) (new : ClerkView) (later : EntriesView) (after : S) : Type 0 where
    pub ran : RanCall (slice_get (parts_of c a.recording a.kind) a.calls) a b result
    pub carried : CarriesCall c b.play.effects result old log site new later after
    pub room : OnOk result (HasRoomLeft c b new later)
    pub stands : OnOk result (LogStands g later.log after)
    pub told : g.told → (held : HeldAttempt) → IsHeld a old held → (o : LogAndRows) → IsUnderway (g.shown site) log old o
        → OnOk result (IsUnderway (g.shown after) later new (run_next c (parts_of c a.recording a.kind) (record { held = held; site = o })).site)
    pub cause : HasCause (g.faults site) (g.faults after) (IsErr result)
