-- What carrying an effect out leaves of clerk, log and site. `g` has the members of the site's trait.
use Rattle.std.specs.Prelude.{◌≡◌, ◌⊎◌, ℕ, ◌+◌, ◌≤◌, List, [], ◌∷◌, ◌++◌, length, Ok, MatchBool, OnOk, OnErr, IsErr}
use Rattle.std.specs.declared.result.Result.{Result}
use Rattle.qc_base.specs.Rows.{OutsideRows}
use Rattle.qc_base.specs.declared.log_line.LogLine.{LogLine}
use Rattle.qc_site.specs.declared.site.Failed.{Failed}
use Rattle.qc_site.specs.declared.site.Site.{Ghosts}
use Rattle.qc_site.specs.Causes.{HasCause}
use Rattle.qc_site.specs.Disk.{FileStep, Follows, Images, LeavesOnly}
use Rattle.qc_site.specs.Image.{Image}
use Rattle.qc_frame.specs.Calls.{LogStands, Forces}
use Rattle.qc_frame.specs.Log.{LogView, HasGroup, WholeFrom, WholeOrNotFrom, forced}
use Rattle.qc_entries.specs.Entries.{EntriesView}
use Rattle.qc_catalogue.specs.declared.catalogue.Resource.{Resource}
use Rattle.qc_play.specs.declared.effect.Effect.{Effect}
use Rattle.qc_play.specs.declared.effect.Effect.TheVariants.{Change, Retract}
use Rattle.crm_log.specs.Log.{IsLogOf, LinesWait}
use Rattle.crm_clerk.specs.Calls.{HasStaged}
use Rattle.crm_clerk.specs.Clerk.{ClerkView, forgetting_lines}
use Rattle.crm_clerk.specs.Staging.{staged_lines}
use Rattle.crm_driver.specs.Puts.{RowPut, after_put, GoesByPut, MakesPuts}
use Rattle.crm_driver.specs.RowRules.{put_of}
use Rattle.qc_worker.specs.Effects.{change_lines, first_room, retract_puts}

-- all that waits is a group of the log, and then the row is put
pub record LoggedThenPut (log : LogView) (rows : OutsideRows) (put : RowPut) (was c : Image) : Type 0 where
  pub logged : Image
  pub group : FileStep log.file (WholeFrom log.start log.payload) was logged
  pub row : GoesByPut rows put logged c

-- An image goes on with the group whole or not, its rows as they were; or with the group whole, and then the row put.
abbrev pub GoesByLogged : LogView → OutsideRows → RowPut → Image → Image → Type 0
GoesByLogged log rows put was c = FileStep log.file (WholeOrNotFrom log.start log.payload) was c ⊎ LoggedThenPut log rows put was c

-- an image is one of those before, gone on so
abbrev pub LeavesLogged : LogView → OutsideRows → RowPut → Images → Image → Type 0
LeavesLogged log rows put before c = (was : Image) × before was × GoesByLogged log rows put was c

-- what is shown has the group, and then the row put
pub record ShowsPut (log : LogView) (put : RowPut) (old new : Image) : Type 0 where
  pub logged : Image
  pub group : HasGroup log.payload log old logged
  pub row : new ≡ after_put put logged

-- the log, once all that waited is a group of it
abbrev pub forced_lines : EntriesView → EntriesView
forced_lines log = record log { log = forced log.log }

-- the log, where the force failed: nothing waits any more
abbrev pub emptied : EntriesView → EntriesView
emptied log = record log { log = record log.log { payload = [] } }

module _ {S : Type 0} (g : Ghosts S) where
  -- The force failed: nothing waits any more, and no row was put.
  pub record FailsAtForce {A : Type 0} (result : Result A Failed)
      (log : EntriesView) (site : S) (new : EntriesView) (after : S) : Type 0 where
    pub dropped : new ≡ emptied log
    pub failed : Forces g result log.log site new.log after

  -- The put failed, and the force was done before.
  pub record FailsAtPut {A : Type 0} (put : RowPut) (result : Result A Failed)
      (log : EntriesView) (site : S) (new : EntriesView) (after : S) : Type 0 where
    pub kept : new ≡ forced_lines log
    pub mid : S
    pub forced : Forces g {A = Unit {0}} {E = Failed} (Ok (tt {0})) log.log site new.log mid
    pub failed : MakesPuts g (put ∷ []) result mid after

  -- All that waits in the log is forced, and then the row is put. A crash at any moment leaves the row as it was, or put
  -- where the group is there whole; after Ok each image has both. It fails only where the site failed.
  pub record ForcesThenPuts {A : Type 0} (put : RowPut) (result : Result A Failed)
      (log : EntriesView) (site : S) (new : EntriesView) (after : S) : Type 0 where
    pub forces : OnOk result (new ≡ forced_lines log)
    pub failed : OnErr result (FailsAtForce result log site new after ⊎ FailsAtPut put result log site new after)
    pub stands : OnOk result (LogStands g new.log after)
    pub shown : g.told → OnOk result (ShowsPut log.log put (g.shown site) (g.shown after))
    -- the lines that waited are one group more
    pub spells : g.told → (groups : List (List LogLine)) → (lines : List LogLine) → LinesWait log lines → 1 ≤ length lines
        → IsLogOf (g.shown site) groups → OnOk result (IsLogOf (g.shown after) (groups ++ lines ∷ []))
    pub certain : g.told → OnOk result (Follows (LoggedThenPut log.log (g.shown site).rows put) (g.may_leave site) (g.may_leave after))
    pub any_moment : g.told → LeavesOnly g.moment g.left_since site after (LeavesLogged log.log (g.shown site).rows put (g.may_leave site))
    pub cause : HasCause (g.faults site) (g.faults after) (IsErr result)

  -- These lines are written, and then all that waits is forced and the row is put: after Ok the log spells what waited
  -- and these lines as one group more. The clerk has the lines also after a failure.
  pub record WritesThenPuts {A : Type 0} (lines : List LogLine) (taken : ℕ) (put : RowPut) (result : Result A Failed)
      (old : ClerkView) (log : EntriesView) (site : S) (new : ClerkView) (later : EntriesView) (after : S) : Type 0 where
    pub written : HasStaged lines taken old log new (staged_lines log lines)
    pub puts : ForcesThenPuts put result (staged_lines log lines) site later after
    pub spells : g.told → (groups : List (List LogLine)) → (before : List LogLine) → LinesWait log before
        → IsLogOf (g.shown site) groups → OnOk result (IsLogOf (g.shown after) (groups ++ (before ++ lines) ∷ []))

  -- The rows are put, if there are any, and then these lines are written, which wait. After a failure nothing is
  -- written.
  pub record PutsThenWrites {A : Type 0} (puts : List RowPut) (lines : List LogLine) (taken : ℕ) (result : Result A Failed)
      (old : ClerkView) (log : EntriesView) (site : S) (new : ClerkView) (later : EntriesView) (after : S) : Type 0 where
    pub makes : MakesPuts g puts result site after
    pub written : OnOk result (HasStaged lines taken old log new later)
    pub unwritten : OnErr result ((new ≡ old) × (later ≡ log))
    pub stands : OnOk result (LogStands g later.log after)

  -- A change of an early resource is written, forced and put, and one of a late resource written alone. A retract of an
  -- early resource has the old amount put back, and then Forgot written, and one of a late resource Forgot alone.
  abbrev pub Carries : {A : Type 0} → Resource → Effect → Result A Failed → ClerkView → EntriesView → S → ClerkView → EntriesView → S → Type 0
  Carries r (Change resource key amount becomes) result old log site new later after =
      MatchBool r.early
      (WritesThenPuts (change_lines old r key amount becomes) (first_room old r + 1) (put_of r.name key becomes) result old log site new later after)
      (PutsThenWrites [] (change_lines old r key amount becomes) (first_room old r + 1) result old log site new later after)
  Carries r (Retract resource) result old log site new later after =
      PutsThenWrites (retract_puts old r) (forgetting_lines old r.name) 0 result old log site new later after
