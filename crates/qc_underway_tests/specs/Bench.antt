-- A bench on which the next call can be run. `g` has the members of the site's trait.
use Rattle.std.specs.Prelude.{◌≡◌, Bool, true, false}
use Rattle.qc_site.specs.declared.site.Site.{Ghosts}
use Rattle.qc_frame.specs.Calls.{LogStands}
use Rattle.qc_entries.specs.Entries.{EntriesView}
use Rattle.qc_catalogue.specs.declared.catalogue.Catalogue.{Catalogue}
use Rattle.qc_txn.specs.Attempt.{AttemptView, PlaysBy}
use Rattle.crm_clerk.specs.Clerk.{ClerkView}
use Rattle.qc_underway.specs.Compensators.{IsOrderly}
use Rattle.qc_underway.specs.Standing.{HasRoomLeft, has_phases}

module _ {S : Type 0} (g : Ghosts S) where
  -- the log stands on the site, the clerk is in order, and there is room in both for the calls that are left
  pub record StandsBy (c : Catalogue) (site : S) (log : EntriesView) (clerk : ClerkView) (a : AttemptView) : Type 0 where
    pub plays : PlaysBy c a
    pub phases : has_phases c ≡ true
    pub stands : LogStands g log.log site
    pub room : HasRoomLeft c a clerk log
    pub orderly : IsOrderly clerk

  -- and so it is unless the site failed
  abbrev pub IsReady : Catalogue → S → EntriesView → ClerkView → AttemptView → Bool → Type 0
  IsReady c site log clerk a stopped = stopped ≡ false → StandsBy c site log clerk a
