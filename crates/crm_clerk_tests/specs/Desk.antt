-- A desk that is ready for so many calls. `g` has the members of the site's trait.
use Rattle.std.specs.Prelude.{◌≡◌, ℕ, ◌+◌, ◌*◌, ◌≤◌, OnOk}
use Rattle.std.specs.declared.result.Result.{Result}
use Rattle.qc_site.specs.declared.site.Site.{Ghosts}
use Rattle.qc_entries.specs.Entries.{EntriesView}
use Rattle.qc_frame.specs.Calls.{LogStands}
use Rattle.crm_clerk.specs.Clerk.{ClerkView}
use Rattle.crm_clerk.specs.Staging.{HasRoomFor}

module _ {S : Type 0} (g : Ghosts S) where
  -- the log stands on the site, and clerk and log have room for these calls, each of two lines
  pub record IsReady (site : S) (log : EntriesView) (clerk : ClerkView) (calls : ℕ) : Type 0 where
    pub stands : LogStands g log.log site
    pub clerk_room : calls ≤ clerk.room
    pub log_room : HasRoomFor (2 * calls) log
