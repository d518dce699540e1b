-- A bench that is ready for so many effects. `g` has the members of the site's trait.
use Rattle.std.specs.Prelude.{◌≡◌, ℕ, ◌*◌, ◌≤◌, Bool, true, false}
use Rattle.qc_site.specs.declared.site.Site.{Ghosts}
use Rattle.qc_frame.specs.Calls.{LogStands}
use Rattle.qc_entries.specs.Entries.{EntriesView}
use Rattle.qc_catalogue.specs.declared.catalogue.Resource.{Resource}
use Rattle.qc_play.specs.declared.effect.Effect.{Effect}
use Rattle.crm_log.specs.Parts.{are_phases}
use Rattle.crm_clerk.specs.Clerk.{ClerkView}
use Rattle.crm_clerk.specs.Staging.{HasRoomFor}
use Rattle.qc_worker.specs.Effects.{resource_of, can_carry}

-- an effect may be carried out
pub record IsAllowed (clerk : ClerkView) (resource : Resource) (effect : Effect) : Type 0 where
  pub named : resource_of effect ≡ resource.name
  pub phases : are_phases resource.phases ≡ true
  pub last : can_carry clerk resource effect ≡ true

module _ {S : Type 0} (g : Ghosts S) where
  -- the log stands on the site, and clerk and log have room for these effects, each of three lines
  pub record StandsFor (site : S) (log : EntriesView) (clerk : ClerkView) (effects : ℕ) : Type 0 where
    pub stands : LogStands g log.log site
    pub clerk_room : 2 * effects ≤ clerk.room
    pub log_room : HasRoomFor (3 * effects) log

  -- and so it is unless the site failed
  abbrev pub IsReady : S → EntriesView → ClerkView → ℕ → Bool → Type 0
  IsReady site log clerk effects stopped = stopped ≡ false → StandsFor site log clerk effects
