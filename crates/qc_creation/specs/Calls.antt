-- What a call leaves that makes a site. `g` has the members of the site's trait.
use Rattle.std.specs.Prelude.{◌≡◌, ◌⊎◌, List, ℕ, OnOk, IsErr, IsErrOf}
use Rattle.std.specs.declared.result.Result.{Result}
use Rattle.qc_site.specs.declared.site.Site.{Ghosts}
use Rattle.qc_site.specs.Image.{Image}
use Rattle.qc_site.specs.Causes.{HasCause}
use Rattle.qc_site.specs.Disk.{LeavesOnly}
use Rattle.qc_frame.specs.Calls.{WritesNothing}
use Rattle.qc_journal.specs.History.{IsMade}
use Rattle.qc_catalogue.specs.declared.catalogue.Catalogue.{Catalogue}
use Rattle.qc_catalogue.specs.declared.error.CatalogueError.{CatalogueError}
use Rattle.qc_catalogue.specs.Catalogue.{IsCatalogueOf, catalogue_of}
use Rattle.qc_creation.specs.declared.error.CreateError.{CreateError}
use Rattle.qc_creation.specs.declared.error.CreateError.TheVariants.{SiteFault, AlreadyMade, BadCatalogue, NoMemory}
use Rattle.qc_creation.specs.Sites.{IsCreated, IsUnfinished, LeavesCreating}

module _ {S : Type 0} (g : Ghosts S) where
  -- A call that makes a site from the text of a catalogue. It was made before exactly where the call says so, or the site
  -- failed. A site that was made, or a text that is no catalogue, is left as it was.
  pub record CreatesSite {A : Type 0} (text : List ℕ) (result : Result A CreateError) (site after : S) : Type 0 where
    -- whatever the site tells
    pub valid : OnOk result ((c : Catalogue) × IsCatalogueOf text c)
    pub created : g.told → OnOk result (IsCreated text (g.shown site) (g.shown after))
    -- and so is each image, so that each later crash leaves such a site
    pub certain : g.told →
        OnOk result ((c : Image) → g.may_leave after c → (was : Image) × g.may_leave site was × IsCreated text was c)
    pub made : g.told → IsErrOf result AlreadyMade → IsMade (g.shown site)
    pub not_made : g.told → ¬ IsErrOf result AlreadyMade → ¬ IsErrOf result SiteFault → ¬ IsMade (g.shown site)
    pub refused : (e : CatalogueError) → IsErrOf result (BadCatalogue e) → catalogue_of text ≡ Result.Err e
    pub unchanged : IsErr result → ¬ IsErrOf result SiteFault → ¬ IsErrOf result NoMemory → WritesNothing g ⊥ site after
    pub starved : g.told → IsErrOf result NoMemory → (g.shown after ≡ g.shown site) ⊎ IsUnfinished text (g.shown site) (g.shown after)
    pub any_moment : g.told → LeavesOnly g.moment g.left_since site after (LeavesCreating text (g.may_leave site))
    pub cause : HasCause (g.faults site) (g.faults after) (IsErrOf result SiteFault)
