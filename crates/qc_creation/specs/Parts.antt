-- What the parts of making a site leave. `g` has the members of the site's trait.
use Rattle.std.specs.Prelude.{◌≡◌, ◌⊎◌, List, ℕ, [], ◌∷◌, true, IfOk, OnOk, IsErr, IsErrOf}
use Rattle.std.specs.declared.result.Result.{Result}
use Rattle.qc_base.specs.declared.fact.Fact.{Fact}
use Rattle.qc_base.specs.declared.fact.Fact.TheVariants.{Catalogue as InForce}
use Rattle.qc_base.specs.Spelling.{is_fact}
use Rattle.qc_site.specs.declared.site.Failed.{Failed}
use Rattle.qc_site.specs.declared.site.Site.{Ghosts}
use Rattle.qc_site.specs.declared.site.SiteFile.TheVariants.{Journal as the_file}
use Rattle.qc_site.specs.Image.{Image}
use Rattle.qc_site.specs.Causes.{HasCause}
use Rattle.qc_site.specs.Disk.{Certain, FileStep, Follows, LeavesOnly}
use Rattle.qc_frame.specs.declared.error.LogError.{LogError}
use Rattle.qc_frame.specs.declared.error.LogError.TheVariants.{SiteFault as log_fault, NotMade, Damaged, NoMemory as log_memory}
use Rattle.qc_frame.specs.Frame.{HasHeader, IsBegun, groups}
use Rattle.qc_frame.specs.Gate.{After}
use Rattle.qc_frame.specs.Log.{SameLog}
use Rattle.qc_frame.specs.Calls.{LogStands, ChangesFile, WritesNothing}
use Rattle.qc_journal.specs.declared.journal.Journal.{Journal}
use Rattle.qc_journal.specs.History.{IsMade, SpellsHistory, journal_header}
use Rattle.qc_journal.specs.Journal.{log_of, CanAppend}
use Rattle.qc_catalogue.specs.declared.catalogue.Catalogue.{Catalogue}
use Rattle.qc_catalogue.specs.declared.error.CatalogueError.{CatalogueError}
use Rattle.qc_catalogue.specs.Catalogue.{IsCatalogueOf, catalogue_of}
use Rattle.qc_creation.specs.declared.error.CreateError.{CreateError}
use Rattle.qc_creation.specs.declared.error.CreateError.TheVariants.{SiteFault, AlreadyMade, BadCatalogue, NoMemory}
use Rattle.qc_creation.specs.Rows.{OpeningRow, with_rows, LeavesFront}

-- why a journal that was just made isn't read
abbrev pub unread : LogError → CreateError
unread log_fault = SiteFault
unread NotMade = AlreadyMade
unread (Damaged at) = AlreadyMade
unread log_memory = NoMemory

-- the journal has its header and no fact
abbrev pub IsEmpty : List ℕ → Type 0
IsEmpty file = HasHeader journal_header file × (groups file ≡ [])

-- the journal has its header and this fact alone
pub record HasOnly (fact : Fact) (file : List ℕ) : Type 0 where
  pub header : HasHeader journal_header file
  pub spelled : SpellsHistory file (fact ∷ [])

-- a journal that isn't begun stays so, or has this fact alone
abbrev pub Begins : Fact → List ℕ → List ℕ → Type 0
Begins fact old new = (¬ IsBegun journal_header old → ¬ IsBegun journal_header new) ⊎ HasOnly fact new

module _ {S : Type 0} (g : Ghosts S) where
  -- A call that makes these rows, each of them one step.
  pub record MakesRows {A : Type 0} (rows : List OpeningRow) (result : Result A Failed) (site after : S) : Type 0 where
    pub made : g.told → OnOk result (g.shown after ≡ with_rows rows (g.shown site))
    pub certain : g.told → OnOk result (Follows (λ d c. c ≡ with_rows rows d) (g.may_leave site) (g.may_leave after))
    pub any_moment : g.told → LeavesOnly g.moment g.left_since site after (LeavesFront rows (g.may_leave site))
    pub cause : HasCause (g.faults site) (g.faults after) (IsErr result)

  -- A call that opens the journal that was just made, at its end, with room for a fact.
  pub record OpensEmpty (fact : Fact) (result : Result Journal CreateError) (site after : S) : Type 0 where
    pub stands : IfOk result (λ journal. LogStands g (log_of journal) after)
    pub whole : IfOk result (λ journal. journal.start ≡ 16)
    pub room : IfOk result (λ journal. CanAppend journal fact)
    pub not_bad : (e : CatalogueError) → ¬ IsErrOf result (BadCatalogue e)
    pub other : g.told → IsErrOf result AlreadyMade → ¬ IsEmpty (g.shown site).journal
    pub keeps : ChangesFile g the_file SameLog (IsErrOf result SiteFault) site after

  -- A call that leaves a journal that has this fact alone.
  pub record BeginsJournal {A : Type 0} (fact : Fact) (result : Result A CreateError) (site after : S) : Type 0 where
    pub begun : g.told → OnOk result (FileStep the_file (λ old new. HasOnly fact new) (g.shown site) (g.shown after))
    pub certain : g.told → OnOk result ((c : Image) → g.may_leave after c → After the_file (λ old new. HasOnly fact new) (g.may_leave site) c)
    pub starved : g.told → IsErrOf result NoMemory → FileStep the_file (λ old new. IsEmpty new) (g.shown site) (g.shown after)
    pub not_bad : (e : CatalogueError) → ¬ IsErrOf result (BadCatalogue e)
    pub not_other : g.told → ¬ IsErrOf result AlreadyMade
    pub any_moment : g.told → LeavesOnly g.moment g.left_since site after (After the_file (Begins fact) (g.may_leave site))
    pub cause : HasCause (g.faults site) (g.faults after) (IsErrOf result SiteFault)

  -- A call that reads the text for a site that isn't made, and changes nothing.
  pub record Prepares (text : List ℕ) (result : Result (Catalogue × Fact) CreateError) (site after : S) : Type 0 where
    pub read : IfOk result (λ r. IsCatalogueOf text r.0 × (r.1 ≡ InForce text) × (is_fact r.1 ≡ true))
    pub made : g.told → IsErrOf result AlreadyMade → IsMade (g.shown site)
    pub not_made : g.told → ¬ IsErrOf result AlreadyMade → ¬ IsErrOf result SiteFault → ¬ IsMade (g.shown site)
    pub refused : (e : CatalogueError) → IsErrOf result (BadCatalogue e) → catalogue_of text ≡ Result.Err e
    pub certain : g.told → OnOk result (Certain the_file (g.shown site).journal (g.may_leave after))
    pub writes : WritesNothing g (IsErrOf result SiteFault) site after
