-- What a site's making says of the text that it read, the line that it wrote, and the site that it leaves.
use Rattle.std.specs.Prelude.{◌≡◌, ◌⊎◌, ◌≤◌, ℕ, ◌+◌, List, [], ◌∷◌, ◌++◌, length, take, codes, Option, Some, Bool, true, false, Result, Vec, IfOk, OnOk, Err}
use Rattle.std.specs.declared.alloc.Global.{Global}
use Rattle.qc_protocol.specs.declared.status.Status.{Status}
use Rattle.qc_protocol.specs.declared.status.Status.TheVariants.{Done, SourceFault, SinkFault, SiteFault, AlreadyMade, BadCatalogue, NoMemory}
use Rattle.qc_site.specs.declared.site.Site.{Ghosts}
use Rattle.qc_site.specs.Disk.{LeavesOnly}
use Rattle.qc_site.specs.Image.{Image}
use Rattle.qc_journal.specs.History.{IsMade}
use Rattle.qc_catalogue.specs.declared.error.CatalogueError.{CatalogueError}
use Rattle.qc_catalogue.specs.declared.catalogue.Catalogue.{Catalogue}
use Rattle.qc_catalogue.specs.Catalogue.{IsCatalogueOf, catalogue_of}
use Rattle.qc_catalogue.specs.Texts.{error_text}
use Rattle.qc_creation.specs.Sites.{IsCreated, IsUnfinished, LeavesCreating}
use Rattle.qc_drill.specs.declared.stop.Stop.{Stop}
use Rattle.qc_drill.specs.Fronts.{IsFrontOf, Wrote, Took}

-- the bytes of the longest text that can be a catalogue
abbrev pub longest_text : ℕ
longest_text = 1048576

-- the line on a text that is no catalogue, with its newline
abbrev pub refusal_line : CatalogueError → List ℕ
refusal_line e = codes "bad catalogue: " ++ error_text e ++ 10 ∷ []

-- One read of a source, whose bytes were added to a text.
pub record GivesSome (room : ℕ) (result : Result ℕ Stop) (text : List ℕ) (left : Option (List ℕ)) (new : List ℕ) (left_now : Option (List ℕ)) : Type 0 where
  pub given : List ℕ
  pub took : Took given left left_now
  pub few : length given ≤ room
  pub count : IfOk result (λ n. n ≡ length given)
  pub end : OnOk result (given ≡ [] → (bytes : List ℕ) → left ≡ Some bytes → bytes ≡ [])
  pub grown : OnOk result (new ≡ text ++ given)

-- A text was read to the source's end, or to the first byte past the longest.
pub record ReadsText (result : Result (Vec ℕ Global) Stop) (left left_now : Option (List ℕ)) : Type 0 where
  pub taken : List ℕ
  pub source : Took taken left left_now
  pub most : length taken ≤ longest_text + 1
  pub text : IfOk result (λ v. v.items ≡ taken)
  pub whole : OnOk result (length taken ≤ longest_text → (bytes : List ℕ) → left ≡ Some bytes → bytes ≡ taken)

-- the statuses that the making of a site has
abbrev pub is_of_init : Status → Bool
is_of_init Done = true
is_of_init SourceFault = true
is_of_init SinkFault = true
is_of_init SiteFault = true
is_of_init AlreadyMade = true
is_of_init BadCatalogue = true
is_of_init NoMemory = true
is_of_init _ = false

-- the line on the first rule that the text breaks, or a front of it
pub record TellsRefusal (text said : List ℕ) : Type 0 where
  pub error : CatalogueError
  pub refused : catalogue_of text ≡ Err error
  pub front : IsFrontOf (refusal_line error) said

-- what was written, by the status
abbrev pub SaysInit : Status → List ℕ → List ℕ → Type 0
SaysInit BadCatalogue text said = (e : CatalogueError) × (catalogue_of text ≡ Err e) × (said ≡ refusal_line e)
SaysInit SinkFault text said = TellsRefusal text said
SaysInit _ text said = said ≡ []

-- what the site shows, by the status
abbrev pub LeavesInit : Status → List ℕ → Image → Image → Type 0
LeavesInit Done text before now = IsCreated text before now
LeavesInit AlreadyMade text before now = IsMade before × (now ≡ before)
LeavesInit SiteFault text before now = Unit {0}
LeavesInit NoMemory text before now = (¬ IsMade before) × ((now ≡ before) ⊎ IsUnfinished text before now)
LeavesInit _ text before now = (¬ IsMade before) × (now ≡ before)

-- what was read, by the status: a catalogue, which is all that the source had; or a text that was read to its end, or
-- past the longest
abbrev pub ReadsWhole : Status → List ℕ → Option (List ℕ) → Type 0
ReadsWhole Done text left = ((c : Catalogue) × IsCatalogueOf text c) × ((bytes : List ℕ) → left ≡ Some bytes → bytes ≡ text)
ReadsWhole BadCatalogue text left = length text ≤ longest_text → (bytes : List ℕ) → left ≡ Some bytes → bytes ≡ text
ReadsWhole _ text left = Unit {0}

module _ {S : Type 0} (g : Ghosts S) where
  -- The making of a site that ended so. Whatever is told, some text was taken from the source, and something was said.
  -- Where the site tells, it was made before or is made from the text, and a crash at any moment leaves one that isn't
  -- made, or the whole site.
  pub record Inits (status : Status) (site : S) (left contents : Option (List ℕ)) (after : S) (left_now now : Option (List ℕ)) : Type 0 where
    pub kinds : is_of_init status ≡ true
    pub text : List ℕ
    pub said : List ℕ
    pub source : Took text left left_now
    pub most : length text ≤ longest_text + 1
    pub whole : ReadsWhole status text left
    pub wrote : Wrote said contents now
    pub says : SaysInit status text said
    pub leaves : g.told → LeavesInit status text (g.shown site) (g.shown after)
    pub certain : g.told → status ≡ Done →
        (c : Image) → g.may_leave after c → (was : Image) × g.may_leave site was × IsCreated text was c
    pub any_moment : g.told → LeavesOnly g.moment g.left_since site after (LeavesCreating text (g.may_leave site))

-- what the sink holds after the line, behind what it held, by the status
abbrev pub HoldsRefusal : List ℕ → List ℕ → Status → Option (List ℕ) → Type 0
HoldsRefusal held line BadCatalogue contents = contents ≡ Some (held ++ line)
HoldsRefusal held line SinkFault contents = (n : ℕ) × (contents ≡ Some (held ++ take n line))
HoldsRefusal held line _ contents = contents ≡ Some held
