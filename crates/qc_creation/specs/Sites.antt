-- A site that is being made from the text of a catalogue, and one that was made.
use Rattle.std.specs.Prelude.{◌≡◌, ◌⊎◌, ℕ, List, [], ◌∷◌, ◌++◌}
use Rattle.qc_base.specs.declared.fact.Fact.TheVariants.{Catalogue as InForce}
use Rattle.qc_site.specs.Image.{Image}
use Rattle.qc_site.specs.Disk.{Images}
use Rattle.qc_journal.specs.History.{IsMade}
use Rattle.qc_catalogue.specs.declared.catalogue.Catalogue.{Catalogue}
use Rattle.qc_catalogue.specs.Catalogue.{IsCatalogueOf}
use Rattle.qc_machine.specs.History.{by_text}
use Rattle.qc_machine.specs.Sites.{StandsFor}
use Rattle.qc_creation.specs.Rows.{OpeningRow, opening_rows, with_rows}

-- The image is the site made from the text over one that wasn't made: it stands for the one fact that the catalogue is in
-- force, and each row of the catalogue has its opening amount. All other rows and the snapshot are as they were.
pub record IsCreated (text : List ℕ) (was now : Image) : Type 0 where
  pub fresh : ¬ IsMade was
  pub catalogue : Catalogue
  pub read : IsCatalogueOf text catalogue
  pub rows : now.rows ≡ (with_rows (opening_rows catalogue) was).rows
  pub snap : now.snap ≡ was.snap
  pub stands : StandsFor by_text now (InForce text ∷ [])

-- The image is being made from the text over one that wasn't made: it isn't made either, and some of the catalogue's
-- rows, from the first on, have their opening amounts. All other rows and the snapshot are as they were.
pub record IsUnfinished (text : List ℕ) (was now : Image) : Type 0 where
  pub fresh : ¬ IsMade was
  pub unmade : ¬ IsMade now
  pub catalogue : Catalogue
  pub read : IsCatalogueOf text catalogue
  pub done : List OpeningRow
  pub left : List OpeningRow
  pub split : opening_rows catalogue ≡ done ++ left
  pub rows : now.rows ≡ (with_rows done was).rows
  pub snap : now.snap ≡ was.snap

-- an image is one of those before, or it is being made from one of them, or was made from one
abbrev pub LeavesCreating : List ℕ → Images → Images
LeavesCreating text before c = (was : Image) × before was × ((c ≡ was) ⊎ (IsUnfinished text was c ⊎ IsCreated text was c))
