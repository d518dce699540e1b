-- The rows with which the resources of a catalogue open.
use Rattle.std.specs.Prelude.{◌≡◌, ℕ, List, [], ◌∷◌, ◌++◌, map}
use Rattle.std.specs.List.{flat_map}
use Rattle.qc_site.specs.Image.{Image, with_row}
use Rattle.qc_site.specs.Disk.{Images}
use Rattle.qc_catalogue.specs.declared.catalogue.Catalogue.{Catalogue}
use Rattle.qc_catalogue.specs.declared.catalogue.Resource.{Resource}

-- an outside row and the amount that it opens with
pub record OpeningRow : Type 0 where
  pub resource : List ℕ
  pub key : List ℕ
  pub amount : ℕ

abbrev pub opening_row : List ℕ → List ℕ × ℕ → OpeningRow
opening_row resource row = record { resource = resource; key = row.0; amount = row.1 }

abbrev pub rows_of : Resource → List OpeningRow
rows_of r = map (opening_row r.name) r.rows

abbrev pub opening_rows : Catalogue → List OpeningRow
opening_rows c = flat_map rows_of c.resources

-- the image with these rows, each with its amount
abbrev pub with_rows : List OpeningRow → Image → Image
with_rows [] image = image
with_rows (row ∷ rows) image = with_rows rows (with_row row.resource row.key row.amount image)

-- an image is one of those before with some of these rows, from the first on
pub record LeavesFront (rows : List OpeningRow) (before : Images) (c : Image) : Type 0 where
  pub was : Image
  pub there : before was
  pub done : List OpeningRow
  pub left : List OpeningRow
  pub split : rows ≡ done ++ left
  pub is : c ≡ with_rows done was
