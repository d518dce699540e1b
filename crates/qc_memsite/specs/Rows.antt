-- Rows as a list.
use Rattle.std.specs.Prelude.{◌≡◌, ◌<◌, ℕ, List, [], ◌∷◌, length, take, get_or, Bool, true, ◌&&◌, if◌then◌else◌, Option, None, Some}
use Rattle.std.specs.Str.{bytes_eq}
use Rattle.qc_memsite.specs.declared.row.RowAmount.{RowAmount}

-- it is the row of this resource and key
abbrev pub is_row : List ℕ → List ℕ → RowAmount → Bool
is_row resource key x = bytes_eq resource x.resource.items && bytes_eq key x.key.items

-- what a row holds in a list of them: the first of its entries counts
abbrev pub row_of : List RowAmount → List ℕ → List ℕ → Option ℕ
row_of [] resource key = None
row_of (x ∷ rows) resource key = if is_row resource key x then Some x.amount else row_of rows resource key

-- the first entry of a row
pub record IsRowAt (rows : List RowAmount) (resource key : List ℕ) (i : ℕ) : Type 0 where
  pub within : i < length rows
  pub before : row_of (take i rows) resource key ≡ None
  pub is : (x : RowAmount) → x ≡ get_or rows i x → is_row resource key x ≡ true
