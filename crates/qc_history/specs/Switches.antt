-- Applications that are switched off.
use Rattle.std.specs.Prelude.{ℕ, List, [], ◌∷◌, ◌++◌, filter, Bool, not, if◌then◌else◌}
use Rattle.std.specs.List.{list_any}
use Rattle.std.specs.Str.{bytes_eq}

-- their names, and room for how many more
pub record OffView : Type 0 where
  pub names : List (List ℕ)
  pub room : ℕ

abbrev pub is_among : List ℕ → List (List ℕ) → Bool
is_among name names = list_any (bytes_eq name) names

abbrev pub all_but : List ℕ → List (List ℕ) → List (List ℕ)
all_but app names = filter (λ name. not (bytes_eq name app)) names

-- the names of those that are off, after a switch
abbrev pub switched : List ℕ → Bool → List (List ℕ) → List (List ℕ)
switched app on names = if on then all_but app names else all_but app names ++ app ∷ []
