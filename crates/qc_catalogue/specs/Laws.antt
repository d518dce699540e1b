-- What holds of every catalogue.
use Rattle.std.specs.Prelude.{◌≡◌, ◌≤◌, ℕ, List, [], ◌∷◌, length, map, Bool, true, ◌&&◌}
use Rattle.std.specs.Cmp.Lexicographic.{slice_cmp}
use Rattle.std.specs.List.{All, list_all}
use Rattle.std.specs.Ordering.{nat_cmp, is_lt}
use Rattle.qc_catalogue.specs.declared.catalogue.App.{App}
use Rattle.qc_catalogue.specs.declared.catalogue.Catalogue.{Catalogue}
use Rattle.qc_catalogue.specs.declared.catalogue.Component.{Component}
use Rattle.qc_catalogue.specs.declared.catalogue.Exception.{Exception}
use Rattle.qc_catalogue.specs.declared.catalogue.Method.{Method}
use Rattle.qc_catalogue.specs.declared.catalogue.Opening.{Opening}
use Rattle.qc_catalogue.specs.declared.catalogue.Resource.{Resource}

abbrev pub HasFewParams : Method → Type 0
HasFewParams m = length m.params ≤ 16

-- each method has at most 16 parameters
abbrev pub TakesFew : Catalogue → Type 0
TakesFew c = All (λ (a : App). All (λ (k : Component). All HasFewParams k.methods) a.components × All (λ (x : Exception). All HasFewParams x.methods) a.exceptions) c.apps

-- each name is less than the next, byte by byte
abbrev pub ascend : List (List ℕ) → Bool
ascend [] = true
ascend (n ∷ []) = true
ascend (n ∷ m ∷ ns) = is_lt (slice_cmp nat_cmp n m) && ascend (m ∷ ns)

abbrev pub keys_ascend : List (List ℕ × ℕ) → Bool
keys_ascend rows = ascend (map (λ (r : List ℕ × ℕ). r.0) rows)

-- applications, tables and resources stand in byte order of their names, and a table's rows in that of their keys
pub record StandInOrder (c : Catalogue) : Type 0 where
  pub apps : ascend (map (λ (a : App). a.name) c.apps) ≡ true
  pub tables : ascend (map (λ (t : Opening). t.name) c.tables) ≡ true
  pub rows : list_all (λ (t : Opening). keys_ascend t.rows) c.tables ≡ true
  pub resources : ascend (map (λ (r : Resource). r.name) c.resources) ≡ true
