-- What a catalogue keeps, whatever text it was read from.
use Rattle.std.specs.Prelude.{ℕ, nat_le, List, [], ◌∷◌, length, map, Bool, true, not, ◌&&◌, is_some}
use Rattle.std.specs.List.{list_all, list_any}
use Rattle.std.specs.Option.{option_map_or}
use Rattle.std.specs.Str.{bytes_eq}
use Rattle.qc_base.specs.Names.{is_name, is_app_name}
use Rattle.qc_catalogue.specs.declared.catalogue.App.{App}
use Rattle.qc_catalogue.specs.declared.catalogue.Catalogue.{Catalogue}
use Rattle.qc_catalogue.specs.declared.catalogue.Component.{Component}
use Rattle.qc_catalogue.specs.declared.catalogue.Method.{Method}
use Rattle.qc_catalogue.specs.declared.catalogue.Opening.{Opening}
use Rattle.qc_catalogue.specs.declared.catalogue.Resource.{Resource}
use Rattle.qc_catalogue.specs.Lookup.{exception_named}

-- no name comes twice
abbrev pub are_apart : List (List ℕ) → Bool
are_apart [] = true
are_apart (n ∷ ns) = not (list_any (bytes_eq n) ns) && are_apart ns

abbrev pub keys_apart : List (List ℕ × ℕ) → Bool
keys_apart rows = are_apart (map (λ (r : List ℕ × ℕ). r.0) rows)

-- its methods have names and at most 16 parameters, and the exception class that it names is there

abbrev pub is_method : Method → Bool
is_method m = is_name m.name && nat_le (length m.params) 16

abbrev pub is_component_of : App → Component → Bool
is_component_of a k =
    is_name k.name && (list_all is_method k.methods && option_map_or (λ name. is_some (exception_named name a.exceptions)) k.exception true)

abbrev pub is_app : App → Bool
is_app a = is_app_name a.name && list_all (is_component_of a) a.components

-- each name stands for one thing, and each key for one row
abbrev pub is_orderly : Catalogue → Bool
is_orderly c =
    are_apart (map (λ (a : App). a.name) c.apps)
    && (are_apart (map (λ (t : Opening). t.name) c.tables)
    && (are_apart (map (λ (r : Resource). r.name) c.resources)
    && (list_all (λ (t : Opening). keys_apart t.rows) c.tables && (list_all (λ (r : Resource). keys_apart r.rows) c.resources && list_all is_app c.apps))))
