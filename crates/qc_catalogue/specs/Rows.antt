-- Tables and resources, with their rows.
use Rattle.std.specs.Prelude.{ℕ, nat_le, List, [], ◌∷◌, Bool, true, false, not, ◌&&◌, ◌||◌, Option, Some, None, option_map, option_and_then, unwrap_or, is_some, if◌then◌else◌, codes}
use Rattle.std.specs.Str.{bytes_eq}
use Rattle.toml.specs.Data.{Data, Members, no_members, as_str, as_table}
use Rattle.qc_base.specs.Names.{is_text}
use Rattle.qc_base.specs.LogLines.{has_phase}
use Rattle.qc_catalogue.specs.declared.catalogue.Opening.{Opening}
use Rattle.qc_catalogue.specs.declared.catalogue.Resource.{Resource}
use Rattle.qc_catalogue.specs.declared.error.CatalogueError.TheVariants.{BadField, PhaseMissing}
use Rattle.qc_catalogue.specs.declared.field.Field.TheVariants.{Mode, Phases, Low, High, Rows}
use Rattle.qc_catalogue.specs.Fields.{value_at, members_at, table_at, whole_of, amount_of}
use Rattle.qc_catalogue.specs.Findings.{Finding, broken, under, field_path, rule, field_rule, in_order, found_in_each, each, has_count, in_table, unknown}

-- rows: at most 10,000 texts, each with an amount

abbrev pub row_found : List ℕ → List ℕ → Data → List Finding
row_found path key d = field_rule (under path key) (is_text key && is_some (amount_of d))

abbrev pub rows_found : List ℕ → Members → List Finding
rows_found path ms = if has_count 0 10000 ms then found_in_each (row_found path) ms else broken (BadField path) ∷ []

-- the rows at the field of a resource's table
abbrev pub rows_found_at : List ℕ → Members → List Finding
rows_found_at path ms = in_table rows_found (field_path path Rows) (members_at Rows ms)

abbrev pub rows_in : Members → List (List ℕ × ℕ)
rows_in ms = each (λ key d. (key, unwrap_or (amount_of d) 0)) ms

-- a table of the catalogue is its rows

abbrev pub opening_found : List ℕ → List ℕ → Members → List Finding
opening_found name path ms = rows_found path ms

abbrev pub members_of : Data → Members
members_of d = unwrap_or (as_table d) no_members

abbrev pub opening_in : List ℕ → Data → Opening
opening_in name d = record { name = name; rows = rows_in (members_of d) }

-- a resource

abbrev pub mode_of : List ℕ → Option Bool
mode_of word = if bytes_eq word (codes "early") then Some true else if bytes_eq word (codes "late") then Some false else None

-- whether it is early
abbrev pub mode_at : Members → Option Bool
mode_at ms = option_and_then mode_of (option_and_then as_str (value_at Mode ms))

abbrev pub phases_at : Members → Option ℕ
phases_at ms = option_and_then (whole_of 1 7) (value_at Phases ms)

-- both bounds or neither, each an amount, low at most high
abbrev pub bounds_within : List ℕ → Option ℕ → Option ℕ → List Finding
bounds_within path None high = broken (BadField (field_path path Low)) ∷ []
bounds_within path (Some low) None = broken (BadField (field_path path High)) ∷ []
bounds_within path (Some low) (Some high) = field_rule (field_path path High) (nat_le low high)

abbrev pub bounds_found : List ℕ → Option Data → Option Data → List Finding
bounds_found path None None = []
bounds_found path None (Some high) = broken (BadField (field_path path Low)) ∷ []
bounds_found path (Some low) None = broken (BadField (field_path path High)) ∷ []
bounds_found path (Some low) (Some high) = bounds_within path (amount_of low) (amount_of high)

abbrev pub bounds_in : Option Data → Option Data → Option (ℕ × ℕ)
bounds_in low high = option_and_then (λ l. option_map (λ h. (l, h)) (option_and_then amount_of high)) (option_and_then amount_of low)

abbrev pub resource_in : List ℕ → Members → Resource
resource_in name ms = record {
  name = name;
  early = unwrap_or (mode_at ms) false;
  phases = unwrap_or (phases_at ms) 0;
  bounds = bounds_in (value_at Low ms) (value_at High ms);
  rows = rows_in (table_at Rows ms);
}

-- a resource hears of an abort where it is early, of a commit where it is late, and prepares where it has bounds
abbrev pub has_its_phases : Resource → Bool
has_its_phases r = has_phase (if r.early then 4 else 2) r.phases && (not (is_some r.bounds) || has_phase 1 r.phases)

abbrev pub resource_found : List ℕ → List ℕ → Members → List Finding
resource_found name path ms = in_order (
    field_rule (field_path path Mode) (is_some (mode_at ms))
    ∷ field_rule (field_path path Phases) (is_some (phases_at ms))
    ∷ bounds_found path (value_at Low ms) (value_at High ms)
    ∷ rows_found_at path ms
    ∷ unknown (Mode ∷ Phases ∷ Low ∷ High ∷ Rows ∷ []) path ms
    ∷ rule (has_its_phases (resource_in name ms)) (PhaseMissing name)
    ∷ [])
