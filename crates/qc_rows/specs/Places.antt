-- Where amounts are kept, so that a view is settled without memory.
use Rattle.std.specs.Prelude.{◌≡◌, ℕ, List, [], ◌∷◌, length, map, Bool, true, not, ◌||◌, Option, if◌then◌else◌}
use Rattle.std.specs.Cmp.Lexicographic.{slice_cmp}
use Rattle.std.specs.List.{list_all, list_any}
use Rattle.std.specs.Option.{option_map_or}
use Rattle.std.specs.Ordering.{nat_cmp, match_ordering}
use Rattle.std.specs.Str.{bytes_eq}
use Rattle.qc_base.specs.declared.recording.Row.{Row}
use Rattle.qc_catalogue.specs.Laws.{ascend}
use Rattle.qc_rows.specs.Settling.{is_inside}
use Rattle.qc_rows.specs.Tables.{TableRows, set_rows}

-- a table's name, with the keys of the rows that have a place in it
pub record Places : Type 0 where
  pub name : List ℕ
  pub keys : List (List ℕ)

-- tables as they are kept: beside what they mean, the places of their rows, among them rows with 0
pub record TablesView : Type 0 where
  pub tables : List TableRows
  pub places : List Places

-- whether a row has a place, which it needs in each table of its name
abbrev pub has_place : Row → Places → Bool
has_place row p = not (bytes_eq p.name row.name) || list_any (bytes_eq row.key) p.keys

abbrev pub is_reserved : Row → List Places → Bool
is_reserved row places = list_all (has_place row) places

-- whether a row can be settled: one outside is passed over
abbrev pub is_ready : List Places → Row → Bool
is_ready places row = not (is_inside row) || is_reserved row places

abbrev pub are_reserved : List Row → List Places → Bool
are_reserved rows places = list_all (is_ready places) rows

abbrev pub rows_seen : List (Row × Option ℕ) → List Row
rows_seen view = map (λ (s : Row × Option ℕ). s.0) view

-- What tables mean that are kept with rows of 0 among theirs. Their rows stand in byte order of keys.

abbrev pub places_of : TableRows → Places
places_of t = record { name = t.name; keys = map (λ (r : List ℕ × ℕ). r.0) t.rows }

abbrev pub meant : List TableRows → TablesView
meant kept = record { tables = map set_rows kept; places = map places_of kept }

abbrev pub keys_stand : List Places → Bool
keys_stand places = list_all (λ (p : Places). ascend p.keys) places

-- an amount is written where its row has a place

abbrev pub written : List ℕ → ℕ → List (List ℕ × ℕ) → List (List ℕ × ℕ)
written key amount rows = map (λ (r : List ℕ × ℕ). if bytes_eq r.0 key then (r.0, amount) else r) rows

abbrev pub written_row : Row → ℕ → List TableRows → List TableRows
written_row row amount kept =
    map (λ (t : TableRows). if bytes_eq t.name row.name then record t { rows = written row.key amount t.rows } else t) kept

abbrev pub written_one : Row × Option ℕ → List TableRows → List TableRows
written_one s kept =
    if is_inside s.0 then option_map_or (λ amount. written_row s.0 amount kept) s.1 kept else kept

abbrev pub written_by : List (Row × Option ℕ) → List TableRows → List TableRows
written_by [] kept = kept
written_by (s ∷ view) kept = written_by view (written_one s kept)

-- rows with a place for a key: a row with 0 more, unless one has this key
abbrev pub with_place : List ℕ → List (List ℕ × ℕ) → List (List ℕ × ℕ)
with_place key [] = (key, 0) ∷ []
with_place key (r ∷ rows) =
    match_ordering (slice_cmp nat_cmp key r.0) ((key, 0) ∷ r ∷ rows) (r ∷ rows) (r ∷ with_place key rows)

-- A table gets places, and means what it meant.
pub record WidensTable (old new : TableRows) : Type 0 where
  pub rows : set_rows new ≡ set_rows old
  pub stand : ascend (places_of old).keys ≡ true → ascend (places_of new).keys ≡ true
  pub reserved : (row : Row) → has_place row (places_of old) ≡ true → has_place row (places_of new) ≡ true

-- Tables do.
pub record Widens (old new : List TableRows) : Type 0 where
  pub tables : map set_rows new ≡ map set_rows old
  pub stand : keys_stand (map places_of old) ≡ true → keys_stand (map places_of new) ≡ true
  pub reserved : (row : Row) → is_reserved row (map places_of old) ≡ true → is_reserved row (map places_of new) ≡ true
  pub many : length new ≡ length old
