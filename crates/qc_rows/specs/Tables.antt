-- Tables, and the amounts of their rows.
use Rattle.std.specs.Prelude.{ℕ, List, [], map, filter, find, sum_by, Bool, not, ◌==◌}
use Rattle.std.specs.Option.{option_map_or}
use Rattle.std.specs.Str.{bytes_eq}
use Rattle.qc_base.specs.declared.recording.Row.{Row}
use Rattle.qc_catalogue.specs.declared.catalogue.Catalogue.{Catalogue}
use Rattle.qc_catalogue.specs.declared.catalogue.Opening.{Opening}

-- a table and its rows, each one's key and amount
pub record TableRows : Type 0 where
  pub name : List ℕ
  pub rows : List (List ℕ × ℕ)

-- a row with 0 is as one that was never set: a history's tables have neither

abbrev pub is_set : List ℕ × ℕ → Bool
is_set r = not (r.1 == 0)

abbrev pub set_rows : TableRows → TableRows
set_rows t = record t { rows = filter is_set t.rows }

-- as a catalogue opens them

abbrev pub opening_rows : Opening → TableRows
opening_rows o = record { name = o.name; rows = o.rows }

abbrev pub opened : Opening → TableRows
opened o = set_rows (opening_rows o)

abbrev pub opened_tables : Catalogue → List TableRows
opened_tables c = map opened c.tables

-- the rows of a table; none where there is no such table
abbrev pub rows_shown : List ℕ → List TableRows → List (List ℕ × ℕ)
rows_shown name tables =
    option_map_or (λ (t : TableRows). t.rows) (find (λ (t : TableRows). bytes_eq t.name name) tables) []

abbrev pub amount_at : List ℕ → List (List ℕ × ℕ) → ℕ
amount_at key rows =
    option_map_or (λ (r : List ℕ × ℕ). r.1) (find (λ (r : List ℕ × ℕ). bytes_eq r.0 key) rows) 0

-- the amount of an inside row: 0 where it isn't there
abbrev pub amount_in : List ℕ → List ℕ → List TableRows → ℕ
amount_in name key tables = amount_at key (rows_shown name tables)

abbrev pub row_amount : List TableRows → Row → ℕ
row_amount tables row = amount_in row.name row.key tables

-- the sum of the amounts of a table
abbrev pub sum_of : List (List ℕ × ℕ) → ℕ
sum_of rows = sum_by (λ (r : List ℕ × ℕ). r.1) rows

abbrev pub total_in : List ℕ → List TableRows → ℕ
total_in name tables = sum_of (rows_shown name tables)
