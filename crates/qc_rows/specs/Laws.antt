-- What holds of tables whatever views are settled.
use Rattle.std.specs.Prelude.{◌≡◌, ℕ, ◌+◌, List, [], ◌∷◌, map, filter, find, sum_by, Bool, true, not, ◌&&◌, Option, option_and_then, is_some, unwrap_or}
use Rattle.std.specs.List.{list_all, list_any}
use Rattle.std.specs.Str.{bytes_eq}
use Rattle.qc_base.specs.declared.recording.Row.{Row}
use Rattle.qc_base.specs.Rows.{row_eq}
use Rattle.qc_catalogue.specs.declared.catalogue.Catalogue.{Catalogue}
use Rattle.qc_catalogue.specs.Laws.{StandInOrder, keys_ascend}
use Rattle.qc_rows.specs.Places.{rows_seen}
use Rattle.qc_rows.specs.Settling.{is_inside, settled_by}
use Rattle.qc_rows.specs.Tables.{TableRows, is_set, opened_tables, row_amount, total_in}

-- rows in byte order of their keys, none with 0
abbrev pub is_canonical : TableRows → Bool
is_canonical t = keys_ascend t.rows && list_all is_set t.rows

abbrev pub are_canonical : List TableRows → Bool
are_canonical tables = list_all is_canonical tables

abbrev pub is_table : List TableRows → List ℕ → Bool
is_table tables name = list_any (λ (t : TableRows). bytes_eq t.name name) tables

-- no row comes twice
abbrev pub rows_differ : List Row → Bool
rows_differ [] = true
rows_differ (r ∷ rows) = not (list_any (row_eq r) rows) && rows_differ rows

abbrev pub are_rows_apart : List (Row × Option ℕ) → Bool
are_rows_apart view = rows_differ (rows_seen view)

-- the amount that a view has for a row
abbrev pub amount_seen : Row → List (Row × Option ℕ) → Option ℕ
amount_seen row view =
    option_and_then (λ (s : Row × Option ℕ). s.1) (find (λ (s : Row × Option ℕ). row_eq s.0 row) view)

-- the rows of a table that a view settles
abbrev pub is_change : List ℕ → Row × Option ℕ → Bool
is_change name s = is_inside s.0 && (bytes_eq s.0.name name && is_some s.1)

abbrev pub changes : List ℕ → List (Row × Option ℕ) → List (Row × Option ℕ)
changes name view = filter (is_change name) view

abbrev pub new_sum : List (Row × Option ℕ) → ℕ
new_sum view = sum_by (λ (s : Row × Option ℕ). unwrap_or s.1 0) view

abbrev pub old_sum : List TableRows → List (Row × Option ℕ) → ℕ
old_sum tables view = sum_by (λ (s : Row × Option ℕ). row_amount tables s.0) view

-- an inside row of a table has the amount that the view has for it, or else what it had
abbrev pub SettlesAmounts : Type 0
SettlesAmounts = (view : List (Row × Option ℕ)) (tables : List TableRows) (row : Row)
    → are_rows_apart view ≡ true → are_canonical tables ≡ true → is_inside row ≡ true → is_table tables row.name ≡ true
    → row_amount (settled_by view tables) row ≡ unwrap_or (amount_seen row view) (row_amount tables row)

-- a table's total grows by what the view has for its rows, less what these had
abbrev pub SettlesTotals : Type 0
SettlesTotals = (view : List (Row × Option ℕ)) (tables : List TableRows) (name : List ℕ)
    → are_rows_apart view ≡ true → are_canonical tables ≡ true → is_table tables name ≡ true
    → total_in name (settled_by view tables) + old_sum tables (changes name view)
    ≡ total_in name tables + new_sum (changes name view)

-- rows stay in order, none with 0
abbrev pub KeepsCanonical : Type 0
KeepsCanonical = (view : List (Row × Option ℕ)) (tables : List TableRows)
    → are_canonical tables ≡ true → are_canonical (settled_by view tables) ≡ true

abbrev pub KeepsNames : Type 0
KeepsNames = (view : List (Row × Option ℕ)) (tables : List TableRows)
    → map (λ (t : TableRows). t.name) (settled_by view tables) ≡ map (λ (t : TableRows). t.name) tables

-- so they open
abbrev pub OpensCanonical : Type 0
OpensCanonical = (c : Catalogue) → StandInOrder c → are_canonical (opened_tables c) ≡ true
