-- What the view of an attempt that commits makes of the tables.
use Rattle.std.specs.Prelude.{ℕ, List, [], ◌∷◌, ◌++◌, map, Bool, ◌==◌, Option, if◌then◌else◌}
use Rattle.std.specs.Cmp.Lexicographic.{slice_cmp}
use Rattle.std.specs.Option.{option_map_or}
use Rattle.std.specs.Ordering.{nat_cmp, match_ordering}
use Rattle.std.specs.Str.{bytes_eq}
use Rattle.qc_base.specs.declared.recording.Row.{Row}
use Rattle.qc_base.specs.declared.recording.Space.TheVariants.{Inside}
use Rattle.qc_base.specs.Rows.{space_eq}
use Rattle.qc_rows.specs.Tables.{TableRows}

-- a row that is there, or none where the amount is 0
abbrev pub row_if_set : List ℕ → ℕ → List (List ℕ × ℕ)
row_if_set key amount = if amount == 0 then [] else (key, amount) ∷ []

-- The rows of a table with this amount at a key: rows stand in byte order of keys, so it comes before the rows with
-- greater keys, and in place of one that has this key.
abbrev pub with_amount : List ℕ → ℕ → List (List ℕ × ℕ) → List (List ℕ × ℕ)
with_amount key amount [] = row_if_set key amount
with_amount key amount (r ∷ rows) =
    match_ordering (slice_cmp nat_cmp key r.0)
    (row_if_set key amount ++ r ∷ rows)
    (row_if_set key amount ++ rows)
    (r ∷ with_amount key amount rows)

-- an inside row gets an amount; without a table of its name nothing changes
abbrev pub settled : Row → ℕ → List TableRows → List TableRows
settled row amount tables =
    map (λ (t : TableRows). if bytes_eq t.name row.name then record t { rows = with_amount row.key amount t.rows } else t) tables

abbrev pub is_inside : Row → Bool
is_inside row = space_eq row.space Inside

-- the rows of a view with their amounts, in turn: what stands outside, or has no amount, is passed over

abbrev pub settled_one : Row × Option ℕ → List TableRows → List TableRows
settled_one s tables =
    if is_inside s.0 then option_map_or (λ amount. settled s.0 amount tables) s.1 tables else tables

abbrev pub settled_by : List (Row × Option ℕ) → List TableRows → List TableRows
settled_by [] tables = tables
settled_by (s ∷ view) tables = settled_by view (settled_one s tables)
