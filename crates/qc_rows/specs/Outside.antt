-- Outside rows, with the amounts that a history settles for them.
use Rattle.std.specs.Prelude.{ℕ, List, [], ◌∷◌, map, find, Option, option_map, if◌then◌else◌}
use Rattle.std.specs.Option.{option_map_or}
use Rattle.std.specs.Str.{bytes_eq}
use Rattle.qc_base.specs.declared.recording.Row.{Row}
use Rattle.qc_base.specs.Rows.{OutsideRows}
use Rattle.qc_catalogue.specs.declared.catalogue.Catalogue.{Catalogue}
use Rattle.qc_catalogue.specs.declared.catalogue.Resource.{Resource}
use Rattle.qc_rows.specs.Places.{written_row}
use Rattle.qc_rows.specs.Settling.{is_inside}
use Rattle.qc_rows.specs.Tables.{TableRows, rows_shown}

-- as a catalogue opens them: each resource with the rows that it names, those with 0 among them, and no others

abbrev pub named_rows : Resource → TableRows
named_rows r = record { name = r.name; rows = r.rows }

abbrev pub opened_resources : Catalogue → List TableRows
opened_resources c = map named_rows c.resources

-- the amount of an outside row: none where it isn't there
abbrev pub amount_there : List ℕ → List (List ℕ × ℕ) → Option ℕ
amount_there key rows = option_map (λ (r : List ℕ × ℕ). r.1) (find (λ (r : List ℕ × ℕ). bytes_eq r.0 key) rows)

abbrev pub outside_amount : List TableRows → OutsideRows
outside_amount resources name key = amount_there key (rows_shown name resources)

-- the rows of a view with their amounts, in turn: what stands inside, has no amount, or isn't there is passed over

abbrev pub outside_one : Row × Option ℕ → List TableRows → List TableRows
outside_one s resources =
    if is_inside s.0 then resources else option_map_or (λ amount. written_row s.0 amount resources) s.1 resources

abbrev pub outside_by : List (Row × Option ℕ) → List TableRows → List TableRows
outside_by [] resources = resources
outside_by (s ∷ view) resources = outside_by view (outside_one s resources)
