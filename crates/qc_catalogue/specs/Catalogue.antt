-- The catalogue of a text, or the first rule that it breaks.
use Rattle.std.specs.Prelude.{◌≡◌, ℕ, nat_le, List, [], ◌∷◌, length, map, Option, Some, None, if◌then◌else◌, Result, Ok, Err}
use Rattle.std.specs.Str.{is_utf8}
use Rattle.toml.specs.Data.{Members}
use Rattle.toml.specs.Parse.{parse_document}
use Rattle.qc_base.specs.Names.{is_name, is_app_name}
use Rattle.qc_catalogue.specs.declared.catalogue.Catalogue.{Catalogue}
use Rattle.qc_catalogue.specs.declared.catalogue.Opening.{Opening}
use Rattle.qc_catalogue.specs.declared.catalogue.Resource.{Resource}
use Rattle.qc_catalogue.specs.declared.error.CatalogueError.{CatalogueError}
use Rattle.qc_catalogue.specs.declared.error.CatalogueError.TheVariants.{TextTooLong, NotToml}
use Rattle.qc_catalogue.specs.declared.field.Field.TheVariants.{Table, Resource as ResourceField, Application}
use Rattle.qc_script.specs.declared.names.Names.{Names}
use Rattle.qc_catalogue.specs.Applications.{app_found, app_in}
use Rattle.qc_catalogue.specs.Fields.{value_at, members_at, table_at}
use Rattle.qc_catalogue.specs.Findings.{Finding, field_path, in_order, each, in_table, in_optional, in_names, unknown, walked}
use Rattle.qc_catalogue.specs.Rows.{members_of, opening_found, opening_in, resource_found, resource_in}

abbrev pub openings_in : Members → List Opening
openings_in ms = each opening_in (table_at Table ms)

abbrev pub resources_in : Members → List Resource
resources_in ms = each (λ name d. resource_in name (members_of d)) (table_at ResourceField ms)

-- the names that scripts may use

abbrev pub names_of : List Opening → List Resource → Names
names_of tables resources = record { tables = map (λ (t : Opening). t.name) tables; resources = map (λ (r : Resource). r.name) resources }

abbrev pub names_in : Members → Names
names_in ms = names_of (openings_in ms) (resources_in ms)

-- what is found at each of the three fields

abbrev pub tables_found : Members → List Finding
tables_found ms = in_optional (in_names is_name 0 256 opening_found) (field_path [] Table) (value_at Table ms)

abbrev pub resources_found : Members → List Finding
resources_found ms = in_optional (in_names is_name 0 64 resource_found) (field_path [] ResourceField) (value_at ResourceField ms)

abbrev pub apps_found : Names → Members → List Finding
apps_found names ms = in_table (in_names is_app_name 1 64 (app_found names)) (field_path [] Application) (members_at Application ms)

-- all that the walk finds, in its order: depth first, the fields of a table in the order of its rules
abbrev pub found_in : Members → List Finding
found_in ms = in_order (
    tables_found ms
    ∷ resources_found ms
    ∷ apps_found (names_in ms) ms
    ∷ unknown (Table ∷ ResourceField ∷ Application ∷ []) [] ms
    ∷ [])

-- what the tables say, where no rule is broken
abbrev pub catalogue_in : Members → Catalogue
catalogue_in ms = record { tables = openings_in ms; resources = resources_in ms; apps = each (app_in (names_in ms)) (table_at Application ms) }

abbrev pub catalogue_by : Members → Result (List (List ℕ)) CatalogueError → Result Catalogue CatalogueError
catalogue_by ms (Ok met) = Ok (catalogue_in ms)
catalogue_by ms (Err refusal) = Err refusal

abbrev pub of_document : Option Members → Result Catalogue CatalogueError
of_document None = Err NotToml
of_document (Some ms) = catalogue_by ms (walked [] (found_in ms))

-- the text as TOML, where it is UTF-8
abbrev pub document_of : List ℕ → Option Members
document_of text = if is_utf8 text then parse_document text else None

abbrev pub catalogue_of : List ℕ → Result Catalogue CatalogueError
catalogue_of text = if nat_le (length text) 1048576 then of_document (document_of text) else Err TextTooLong

-- c is the catalogue of the text
abbrev pub IsCatalogueOf : List ℕ → Catalogue → Type 0
IsCatalogueOf text c = catalogue_of text ≡ Ok c
