-- Each resource of a catalogue that was read hears of the phases that it needs.
use Rattle.std.proofs.Common.{◌≡◌, ℕ, List, [], ◌∷◌, true, Option, Some, None, Ok, refl, subst}
use Rattle.std.specs.Prelude.{is_some, option_and_then, unwrap_or}
use Rattle.std.specs.List.{list_all}
use Rattle.toml.specs.Data.{Data, Members, no_members, as_table}
use Rattle.qc_base.specs.Names.{is_name}
use Rattle.qc_catalogue.specs.declared.catalogue.Catalogue.{Catalogue}
use Rattle.qc_catalogue.specs.declared.error.CatalogueError.TheVariants.{PhaseMissing}
use Rattle.qc_catalogue.specs.declared.field.Field.TheVariants.{Table, Resource as ResourceField, Mode, Phases, Low, High, Rows}
use Rattle.qc_catalogue.specs.Catalogue.{found_in, catalogue_in, catalogue_of}
use Rattle.qc_catalogue.specs.Fields.{value_at}
use Rattle.qc_catalogue.specs.Findings.{field_path, field_rule, rule, in_optional, in_names, each, unknown}
use Rattle.qc_catalogue.specs.Rows.{members_of, opening_found, resource_found, resource_in, has_its_phases, mode_at, phases_at, bounds_found, rows_found_at}
use Rattle.qc_catalogue.proofs.Documents.{made_of}
use Rattle.qc_catalogue.proofs.Passed.{Passed, passed_parts, passed_rule, passed_names}

resource-hears : (key path : List ℕ) (ms : Members) → Passed (resource_found key path ms) → has_its_phases (resource_in key ms) ≡ true
resource-hears key path ms p =
    let mode = passed_parts (field_rule (field_path path Mode) (is_some (mode_at ms))) _ p in
    let phases = passed_parts (field_rule (field_path path Phases) (is_some (phases_at ms))) _ mode.1 in
    let bounds = passed_parts (bounds_found path (value_at Low ms) (value_at High ms)) _ phases.1 in
    let rows = passed_parts (rows_found_at path ms) _ bounds.1 in
    let others = passed_parts (unknown (Mode ∷ Phases ∷ Low ∷ High ∷ Rows ∷ []) path ms) _ rows.1 in
    let last = passed_parts (rule (has_its_phases (resource_in key ms)) (PhaseMissing key)) _ others.1 in
    passed_rule (has_its_phases (resource_in key ms)) (PhaseMissing key) last.0

resources-at : (path : List ℕ) (o : Option Data) → Passed (in_optional (in_names is_name 0 64 resource_found) path o)
    → list_all has_its_phases (each (λ name d. resource_in name (members_of d)) (unwrap_or (option_and_then as_table o) no_members)) ≡ true
resources-at path None p = refl
resources-at path (Some d) p = passed_names resource_in has_its_phases is_name 0 64 resource_found path (as_table d) (λ key q inner is_it passed. resource-hears key q inner passed) p

resources-hear : (ms : Members) → Passed (found_in ms) → list_all has_its_phases (catalogue_in ms).resources ≡ true
resources-hear ms p =
    let (tables, behind) = passed_parts (in_optional (in_names is_name 0 256 opening_found) (field_path [] Table) (value_at Table ms)) _ p in
    let (resources, later) = passed_parts (in_optional (in_names is_name 0 64 resource_found) (field_path [] ResourceField) (value_at ResourceField ms)) _ behind in
    resources-at (field_path [] ResourceField) (value_at ResourceField ms) resources

pub catalogue-hears : (text : List ℕ) (c : Catalogue) → catalogue_of text ≡ Ok c → list_all has_its_phases c.resources ≡ true
catalogue-hears text c h =
    let made = made_of text c h in
    subst (λ (x : Catalogue). list_all has_its_phases x.resources ≡ true) made.says
    (resources-hear made.document (record { before = []; after = made.met; clean = made.clean }))
