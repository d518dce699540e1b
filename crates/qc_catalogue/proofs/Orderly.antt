-- Each catalogue is orderly.
use Rattle.std.proofs.Common.{◌≡◌, List, ℕ, [], Bool, true, false, cond, ◌&&◌, Option, Some, None, Ok, refl, subst}
use Rattle.std.specs.Prelude.{is_some, option_and_then}
use Rattle.std.specs.List.{list_all}
use Rattle.std.specs.Option.{option_map_or}
use Rattle.std.specs.Str.{is_utf8}
use Rattle.std.proofs.lemmas.Bool.{le-leb}
use Rattle.std.proofs.lemmas.Option.{none-some}
use Rattle.toml.specs.Data.{Data, Members, as_str, members_are_sorted}
use Rattle.toml.specs.Parse.{parse_document}
use Rattle.qc_base.specs.Names.{is_name, is_app_name}
use Rattle.qc_catalogue.specs.declared.catalogue.App.{App}
use Rattle.qc_catalogue.specs.declared.catalogue.Catalogue.{Catalogue}
use Rattle.qc_catalogue.specs.declared.catalogue.Exception.{Exception}
use Rattle.qc_catalogue.specs.declared.catalogue.Opening.{Opening}
use Rattle.qc_catalogue.specs.declared.catalogue.Resource.{Resource}
use Rattle.qc_catalogue.specs.declared.error.CatalogueError.TheVariants.{BadField, UnknownName}
use Rattle.qc_catalogue.specs.declared.field.Field.TheVariants.{Table, Resource as ResourceField, Application, Rows, Id, Exception as ExceptionField, Component as ComponentField, Class, Method as MethodField}
use Rattle.qc_script.specs.declared.names.Names.{Names}
use Rattle.qc_catalogue.specs.Applications.{id_found, names_class, exception_at, exceptions_in, exception_found, methods_in, component_found, component_from, app_found, app_from, app_in}
use Rattle.qc_catalogue.specs.Catalogue.{names_in, apps_found, found_in, catalogue_in, catalogue_of}
use Rattle.qc_catalogue.specs.Fields.{value_at, members_at, table_at}
use Rattle.qc_catalogue.specs.Findings.{field_path, in_table, in_optional, in_names}
use Rattle.qc_catalogue.specs.Laws.{StandInOrder, keys_ascend}
use Rattle.qc_catalogue.specs.Lookup.{exception_named}
use Rattle.qc_catalogue.specs.Methods.{method_found, method_from}
use Rattle.qc_catalogue.specs.Orderly.{keys_apart, is_method, is_component_of, is_app, is_orderly}
use Rattle.qc_catalogue.specs.Rows.{members_of, opening_found, resource_found, rows_in, opening_in, resource_in}
use Rattle.qc_catalogue.proofs.Apart.{apart, ascending, sorted-inside, sorted-at, every_sorted}
use Rattle.qc_catalogue.proofs.AscendingText.{document-sorted}
use Rattle.qc_catalogue.proofs.Documents.{made_of}
use Rattle.qc_catalogue.proofs.Few.{few_params}
use Rattle.qc_catalogue.proofs.Passed.{Passed, passed_parts, passed_rule, passed_names, not_broken}

document_by : (text : List ℕ) (ms : Members) (b : Bool) → cond b (parse_document text) None ≡ Some ms → members_are_sorted ms ≡ true
document_by text ms true h = document-sorted text ms h
document_by text ms false h = absurd (none-some ms h)

-- a method, a component and an application whose rules hold

method_is : (names : Names) (key : List ℕ) (ms : Members) → is_name key ≡ true → is_method (method_from names key ms) ≡ true
method_is names key ms h = rw h (le-leb _ 16 (few_params ms))

class_named : (exceptions : List Exception) (path : List ℕ) (o : Option (List ℕ)) → Passed (exception_at exceptions path o) → option_map_or (λ name. is_some (exception_named name exceptions)) o true ≡ true
class_named exceptions path None p = absurd (not_broken (BadField path) [] p)
class_named exceptions path (Some name) p = passed_rule (is_some (exception_named name exceptions)) (UnknownName path) p

class_there : (exceptions : List Exception) (path : List ℕ) (o : Option Data) → Passed (names_class exceptions path o) → option_map_or (λ name. is_some (exception_named name exceptions)) (option_and_then as_str o) true ≡ true
class_there exceptions path None p = refl
class_there exceptions path (Some d) p = class_named exceptions path (as_str d) p

component_is : (names : Names) (a : App) (app key path : List ℕ) (ms : Members) → is_name key ≡ true → Passed (component_found names a.exceptions app key path ms) → is_component_of a (component_from names key ms) ≡ true
component_is names a app key path ms is_key p =
    let (id, behind) = passed_parts (id_found (field_path path Class) (value_at Class ms)) _ p in
    let (class, later) = passed_parts (names_class a.exceptions (field_path path ExceptionField) (value_at ExceptionField ms)) _ behind in
    let (methods, last) = passed_parts (in_table (in_names is_name 1 64 (method_found names)) (field_path path MethodField) (members_at MethodField ms)) _ later in
    let taken : list_all is_method (methods_in names ms) ≡ true = passed_names (method_from names) is_method is_name 1 64 (method_found names) (field_path path MethodField) (members_at MethodField ms) (λ name q inner is_it passed. method_is names name inner is_it) methods in
    rw (is_key, taken) (class_there a.exceptions (field_path path ExceptionField) (value_at ExceptionField ms) class)

app_is : (names : Names) (key path : List ℕ) (ms : Members) → is_app_name key ≡ true → Passed (app_found names key path ms) → is_app (app_from names key ms) ≡ true
app_is names key path ms is_key p =
    let a : App = app_from names key ms in
    let (id, behind) = passed_parts (id_found (field_path path Id) (value_at Id ms)) _ p in
    let (classes, later) = passed_parts (in_optional (in_names is_name 0 64 (exception_found names)) (field_path path ExceptionField) (value_at ExceptionField ms)) _ behind in
    let (components, last) = passed_parts (in_table (in_names is_name 1 64 (component_found names (exceptions_in names ms) path)) (field_path path ComponentField) (members_at ComponentField ms)) _ later in
    rw is_key (passed_names (component_from names) (is_component_of a) is_name 1 64 (component_found names (exceptions_in names ms) path) (field_path path ComponentField) (members_at ComponentField ms)
    (λ name q inner is_it passed. component_is names a path name q inner is_it passed) components)

apps_are : (ms : Members) → Passed (found_in ms) → list_all is_app (catalogue_in ms).apps ≡ true
apps_are ms p =
    let (tables, behind) = passed_parts (in_optional (in_names is_name 0 256 opening_found) (field_path [] Table) (value_at Table ms)) _ p in
    let (resources, later) = passed_parts (in_optional (in_names is_name 0 64 resource_found) (field_path [] ResourceField) (value_at ResourceField ms)) _ behind in
    let (apps, last) = passed_parts (apps_found (names_in ms) ms) _ later in
    passed_names (app_from (names_in ms)) is_app is_app_name 1 64 (app_found (names_in ms)) (field_path [] Application) (members_at Application ms)
    (λ key q inner is_it passed. app_is (names_in ms) key q inner is_it passed) apps

-- rows

rows_apart : (ms : Members) → members_are_sorted ms ≡ true → keys_apart (rows_in ms) ≡ true
rows_apart ms sorted = apart _ (λ (r : List ℕ × ℕ). r.0) (λ k d. refl) ms sorted

all_six : (a b c d e f : Bool) → a ≡ true → b ≡ true → c ≡ true → d ≡ true → e ≡ true → f ≡ true → a && (b && (c && (d && (e && f)))) ≡ true
all_six a b c d e f ha hb hc hd he hf = rw (ha, hb, hc, hd, he) hf

orderly_in : (ms : Members) → members_are_sorted ms ≡ true → Passed (found_in ms) → is_orderly (catalogue_in ms) ≡ true
orderly_in ms sorted passed =
    all_six _ _ _ _ _ _
    (apart (app_in (names_in ms)) (λ (a : App). a.name) (λ k d. refl) (table_at Application ms) (sorted-at Application ms sorted))
    (apart opening_in (λ (t : Opening). t.name) (λ k d. refl) (table_at Table ms) (sorted-at Table ms sorted))
    (apart (λ name d. resource_in name (members_of d)) (λ (r : Resource). r.name) (λ k d. refl) (table_at ResourceField ms) (sorted-at ResourceField ms sorted))
    (every_sorted opening_in (λ (t : Opening). keys_apart t.rows) (λ k d h. rows_apart (members_of d) (sorted-inside d h)) (table_at Table ms) (sorted-at Table ms sorted))
    (every_sorted (λ name d. resource_in name (members_of d)) (λ (r : Resource). keys_apart r.rows) (λ k d h. rows_apart (table_at Rows (members_of d)) (sorted-at Rows (members_of d) (sorted-inside d h)))
    (table_at ResourceField ms) (sorted-at ResourceField ms sorted))
    (apps_are ms passed)

pub orderly : (text : List ℕ) (c : Catalogue) → catalogue_of text ≡ Ok c → is_orderly c ≡ true
orderly text c h =
    let made = made_of text c h in
    subst (λ (x : Catalogue). is_orderly x ≡ true) made.says
    (orderly_in made.document (document_by text made.document (is_utf8 text) made.is) (record { before = []; after = made.met; clean = made.clean }))

rows_ascend : (ms : Members) → members_are_sorted ms ≡ true → keys_ascend (rows_in ms) ≡ true
rows_ascend ms sorted = ascending _ (λ (r : List ℕ × ℕ). r.0) (λ k d. refl) ms sorted

order_in : (ms : Members) → members_are_sorted ms ≡ true → StandInOrder (catalogue_in ms)
order_in ms sorted = record {
  apps = ascending (app_in (names_in ms)) (λ (a : App). a.name) (λ k d. refl) (table_at Application ms) (sorted-at Application ms sorted);
  tables = ascending opening_in (λ (t : Opening). t.name) (λ k d. refl) (table_at Table ms) (sorted-at Table ms sorted);
  rows = every_sorted opening_in (λ (t : Opening). keys_ascend t.rows) (λ k d h. rows_ascend (members_of d) (sorted-inside d h)) (table_at Table ms) (sorted-at Table ms sorted);
  resources = ascending (λ name d. resource_in name (members_of d)) (λ (r : Resource). r.name) (λ k d. refl) (table_at ResourceField ms) (sorted-at ResourceField ms sorted);
}

pub stand_in_order : (text : List ℕ) (c : Catalogue) → catalogue_of text ≡ Ok c → StandInOrder c
stand_in_order text c h =
    let made = made_of text c h in
    subst StandInOrder made.says (order_in made.document (document_by text made.document (is_utf8 text) made.is))
