-- Applications: their exception classes and components.
use Rattle.std.specs.Prelude.{ℕ, List, [], ◌∷◌, ◌++◌, Bool, true, false, ◌&&◌, Option, Some, None, option_map, option_and_then, unwrap_or, is_some}
use Rattle.toml.specs.Data.{Data, Members, as_str}
use Rattle.uuid.specs.Text.{parsed}
use Rattle.qc_base.specs.Names.{is_name}
use Rattle.qc_catalogue.specs.declared.catalogue.App.{App}
use Rattle.qc_catalogue.specs.declared.catalogue.Component.{Component}
use Rattle.qc_catalogue.specs.declared.catalogue.Exception.{Exception}
use Rattle.qc_catalogue.specs.declared.catalogue.Method.{Method}
use Rattle.qc_catalogue.specs.declared.error.CatalogueError.TheVariants.{BadField, UnknownName}
use Rattle.qc_catalogue.specs.declared.field.Field.TheVariants.{Id, Exception as ExceptionField, Component as ComponentField, Class, Final, Method as MethodField}
use Rattle.qc_script.specs.declared.names.Names.{Names}
use Rattle.qc_script.specs.declared.names.Param.{Param}
use Rattle.qc_script.specs.declared.names.ParamKind.{ParamKind}
use Rattle.qc_script.specs.declared.names.ParamKind.TheVariants.{Text, Whole}
use Rattle.qc_catalogue.specs.Fields.{value_at, text_at, members_at, table_at}
use Rattle.qc_catalogue.specs.Findings.{Finding, broken, named, under, field_path, rule, in_order, each, in_table, in_optional, in_names, unknown}
use Rattle.qc_catalogue.specs.Lookup.{exception_named, method_of}
use Rattle.qc_catalogue.specs.Methods.{method_found, method_in, script_found, script_in}
use Rattle.qc_catalogue.specs.Rows.{members_of}

-- a UUID at a path

abbrev pub id_by : List ℕ → Option (List ℕ) → List Finding
id_by path None = broken (BadField path) ∷ []
id_by path (Some id) = named path id ∷ []

abbrev pub id_of : Option Data → Option (List ℕ)
id_of o = option_and_then parsed (option_and_then as_str o)

abbrev pub id_found : List ℕ → Option Data → List Finding
id_found path o = id_by path (id_of o)

-- the methods of a class, of which there are at least so many, at the path of the class

abbrev pub methods_found : Names → ℕ → List ℕ → Members → List Finding
methods_found names least path ms = in_table (in_names is_name least 64 (method_found names)) (field_path path MethodField) (members_at MethodField ms)

abbrev pub methods_in : Names → Members → List Method
methods_in names ms = each (method_in names) (table_at MethodField ms)

-- an exception class

abbrev pub exception_found : Names → List ℕ → List ℕ → Members → List Finding
exception_found names name path ms = in_order (
    id_found (field_path path Class) (value_at Class ms)
    ∷ script_found names [] (field_path path Final) (value_at Final ms)
    ∷ methods_found names 0 path ms
    ∷ unknown (Class ∷ Final ∷ MethodField ∷ []) path ms
    ∷ [])

abbrev pub exception_from : Names → List ℕ → Members → Exception
exception_from names name ms = record { name = name; last = script_in names [] (value_at Final ms); methods = methods_in names ms }

abbrev pub exception_in : Names → List ℕ → Data → Exception
exception_in names name d = exception_from names name (members_of d)

abbrev pub exceptions_found : Names → List ℕ → Members → List Finding
exceptions_found names path ms = in_optional (in_names is_name 0 64 (exception_found names)) (field_path path ExceptionField) (value_at ExceptionField ms)

abbrev pub exceptions_in : Names → Members → List Exception
exceptions_in names ms = each (exception_in names) (table_at ExceptionField ms)

-- the exception class that a component names, which has to be there

abbrev pub exception_at : List Exception → List ℕ → Option (List ℕ) → List Finding
exception_at exceptions path None = broken (BadField path) ∷ []
exception_at exceptions path (Some name) = rule (is_some (exception_named name exceptions)) (UnknownName path)

abbrev pub names_class : List Exception → List ℕ → Option Data → List Finding
names_class exceptions path None = []
names_class exceptions path (Some d) = exception_at exceptions path (as_str d)

-- the class has each method of the component, with the same kinds

abbrev pub same_kind : ParamKind → ParamKind → Bool
same_kind Text Text = true
same_kind Text Whole = false
same_kind Whole Text = false
same_kind Whole Whole = true

abbrev pub same_kinds : List Param → List Param → Bool
same_kinds [] [] = true
same_kinds [] (q ∷ qs) = false
same_kinds (p ∷ ps) [] = false
same_kinds (p ∷ ps) (q ∷ qs) = same_kind p.kind q.kind && same_kinds ps qs

abbrev pub takes : List Method → Method → Bool
takes methods m = unwrap_or (option_map (λ (x : Method). same_kinds x.params m.params) (method_of m.name methods)) false

abbrev pub taken_by : List Method → List ℕ → List Method → List Finding
taken_by methods path [] = []
taken_by methods path (m ∷ ms) = rule (takes methods m) (BadField (under path m.name)) ++ taken_by methods path ms

abbrev pub taken_by_class : List ℕ → List Method → Option Exception → List Finding
taken_by_class classes methods None = []
taken_by_class classes methods (Some x) = taken_by x.methods (field_path (under classes x.name) MethodField) methods

-- a component of the application at a path, with these exception classes

abbrev pub class_of : List Exception → Members → Option Exception
class_of exceptions ms = option_and_then (λ name. exception_named name exceptions) (text_at ExceptionField ms)

abbrev pub component_found : Names → List Exception → List ℕ → List ℕ → List ℕ → Members → List Finding
component_found names exceptions app name path ms = in_order (
    id_found (field_path path Class) (value_at Class ms)
    ∷ names_class exceptions (field_path path ExceptionField) (value_at ExceptionField ms)
    ∷ methods_found names 1 path ms
    ∷ taken_by_class (field_path app ExceptionField) (methods_in names ms) (class_of exceptions ms)
    ∷ unknown (Class ∷ ExceptionField ∷ MethodField ∷ []) path ms
    ∷ [])

abbrev pub component_from : Names → List ℕ → Members → Component
component_from names name ms = record { name = name; exception = text_at ExceptionField ms; methods = methods_in names ms }

abbrev pub component_in : Names → List ℕ → Data → Component
component_in names name d = component_from names name (members_of d)

-- the components of the application at a path

abbrev pub components_found : Names → List Exception → List ℕ → Members → List Finding
components_found names exceptions app ms = in_table (in_names is_name 1 64 (component_found names exceptions app)) (field_path app ComponentField) (members_at ComponentField ms)

abbrev pub components_in : Names → Members → List Component
components_in names ms = each (component_in names) (table_at ComponentField ms)

-- an application

abbrev pub app_found : Names → List ℕ → List ℕ → Members → List Finding
app_found names name path ms = in_order (
    id_found (field_path path Id) (value_at Id ms)
    ∷ exceptions_found names path ms
    ∷ components_found names (exceptions_in names ms) path ms
    ∷ unknown (Id ∷ ExceptionField ∷ ComponentField ∷ []) path ms
    ∷ [])

abbrev pub app_from : Names → List ℕ → Members → App
app_from names name ms = record { name = name; exceptions = exceptions_in names ms; components = components_in names ms }

abbrev pub app_in : Names → List ℕ → Data → App
app_in names name d = app_from names name (members_of d)
