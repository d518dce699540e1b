use Rattle.std.proofs.Common.{[], ◌∷◌, ◌∙◌}
use Rattle.toml.specs.View.{table_view}
use Rattle.qc_base.specs.Names.{is_name}
use Rattle.qc_catalogue.specs.Fields.{value_at, members_at}
use Rattle.qc_catalogue.specs.Findings.{IsRefusalAfter, broken, field_path, in_order, in_table, in_optional, in_names, unknown}
use Rattle.qc_catalogue.specs.Applications.{id_found, exception_found, component_found, exceptions_in, app_found}
use Rattle.qc_catalogue.specs.declared.field.Field.TheVariants.{Id, Exception as ExceptionField, Component as ComponentField}
use Rattle.qc_catalogue.proofs.Findings.{first_append, walked_stopped, walked_on, walked_first, walked_past}
use Rattle.qc_catalogue.proofs.Steps.{handed_on}
use Rattle.qc_catalogue.proofs.applications.read_app.Goals as goal

pub returns-in_err-read_id-clause-refused : goal.returns-in_err-read_id-clause-refused
returns-in_err-read_id-clause-refused c =
    let f1 = id_found (field_path c.args.path.now Id) (value_at Id (table_view c.args.table.now)) in
    let f2 = in_optional (in_names is_name 0 64 (exception_found c.args.names.now)) (field_path c.args.path.now ExceptionField) (value_at ExceptionField (table_view c.args.table.now)) in
    let f3 = in_table (in_names is_name 1 64 (component_found c.args.names.now (exceptions_in c.args.names.now (table_view c.args.table.now)) c.args.path.now)) (field_path c.args.path.now ComponentField) (members_at ComponentField (table_view c.args.table.now)) in
    let f4 = unknown (Id ∷ ExceptionField ∷ ComponentField ∷ []) c.args.path.now (table_view c.args.table.now) in
    handed_on _ _ (IsRefusalAfter c.args.met.now.keys (app_found c.args.names.now c.args.name c.args.path.now (table_view c.args.table.now))) c.from_residual.ensures.1
    (λ other. walked_stopped c.args.met.now.keys c.in_err-read_id.field-0.0 f1 (in_order (f2 ∷ f3 ∷ f4 ∷ [])) (c.in_err-read_id.ensures.refused other))

pub returns-in_err-exceptions-clause-refused : goal.returns-in_err-exceptions-clause-refused
returns-in_err-exceptions-clause-refused c =
    let f1 = id_found (field_path c.args.path.now Id) (value_at Id (table_view c.args.table.now)) in
    let f2 = in_optional (in_names is_name 0 64 (exception_found c.args.names.now)) (field_path c.args.path.now ExceptionField) (value_at ExceptionField (table_view c.args.table.now)) in
    let f3 = in_table (in_names is_name 1 64 (component_found c.args.names.now (exceptions_in c.args.names.now (table_view c.args.table.now)) c.args.path.now)) (field_path c.args.path.now ComponentField) (members_at ComponentField (table_view c.args.table.now)) in
    let f4 = unknown (Id ∷ ExceptionField ∷ ComponentField ∷ []) c.args.path.now (table_view c.args.table.now) in
    handed_on _ _ (IsRefusalAfter c.args.met.now.keys (app_found c.args.names.now c.args.name c.args.path.now (table_view c.args.table.now))) c.from_residual-in_err-exceptions.ensures.1
    (λ other. walked_on c.args.met.now.keys c.read_id.new.met.keys f1 (in_order (f2 ∷ f3 ∷ f4 ∷ [])) c.in_ok-read_id.ensures.walked ∙ walked_stopped c.read_id.new.met.keys c.in_err-exceptions.field-0.0 f2 (in_order (f3 ∷ f4 ∷ [])) (c.in_err-exceptions.ensures.refused other))

pub returns-in_err-components-clause-refused : goal.returns-in_err-components-clause-refused
returns-in_err-components-clause-refused c =
    let f1 = id_found (field_path c.args.path.now Id) (value_at Id (table_view c.args.table.now)) in
    let f2 = in_optional (in_names is_name 0 64 (exception_found c.args.names.now)) (field_path c.args.path.now ExceptionField) (value_at ExceptionField (table_view c.args.table.now)) in
    let f3 = in_table (in_names is_name 1 64 (component_found c.args.names.now (exceptions_in c.args.names.now (table_view c.args.table.now)) c.args.path.now)) (field_path c.args.path.now ComponentField) (members_at ComponentField (table_view c.args.table.now)) in
    let f4 = unknown (Id ∷ ExceptionField ∷ ComponentField ∷ []) c.args.path.now (table_view c.args.table.now) in
    let same = c.as_slice.ensures ∙ c.in_ok-exceptions.ensures.value in
    handed_on _ _ (IsRefusalAfter c.args.met.now.keys (app_found c.args.names.now c.args.name c.args.path.now (table_view c.args.table.now))) c.from_residual-in_err-components.ensures.1
    (λ other. walked_on c.args.met.now.keys c.read_id.new.met.keys f1 (in_order (f2 ∷ f3 ∷ f4 ∷ [])) c.in_ok-read_id.ensures.walked ∙ walked_on c.read_id.new.met.keys c.read_exceptions.new.met.keys f2 (in_order (f3 ∷ f4 ∷ [])) c.in_ok-exceptions.ensures.walked ∙ walked_stopped c.read_exceptions.new.met.keys c.in_err-components.field-0.0 f3 (in_order (f4 ∷ [])) ((rw same at c.in_err-components.ensures.refused) other))

pub returns-in_err-check_known-clause-refused : goal.returns-in_err-check_known-clause-refused
returns-in_err-check_known-clause-refused c =
    let f1 = id_found (field_path c.args.path.now Id) (value_at Id (table_view c.args.table.now)) in
    let f2 = in_optional (in_names is_name 0 64 (exception_found c.args.names.now)) (field_path c.args.path.now ExceptionField) (value_at ExceptionField (table_view c.args.table.now)) in
    let f3 = in_table (in_names is_name 1 64 (component_found c.args.names.now (exceptions_in c.args.names.now (table_view c.args.table.now)) c.args.path.now)) (field_path c.args.path.now ComponentField) (members_at ComponentField (table_view c.args.table.now)) in
    let f4 = unknown (Id ∷ ExceptionField ∷ ComponentField ∷ []) c.args.path.now (table_view c.args.table.now) in
    let same = c.as_slice.ensures ∙ c.in_ok-exceptions.ensures.value in
    handed_on _ _ (IsRefusalAfter c.args.met.now.keys (app_found c.args.names.now c.args.name c.args.path.now (table_view c.args.table.now))) c.from_residual-in_err-check_known.ensures.1
    (λ other. walked_on c.args.met.now.keys c.read_id.new.met.keys f1 (in_order (f2 ∷ f3 ∷ f4 ∷ [])) c.in_ok-read_id.ensures.walked ∙ walked_on c.read_id.new.met.keys c.read_exceptions.new.met.keys f2 (in_order (f3 ∷ f4 ∷ [])) c.in_ok-exceptions.ensures.walked ∙ walked_on c.read_exceptions.new.met.keys c.read_components.new.met.keys f3 (in_order (f4 ∷ [])) (rw same at c.in_ok-components.ensures.walked) ∙ walked_first c.read_components.new.met.keys c.in_err-check_known.field-0.0 (in_order (f4 ∷ [])) (first_append f4 [] (broken c.in_err-check_known.field-0.0) (c.in_err-check_known.ensures.refused other)))

pub returns-clause-walked : goal.returns-clause-walked
returns-clause-walked c =
    let f1 = id_found (field_path c.args.path.now Id) (value_at Id (table_view c.args.table.now)) in
    let f2 = in_optional (in_names is_name 0 64 (exception_found c.args.names.now)) (field_path c.args.path.now ExceptionField) (value_at ExceptionField (table_view c.args.table.now)) in
    let f3 = in_table (in_names is_name 1 64 (component_found c.args.names.now (exceptions_in c.args.names.now (table_view c.args.table.now)) c.args.path.now)) (field_path c.args.path.now ComponentField) (members_at ComponentField (table_view c.args.table.now)) in
    let f4 = unknown (Id ∷ ExceptionField ∷ ComponentField ∷ []) c.args.path.now (table_view c.args.table.now) in
    let same = c.as_slice.ensures ∙ c.in_ok-exceptions.ensures.value in
    walked_on c.args.met.now.keys c.read_id.new.met.keys f1 (in_order (f2 ∷ f3 ∷ f4 ∷ [])) c.in_ok-read_id.ensures.walked ∙ walked_on c.read_id.new.met.keys c.read_exceptions.new.met.keys f2 (in_order (f3 ∷ f4 ∷ [])) c.in_ok-exceptions.ensures.walked ∙ walked_on c.read_exceptions.new.met.keys c.read_components.new.met.keys f3 (in_order (f4 ∷ [])) (rw same at c.in_ok-components.ensures.walked) ∙ walked_past c.read_components.new.met.keys f4 [] c.in_ok-check_known.ensures.clean
