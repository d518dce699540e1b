use Rattle.std.proofs.Common.{[], ◌∷◌}
use Rattle.toml.specs.View.{table_view}
use Rattle.qc_base.specs.Names.{is_name}
use Rattle.qc_catalogue.specs.Fields.{value_at, members_at}
use Rattle.qc_catalogue.specs.Findings.{IsRefusalAfter, broken, field_path, in_order, in_table, in_names, unknown}
use Rattle.qc_catalogue.specs.Methods.{method_found, script_found}
use Rattle.qc_catalogue.specs.Applications.{id_found, exception_found}
use Rattle.qc_catalogue.specs.declared.field.Field.TheVariants.{Class, Final, Method as MethodField}
use Rattle.qc_catalogue.proofs.Findings.{first_append, first_behind, walked_stopped}
use Rattle.qc_catalogue.proofs.Steps.{handed_on, stops_behind}
use Rattle.qc_catalogue.proofs.exceptions.read_exception.Goals as goal

pub returns-in_err-read_id-clause-refused : goal.returns-in_err-read_id-clause-refused
returns-in_err-read_id-clause-refused c =
    let f1 = id_found (field_path c.args.path.now Class) (value_at Class (table_view c.args.table.now)) in
    let f2 = script_found c.args.names.now [] (field_path c.args.path.now Final) (value_at Final (table_view c.args.table.now)) in
    let f3 = in_table (in_names is_name 0 64 (method_found c.args.names.now)) (field_path c.args.path.now MethodField) (members_at MethodField (table_view c.args.table.now)) in
    let f4 = unknown (Class ∷ Final ∷ MethodField ∷ []) c.args.path.now (table_view c.args.table.now) in
    handed_on _ _ (IsRefusalAfter c.args.met.now.keys (exception_found c.args.names.now c.args.name c.args.path.now (table_view c.args.table.now))) c.from_residual.ensures.1
    (λ other. walked_stopped c.args.met.now.keys c.in_err-read_id.field-0.0 f1 (in_order (f2 ∷ f3 ∷ f4 ∷ [])) (c.in_err-read_id.ensures.refused other))

pub returns-in_err-last-clause-refused : goal.returns-in_err-last-clause-refused
returns-in_err-last-clause-refused c =
    let f1 = id_found (field_path c.args.path.now Class) (value_at Class (table_view c.args.table.now)) in
    let f2 = script_found c.args.names.now [] (field_path c.args.path.now Final) (value_at Final (table_view c.args.table.now)) in
    let f3 = in_table (in_names is_name 0 64 (method_found c.args.names.now)) (field_path c.args.path.now MethodField) (members_at MethodField (table_view c.args.table.now)) in
    let f4 = unknown (Class ∷ Final ∷ MethodField ∷ []) c.args.path.now (table_view c.args.table.now) in
    handed_on _ _ (IsRefusalAfter c.args.met.now.keys (exception_found c.args.names.now c.args.name c.args.path.now (table_view c.args.table.now))) c.from_residual-in_err-last.ensures.1
    (λ other. stops_behind c.args.met.now.keys c.read_id.new.met.keys c.in_err-last.field-0.0 f1 (in_order (f2 ∷ f3 ∷ f4 ∷ [])) c.in_ok-read_id.ensures.walked (first_append f2 (in_order (f3 ∷ f4 ∷ [])) (broken c.in_err-last.field-0.0) (c.in_err-last.ensures.refused other)))

pub returns-in_err-methods-clause-refused : goal.returns-in_err-methods-clause-refused
returns-in_err-methods-clause-refused c =
    let f1 = id_found (field_path c.args.path.now Class) (value_at Class (table_view c.args.table.now)) in
    let f2 = script_found c.args.names.now [] (field_path c.args.path.now Final) (value_at Final (table_view c.args.table.now)) in
    let f3 = in_table (in_names is_name 0 64 (method_found c.args.names.now)) (field_path c.args.path.now MethodField) (members_at MethodField (table_view c.args.table.now)) in
    let f4 = unknown (Class ∷ Final ∷ MethodField ∷ []) c.args.path.now (table_view c.args.table.now) in
    handed_on _ _ (IsRefusalAfter c.args.met.now.keys (exception_found c.args.names.now c.args.name c.args.path.now (table_view c.args.table.now))) c.from_residual-in_err-methods.ensures.1
    (λ other. stops_behind c.args.met.now.keys c.read_id.new.met.keys c.in_err-methods.field-0.0 f1 (in_order (f2 ∷ f3 ∷ f4 ∷ [])) c.in_ok-read_id.ensures.walked (first_behind f2 (in_order (f3 ∷ f4 ∷ [])) (broken c.in_err-methods.field-0.0) c.in_ok-last.ensures.clean (first_append f3 (in_order (f4 ∷ [])) (broken c.in_err-methods.field-0.0) (c.in_err-methods.ensures.refused other))))

pub returns-in_err-check_known-clause-refused : goal.returns-in_err-check_known-clause-refused
returns-in_err-check_known-clause-refused c =
    let f1 = id_found (field_path c.args.path.now Class) (value_at Class (table_view c.args.table.now)) in
    let f2 = script_found c.args.names.now [] (field_path c.args.path.now Final) (value_at Final (table_view c.args.table.now)) in
    let f3 = in_table (in_names is_name 0 64 (method_found c.args.names.now)) (field_path c.args.path.now MethodField) (members_at MethodField (table_view c.args.table.now)) in
    let f4 = unknown (Class ∷ Final ∷ MethodField ∷ []) c.args.path.now (table_view c.args.table.now) in
    handed_on _ _ (IsRefusalAfter c.args.met.now.keys (exception_found c.args.names.now c.args.name c.args.path.now (table_view c.args.table.now))) c.from_residual-in_err-check_known.ensures.1
    (λ other. stops_behind c.args.met.now.keys c.read_id.new.met.keys c.in_err-check_known.field-0.0 f1 (in_order (f2 ∷ f3 ∷ f4 ∷ [])) c.in_ok-read_id.ensures.walked (first_behind f2 (in_order (f3 ∷ f4 ∷ [])) (broken c.in_err-check_known.field-0.0) c.in_ok-last.ensures.clean (first_behind f3 (in_order (f4 ∷ [])) (broken c.in_err-check_known.field-0.0) c.in_ok-methods.ensures.clean (first_append f4 (in_order ([])) (broken c.in_err-check_known.field-0.0) (c.in_err-check_known.ensures.refused other)))))
