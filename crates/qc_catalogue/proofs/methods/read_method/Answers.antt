use Rattle.std.proofs.Common.{◌≡◌, Some, true, rules}
use Rattle.toml.specs.View.{table_view}
use Rattle.qc_catalogue.specs.Findings.{IsRefusalOf, broken}
use Rattle.qc_catalogue.specs.Methods.{method_found, params_at, is_queueable}
use Rattle.qc_catalogue.proofs.MethodFound.{AreInputs, first_in_script, first_behind_script}
use Rattle.qc_catalogue.proofs.Steps.{handed_on}
use Rattle.qc_catalogue.proofs.methods.read_method.Goals as goal

pub returns-in_err-script-clause-refused : goal.returns-in_err-script-clause-refused
returns-in_err-script-clause-refused c =
    let there : params_at (table_view c.args.table.now) ≡ Some c.in-Some.declared.items = search rules in
    let inputs : is_queueable c.in-Some.declared.items ≡ true = search rules in
    let are : AreInputs (table_view c.args.table.now) c.in-Some.declared.items c.as_slice-3.result.now = record { there = there; inputs = inputs; taken = search rules } in
    handed_on _ _ (IsRefusalOf (method_found c.args.names.now c.args.name c.args.path.now (table_view c.args.table.now))) c.from_residual-in_err-script.ensures.1
    (λ other. first_in_script c.args.names.now c.args.name c.args.path.now (table_view c.args.table.now) c.in-Some.declared.items c.as_slice-3.result.now (broken c.in_err-script.field-0.0) are (c.in_err-script.ensures.refused other))

pub returns-in_err-check_known-clause-refused : goal.returns-in_err-check_known-clause-refused
returns-in_err-check_known-clause-refused c =
    let there : params_at (table_view c.args.table.now) ≡ Some c.in-Some.declared.items = search rules in
    let inputs : is_queueable c.in-Some.declared.items ≡ true = search rules in
    let are : AreInputs (table_view c.args.table.now) c.in-Some.declared.items c.as_slice-3.result.now = record { there = there; inputs = inputs; taken = search rules } in
    handed_on _ _ (IsRefusalOf (method_found c.args.names.now c.args.name c.args.path.now (table_view c.args.table.now))) c.from_residual-in_err-check_known.ensures.1
    (λ other. first_behind_script c.args.names.now c.args.name c.args.path.now (table_view c.args.table.now) c.in-Some.declared.items c.as_slice-3.result.now (broken c.in_err-check_known.field-0.0) are c.in_ok-script.ensures.clean (c.in_err-check_known.ensures.refused other))
