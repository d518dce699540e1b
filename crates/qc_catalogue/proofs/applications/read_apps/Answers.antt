use Rattle.std.proofs.Common.{◌∙◌, [], List, ℕ, sym, subst, Option}
use Rattle.toml.specs.Data.{Members}
use Rattle.toml.specs.View.{table_view}
use Rattle.std.specs.Prelude.{IfErr}
use Rattle.qc_base.specs.Names.{is_app_name}
use Rattle.qc_catalogue.specs.Findings.{IsRefusalAfter, in_names, in_table, field_path}
use Rattle.qc_catalogue.specs.Applications.{app_found}
use Rattle.qc_catalogue.specs.declared.field.Field.TheVariants.{Application}
use Rattle.qc_catalogue.proofs.applications.read_apps.Goals as goal

pub returns-clause-refused : goal.returns-clause-refused
returns-clause-refused c =
    let inside = in_names is_app_name 1 64 (app_found c.args.names.now) in
    let ms = table_view c.in_ok-table.table.now in
    let path = c.as_slice-2.ensures ∙ c.in_ok-path.ensures.path in
    let here = subst (λ (p : List ℕ). IfErr c.read_entries.result (IsRefusalAfter c.args.met.now.keys (inside p ms))) path c.read_entries.ensures.refused in
    subst (λ (o : Option Members). IfErr c.read_entries.result (IsRefusalAfter c.args.met.now.keys (in_table inside (field_path [] Application) o))) (sym c.in_ok-table.ensures.there) here
