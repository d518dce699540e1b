use Rattle.std.proofs.Common.{◌≡◌, List, ℕ, sym, ap, ◌∙◌}
use Rattle.std.specs.Prelude.{unwrap_or}
use Rattle.toml.specs.Data.{Members, no_members}
use Rattle.toml.specs.View.{view, table_view}
use Rattle.qc_catalogue.specs.declared.catalogue.Method.{Method}
use Rattle.qc_catalogue.specs.Methods.{method_from, method_in}
use Rattle.qc_catalogue.specs.Rows.{members_of}
use Rattle.qc_catalogue.proofs.Tops.{ok_then}
use Rattle.qc_catalogue.proofs.methods.read_entry.Goals as goal

pub returns-clause-value : goal.returns-clause-value
returns-clause-value c =
    let table : members_of (view c.args.value.now) ≡ table_view c.in_ok-table.table.now = ap (λ o. unwrap_or o no_members) c.in_ok-table.ensures.there in
    ok_then c.read_method.result _ _ c.read_method.ensures.value
    (λ (v : Method) is. is ∙ (ap (λ (n : List ℕ). method_from c.args.names.now n (table_view c.in_ok-table.table.now)) c.name_of.ensures
    ∙ ap (λ (ms : Members). method_from c.args.names.now c.args.key.now ms) (sym table)))
