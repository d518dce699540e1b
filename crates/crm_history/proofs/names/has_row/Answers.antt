use Rattle.std.proofs.Common.{◌≡◌, ◌∙◌, ℕ, List, Bool, false, bytes_eq, Option, Some, ap, sym, rules}
use Rattle.std.specs.List.{list_any}
use Rattle.std.specs.Option.{option_map_or}
use Rattle.qc_catalogue.specs.declared.catalogue.Resource.{Resource}
use Rattle.qc_catalogue.specs.Lookup.{resource_named}
use Rattle.crm_history.proofs.names.has_row.Goals as goal

pub returns-in-Some : goal.returns-in-Some
returns-in-Some c =
    let row : List ℕ × ℕ → Bool = λ row. bytes_eq row.0 c.args.key.now in
    let any : c.has_key.result ≡ list_any row c.in-Some.own.now.rows = search rules in
    let found : resource_named c.args.resource.now c.args.catalogue.now.resources ≡ Some c.in-Some.own.now = search rules in
    any ∙ sym (ap (λ (o : Option Resource). option_map_or (λ (r : Resource). list_any row r.rows) o false) found)

pub returns-in-None : goal.returns-in-None
returns-in-None c = search rules
