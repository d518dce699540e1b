use Rattle.std.proofs.Common.{◌≡◌, ◌∙◌, List, map, ap}
use Rattle.std.specs.Vec.{with_items}
use Rattle.std.proofs.lemmas.List.{with_items_is}
use Rattle.qc_rows.specs.Tables.{TableRows}
use Rattle.qc_rows.specs.Places.{TablesView, are_reserved, places_of}
use Rattle.qc_rows.proofs.Places.{reserved-stay}
use Rattle.qc_rows.proofs.tables.Tables.reserve.Goals as goal

pub returns-clause-kept : goal.returns-clause-kept
returns-clause-kept c held before =
    let old = c.as_mut_slice.result.now in
    let new = c.reserve_rows.new.tables in
    let whole : (with_items c.self.inside.tables new).items ≡ new = with_items_is c.self.inside.tables new (c.reserve_rows.auto.tables ∙ c.as_mut_slice.ensures.len) in
    ap (λ (l : List TableRows). are_reserved held (map places_of l)) whole
    ∙ reserved-stay (map places_of old) (map places_of new) c.reserve_rows.ensures.widened.reserved held
    (ap (λ (l : List TableRows). are_reserved held (map places_of l)) c.as_mut_slice.ensures.value ∙ ap (λ (v : TablesView). are_reserved held v.places) c.self.view_is ∙ before)
