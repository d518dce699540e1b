use Rattle.std.proofs.Common.{◌≡◌, ◌∙◌, List, map, ap}
use Rattle.std.specs.Vec.{with_items}
use Rattle.std.proofs.lemmas.List.{with_items_is}
use Rattle.qc_rows.specs.Tables.{TableRows}
use Rattle.qc_rows.specs.Places.{keys_stand, meant, places_of, written_by}
use Rattle.qc_rows.proofs.Places.{view-places, view-settles}
use Rattle.qc_rows.proofs.tables.Tables.apply_view.Goals as goal

pub invariant_of-self : goal.invariant_of-self
invariant_of-self c =
    let kept = c.self.inside.tables in
    let view = c.args.view.now in
    let whole : (with_items kept c.write_view.new.tables).items ≡ written_by view kept.items =
    with_items_is kept c.write_view.new.tables (c.write_view.auto.tables ∙ c.as_mut_slice.ensures.len) ∙ c.write_view.ensures ∙ ap (written_by view) c.as_mut_slice.ensures.value in
    ap (λ (l : List TableRows). keys_stand (map places_of l)) whole ∙ ap keys_stand (view-places view kept.items) ∙ c.self.invariant

pub returns : goal.returns
returns c =
    let kept = c.self.inside.tables in
    let view = c.args.view.now in
    let whole : (with_items kept c.write_view.new.tables).items ≡ written_by view kept.items =
    with_items_is kept c.write_view.new.tables (c.write_view.auto.tables ∙ c.as_mut_slice.ensures.len) ∙ c.write_view.ensures ∙ ap (written_by view) c.as_mut_slice.ensures.value in
    ap meant whole ∙ view-settles view kept.items c.args.self.now c.self.view_is c.self.invariant c.requires
