-- The tables that a catalogue opens.
use Rattle.std.proofs.Common.{◌≡◌, List, [], ◌∷◌, map, filter, true, refl}
use Rattle.std.specs.List.{list_all}
use Rattle.std.proofs.lemmas.Bool.{and_parts, and_from}
use Rattle.qc_catalogue.specs.declared.catalogue.Opening.{Opening}
use Rattle.qc_catalogue.specs.Laws.{keys_ascend}
use Rattle.qc_rows.specs.Tables.{is_set, opened}
use Rattle.qc_rows.specs.Laws.{is_canonical, are_canonical, OpensCanonical}
use Rattle.qc_rows.proofs.Ascending.{filter-ascends}
use Rattle.qc_rows.proofs.Amounts.{set-all}

each-canonical : (tables : List Opening) → list_all (λ (t : Opening). keys_ascend t.rows) tables ≡ true → are_canonical (map opened tables) ≡ true
each-canonical [] h = refl
each-canonical (t ∷ tables) h =
    let both = and_parts (keys_ascend t.rows) (list_all (λ (t : Opening). keys_ascend t.rows) tables) h in
    let rows = filter is_set t.rows in
    and_from (is_canonical (opened t)) (are_canonical (map opened tables))
    (and_from (keys_ascend rows) (list_all is_set rows) (filter-ascends is_set t.rows both.0) (set-all t.rows)) (each-canonical tables both.1)

pub opens-canonical : OpensCanonical
opens-canonical c h = each-canonical c.tables h.rows
