use Rattle.std.proofs.Common.{◌≡◌, ◌∙◌, List, map, ap, arith}
use Rattle.std.proofs.lemmas.List.{take_all}
use Rattle.qc_rows.specs.Tables.{TableRows, opening_rows, set_rows}
use Rattle.qc_rows.specs.Places.{places_of, keys_stand}
use Rattle.qc_rows.proofs.Places.{opened-means, opened-stand}
use Rattle.qc_rows.proofs.tables.Tables.make.Goals as goal

pub invariant_of-result : goal.invariant_of-result
invariant_of-result c =
    let openings = c.tables-openings.result.now in
    let all : c.loop-opening.tables.items ≡ map opening_rows c.args.catalogue.now.tables =
    c.loop-opening.invariant ∙ ap (map opening_rows) (take_all c.loop-opening.opening-index openings (omega (arith, c.loop-opening-test.false)) ∙ c.tables-openings.ensures) in
    ap (λ (l : List TableRows). keys_stand (map places_of l)) all ∙ opened-stand c.args.catalogue.now.tables c.requires.rows

pub returns : goal.returns
returns c =
    let openings = c.tables-openings.result.now in
    let all : c.loop-opening.tables.items ≡ map opening_rows c.args.catalogue.now.tables =
    c.loop-opening.invariant ∙ ap (map opening_rows) (take_all c.loop-opening.opening-index openings (omega (arith, c.loop-opening-test.false)) ∙ c.tables-openings.ensures) in
    ap (map set_rows) all ∙ opened-means c.args.catalogue.now.tables
