use Rattle.std.proofs.Common.{◌≡◌, ◌+◌, ◌<◌, ◌++◌, ◌∷◌, [], List, length, take, drop, get_or, sym, ◌∙◌, ap, subst, arith, rules}
use Rattle.std.specs.List.{flat_map}
use Rattle.std.proofs.lemmas.Grind.{take_at_read}
use Rattle.qc_catalogue.specs.declared.catalogue.Resource.{Resource}
use Rattle.qc_creation.specs.Rows.{OpeningRow, rows_of}
use Rattle.qc_creation.specs.Parts.{MakesRows}
use Rattle.qc_creation.proofs.Rowing.{RowsDone, moment_on, done_on, flat_split, flat_on}
use Rattle.qc_creation.proofs.rows.make_all_rows.Goals as goal

pub returns-in_err-make_rows : goal.returns-in_err-make_rows
returns-in_err-make_rows g c =
    let site = g.S.Site in
    let resources = c.args.resources.now in
    let i = c.loop-resource.resource-index in
    let item = c.resource-item.result in
    let all = flat_map rows_of resources in
    let done = flat_map rows_of (take i resources) in
    let rest = flat_map rows_of (drop (i + 1) resources) in
    let mid = c.loop-resource.site in
    let new = c.make_rows.new.site in
    let inside : i < length resources = omega arith in
    let here : get_or resources i item ≡ item = sym c.resource-item.is in
    let front : take (i + 1) resources ≡ take i resources ++ item ∷ [] = (take_at_read resources i item inside).1 ∙ ap (λ (e : Resource). take i resources ++ e ∷ []) here in
    let now : MakesRows site (rows_of item) c.make_rows.result mid new = c.make_rows.ensures in
    record {
      made = search rules;
      certain = search rules;
      any_moment = λ told. moment_on site all done (rows_of item) rest c.args.site.now mid new (flat_split rows_of resources i item front) c.loop-resource.invariant told (now.any_moment told);
      cause = search rules;
    }

pub loop-resource-preserved : goal.loop-resource-preserved
loop-resource-preserved g c =
    let site = g.S.Site in
    let resources = c.args.resources.now in
    let i = c.loop-resource.resource-index in
    let item = c.resource-item.result in
    let all = flat_map rows_of resources in
    let done = flat_map rows_of (take i resources) in
    let rest = flat_map rows_of (drop (i + 1) resources) in
    let mid = c.loop-resource.site in
    let new = c.make_rows.new.site in
    let inside : i < length resources = omega arith in
    let here : get_or resources i item ≡ item = sym c.resource-item.is in
    let front : take (i + 1) resources ≡ take i resources ++ item ∷ [] = (take_at_read resources i item inside).1 ∙ ap (λ (e : Resource). take i resources ++ e ∷ []) here in
    let now : MakesRows site (rows_of item) c.make_rows.result mid new = c.make_rows.ensures in
    let is : c.make_rows.result ≡ _ = c.in_ok-make_rows.was in
    let ok = subst (λ r. MakesRows site (rows_of item) r mid new) is now in
    subst (λ (l : List OpeningRow). RowsDone site all l c.args.site.now new) (sym (flat_on rows_of resources i item front))
    (done_on site all done (rows_of item) rest c.args.site.now mid new (flat_split rows_of resources i item front) c.loop-resource.invariant (λ told. ok.made told) (λ told. ok.certain told) (λ told. ok.any_moment told) ok.cause.no_fewer)
