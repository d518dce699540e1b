use Rattle.std.proofs.Common.{◌≡◌, ◌+◌, ◌<◌, ◌++◌, ◌∷◌, [], List, ℕ, length, map, take, drop, get_or, sym, ◌∙◌, ap, subst, arith, rules}
use Rattle.std.proofs.lemmas.Grind.{take_at_read}
use Rattle.qc_creation.specs.Rows.{OpeningRow, opening_row}
use Rattle.qc_creation.specs.Parts.{MakesRows}
use Rattle.qc_creation.proofs.Rowing.{RowsDone, moment_on, done_on, map_split, map_on}
use Rattle.qc_creation.proofs.rows.make_rows.Goals as goal

pub returns-in_err-make_row : goal.returns-in_err-make_row
returns-in_err-make_row g c =
    let site = g.S.Site in
    let rows = c.args.resource.now.rows in
    let i = c.loop-key.key-index in
    let item = c.loop-key-item.result in
    let f = opening_row c.args.resource.now.name in
    let all = map f rows in
    let done = map f (take i rows) in
    let rest = map f (drop (i + 1) rows) in
    let mid = c.loop-key.site in
    let new = c.make_row.new.site in
    let inside : i < length rows = omega (arith, ap length c.as_slice-key-items.ensures) in
    let here : get_or rows i item ≡ item = ap (λ (l : List (List ℕ × ℕ)). get_or l i item) (sym c.as_slice-key-items.ensures) ∙ sym c.loop-key-item.is in
    let front : take (i + 1) rows ≡ take i rows ++ item ∷ [] = (take_at_read rows i item inside).1 ∙ ap (λ (e : List ℕ × ℕ). take i rows ++ e ∷ []) here in
    let row : opening_row c.as_bytes.result.now (c.as_bytes-in-loop-key.result.now, item.1) ≡ f item = (λ j. opening_row (c.as_bytes.ensures.value j) (c.as_bytes-in-loop-key.ensures.value j, item.1)) in
    let now : MakesRows site (f item ∷ []) c.make_row.result mid new = subst (λ (r : OpeningRow). MakesRows site (r ∷ []) c.make_row.result mid new) row c.make_row.ensures in
    record {
      made = search rules;
      certain = search rules;
      any_moment = λ told. moment_on site all done (f item ∷ []) rest c.args.site.now mid new (map_split f rows i item front) c.loop-key.invariant told (now.any_moment told);
      cause = search rules;
    }

pub loop-key-preserved : goal.loop-key-preserved
loop-key-preserved g c =
    let site = g.S.Site in
    let rows = c.args.resource.now.rows in
    let i = c.loop-key.key-index in
    let item = c.loop-key-item.result in
    let f = opening_row c.args.resource.now.name in
    let all = map f rows in
    let done = map f (take i rows) in
    let rest = map f (drop (i + 1) rows) in
    let mid = c.loop-key.site in
    let new = c.make_row.new.site in
    let inside : i < length rows = omega (arith, ap length c.as_slice-key-items.ensures) in
    let here : get_or rows i item ≡ item = ap (λ (l : List (List ℕ × ℕ)). get_or l i item) (sym c.as_slice-key-items.ensures) ∙ sym c.loop-key-item.is in
    let front : take (i + 1) rows ≡ take i rows ++ item ∷ [] = (take_at_read rows i item inside).1 ∙ ap (λ (e : List ℕ × ℕ). take i rows ++ e ∷ []) here in
    let row : opening_row c.as_bytes.result.now (c.as_bytes-in-loop-key.result.now, item.1) ≡ f item = (λ j. opening_row (c.as_bytes.ensures.value j) (c.as_bytes-in-loop-key.ensures.value j, item.1)) in
    let now : MakesRows site (f item ∷ []) c.make_row.result mid new = subst (λ (r : OpeningRow). MakesRows site (r ∷ []) c.make_row.result mid new) row c.make_row.ensures in
    let is : c.make_row.result ≡ _ = c.in_ok-make_row.was in
    let ok = subst (λ r. MakesRows site (f item ∷ []) r mid new) is now in
    subst (λ (l : List OpeningRow). RowsDone site all l c.args.site.now new) (sym (map_on f rows i item front))
    (done_on site all done (f item ∷ []) rest c.args.site.now mid new (map_split f rows i item front) c.loop-key.invariant (λ told. ok.made told) (λ told. ok.certain told) (λ told. ok.any_moment told) ok.cause.no_fewer)
