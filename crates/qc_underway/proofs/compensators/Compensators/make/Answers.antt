use Rattle.std.proofs.Common.{◌≡◌, ◌∙◌, ◌<◌, ◌+◌, ◌*◌, ℕ, List, [], ◌∷◌, length, map, take, Option, Some, None, option_map, Bor, sym, ap, subst, arith, append-nil, Vec, Global}
use Rattle.std.specs.Option.{IfSome}
use Rattle.std.proofs.lemmas.List.{map-append}
use Rattle.qc_catalogue.specs.declared.catalogue.Resource.{Resource}
use Rattle.qc_catalogue.specs.Lookup.{resource_named}
use Rattle.qc_underway.specs.declared.compensators.Named.{Named}
use Rattle.qc_underway.specs.Compensators.{Kept, IsOf, kept_of, new_kept, state_named}
use Rattle.qc_underway.proofs.Kept.{made-by, one-kept}
use Rattle.qc_underway.proofs.compensators.Compensators.make.Goals.{in-Some+in_ok-named+in-Ok, in_default}
use Rattle.qc_underway.proofs.compensators.Compensators.make.Goals as goal

pub loop-name-preserved : goal.loop-name-preserved
loop-name-preserved c =
    let catalogue = c.args.catalogue.now in
    let names = c.args.names.now in
    let records = c.args.records in
    let i = c.loop-name.name-index in
    let name = c.name-item.result in
    let got : List Kept = map kept_of c.loop-name.each.items in
    let inside : i < length names = omega (arith, c.loop-name-test.true) in
    let kept : Option Resource → Option Kept = option_map (new_kept (2 * (records + 2))) in
    let found : resource_named name catalogue.resources ≡ option_map (λ (r : Bor Resource). r.now) c.resource.result = ap (λ (n : List ℕ). resource_named n catalogue.resources) (sym c.as_bytes.ensures.value) ∙ sym c.resource.ensures in
    elim c.match-resource.branch [
      | in-Some+in_ok-named+in-Ok w ↦
          let gives : kept (resource_named name catalogue.resources) ≡ Some (kept_of w.in_ok-named.named)
          = ap kept (found ∙ ap (option_map (λ (r : Bor Resource). r.now)) w.in-Some.is)
          ∙ ap (λ n. Some (new_kept n w.in-Some.resource.now)) (sym c.in_ok-calls.ensures) ∙ ap Some (sym w.in_ok-named.ensures) in
          ap (λ (v : Vec Named Global). map kept_of v.items) w.each-is ∙ ap (map kept_of) w.in-Ok.ensures.items
          ∙ map-append kept_of c.loop-name.each.items (w.in_ok-named.named ∷ [])
          ∙ one-kept catalogue names records i name (Some (kept_of w.in_ok-named.named)) got inside c.name-item.is gives c.loop-name.invariant
      | in_default w ↦
          let gives : kept (resource_named name catalogue.resources) ≡ None = ap kept (found ∙ ap (option_map (λ (r : Bor Resource). r.now)) w.in_default.is) in
          ap (λ (v : Vec Named Global). map kept_of v.items) w.each-is ∙ sym (append-nil got) ∙ one-kept catalogue names records i name None got inside c.name-item.is gives c.loop-name.invariant
    ]

pub returns-clause-made : goal.returns-clause-made
returns-clause-made c = λ name.
    subst (λ (ks : List Kept). IfSome (state_named name ks) (λ s. IsOf c.args.catalogue.now name s)) (sym c.loop-name.invariant)
    (made-by c.args.catalogue.now (take c.loop-name.name-index c.args.names.now) c.args.records name)
