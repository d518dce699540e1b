use Rattle.std.proofs.Common.{◌≡◌, ◌∙◌, List, ℕ, Option, Some, Ok, Bor, option_map, sym, ap, subst}
use Rattle.qc_catalogue.specs.declared.catalogue.Resource.{Resource}
use Rattle.qc_catalogue.specs.Lookup.{resource_named}
use Rattle.qc_catalogue.proofs.Lookups.{found_name}
use Rattle.qc_worker.specs.Effects.{resource_of}
use Rattle.qc_underway.specs.Calls.{CarriesBy}
use Rattle.qc_underway.proofs.Found.{found-phases, nothing-back}
use Rattle.qc_underway.proofs.calls.carry_one.Goals as goal

pub returns-then-not-is_possible : goal.returns-then-not-is_possible
returns-then-not-is_possible g c =
    let resource = c.in-Some.resource.now in
    let site = c.args.site.now in
    let found : Some resource ≡ resource_named c.as_bytes.result.now c.args.catalogue.now.resources = sym (ap (option_map (λ (r : Bor Resource). r.now)) c.in-Some.is) ∙ c.resource.ensures in
    let name : c.as_bytes.result.now ≡ resource_of c.args.effect.now = c.as_bytes.ensures.value ∙ c.name_of.ensures in
    let here : Some resource ≡ resource_named (resource_of c.args.effect.now) c.args.catalogue.now.resources = found ∙ ap (λ (n : List ℕ). resource_named n c.args.catalogue.now.resources) name in
    let P : Option Resource → Type 0 = λ o. CarriesBy g.S.Site o c.args.effect.now (Ok (tt {0})) c.args.clerk.now c.args.log.now site c.args.clerk.now c.args.log.now site in
    subst P here
    (nothing-back g.S.Site resource c.args.effect.now c.args.clerk.now c.args.log.now site (λ told i left. g.met.S.Site.only_now site i told left) c.requires.stands (sym c.is_possible.ensures ∙ c.if-not-is_possible.true))

pub carry_out-requires-clause-named : goal.carry_out-requires-clause-named
carry_out-requires-clause-named g c =
    let resource = c.in-Some.resource.now in
    let found : Some resource ≡ resource_named c.as_bytes.result.now c.args.catalogue.now.resources = sym (ap (option_map (λ (r : Bor Resource). r.now)) c.in-Some.is) ∙ c.resource.ensures in
    let name : c.as_bytes.result.now ≡ resource_of c.args.effect.now = c.as_bytes.ensures.value ∙ c.name_of.ensures in
    sym name ∙ sym (found_name (λ (r : Resource). r.name) c.as_bytes.result.now c.args.catalogue.now.resources resource (sym found))

pub carry_out-requires-clause-phases : goal.carry_out-requires-clause-phases
carry_out-requires-clause-phases g c =
    let resource = c.in-Some.resource.now in
    let found : Some resource ≡ resource_named c.as_bytes.result.now c.args.catalogue.now.resources = sym (ap (option_map (λ (r : Bor Resource). r.now)) c.in-Some.is) ∙ c.resource.ensures in
    found-phases c.as_bytes.result.now c.args.catalogue.now.resources resource (sym found) c.requires.phases
