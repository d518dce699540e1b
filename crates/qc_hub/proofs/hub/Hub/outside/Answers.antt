use Rattle.std.proofs.Common.{◌≡◌, ◌∙◌, List, ℕ, true, map, refl, ap, rules, Some, None}
use Rattle.qc_protocol.specs.declared.reply.Refusal.TheVariants.{UnknownTable}
use Rattle.qc_protocol.specs.declared.reply.Reply.{Reply}
use Rattle.qc_protocol.specs.declared.reply.Reply.TheVariants.{Refused}
use Rattle.qc_catalogue.specs.Lookup.{resource_named}
use Rattle.qc_machine.specs.Listing.{held_row, shown_total}
use Rattle.qc_machine.specs.State.{at_moment}
use Rattle.qc_machine.specs.Steps.{stays}
use Rattle.qc_hub.specs.declared.hub.Hub.{Hub}
use Rattle.qc_hub.proofs.Asked.{outside-unknown, outside-known, found-resource, outside-is}
use Rattle.qc_hub.proofs.Calling.{replied, starved}
use Rattle.qc_hub.proofs.Later.{moved-since, since-set}
use Rattle.qc_hub.proofs.OnlyRead.{read-replied, read-failed}
use Rattle.qc_hub.proofs.hub.Hub.outside.Goals as goal

pub returns-in_default : goal.returns-in_default
returns-in_default g c =
    let hub : Hub = c.args.self.now in
    let none : resource_named c.args.resource.now hub.history.catalogue.resources ≡ None = search rules in
    replied g.S.Site c.args.at _ (Refused UnknownTable) hub _ c.args.site.now (g.met.S.Site.only_now c.args.site.now) c.requires (since-set hub c.args.at c.later-self.result c.later-self.ensures.value c.later-self.ensures.bound)
    (λ s h. outside-unknown hub s h c.args.at c.args.resource.now none)

pub returns-in_default-with_capacity : goal.returns-in_default-with_capacity
returns-in_default-with_capacity g c =
    let hub : Hub = c.args.self.now in
    starved g.S.Site c.args.at _ _ hub _ c.args.site.now (g.met.S.Site.only_now c.args.site.now) c.requires (moved-since hub _ c.args.at (since-set hub c.args.at c.later-self.result c.later-self.ensures.value c.later-self.ensures.bound)) refl

pub returns-in_default-held_rows : goal.returns-in_default-held_rows
returns-in_default-held_rows g c =
    let hub : Hub = c.args.self.now in
    read-failed g.S.Site c.args.at _ _ hub _ c.args.site.now _ c.requires c.in_default-held_rows.ensures.writes (λ i. record hub { last = c.later-self.ensures.value i; in_fault = true }) refl

pub returns : goal.returns
returns g c =
    let hub : Hub = c.args.self.now in
    let resource : List ℕ = c.args.resource.now in
    let found : resource_named resource hub.history.catalogue.resources ≡ Some c.in-Some.named.now = search rules in
    let named = c.copy-name.ensures ∙ found-resource hub.history.catalogue.resources resource c.in-Some.named.now found in
    read-replied g.S.Site c.args.at _ _ hub _ c.args.site.now _ c.requires c.in-Ok-held_rows.ensures.writes _ (since-set hub c.args.at c.later-self.result c.later-self.ensures.value c.later-self.ensures.bound) (λ e. cc)
    (λ told s h on.
    let rows = (g.S.Site.shown c.args.site.now).rows in
    let shown = c.in-Ok-held_rows.ensures.read told ∙ ap (λ (l : List (List ℕ × ℕ)). map (held_row rows resource) l) c.as_slice-rows.ensures in
    outside-known hub s h c.args.at resource c.in-Some.named.now found
    ∙ ap (λ (r : Reply). stays (at_moment c.args.at s) r)
    (outside-is rows s.rows resource c.copy-name.result c.in-Some.named.now.rows c.in-Ok-held_rows.shown c.total_of-total.result named on.rows shown (c.total_of-total.ensures ∙ ap shown_total c.as_slice.ensures)))
