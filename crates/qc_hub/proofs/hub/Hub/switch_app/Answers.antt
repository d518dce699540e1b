use Rattle.std.proofs.Common.{◌≡◌, rules, Some, None}
use Rattle.qc_protocol.specs.declared.reply.Refusal.TheVariants.{UnknownApp}
use Rattle.qc_protocol.specs.declared.reply.Reply.TheVariants.{Refused}
use Rattle.qc_catalogue.specs.Lookup.{app_named}
use Rattle.qc_hub.specs.declared.hub.Hub.{Hub}
use Rattle.qc_hub.proofs.Calling.{replied}
use Rattle.qc_hub.proofs.Later.{since-set, took-history}
use Rattle.qc_hub.proofs.RoomTaken.{journal-kept, journal-made}
use Rattle.qc_hub.proofs.Switched.{switch-added, switch-known, switch-ready, switch-refused, switch-starved, switch-unknown}
use Rattle.qc_hub.proofs.hub.Hub.switch_app.Goals as goal

pub returns-in_default : goal.returns-in_default
returns-in_default g c =
    let hub : Hub = c.args.self.now in
    let none : app_named c.args.app.now hub.history.catalogue.apps ≡ None = search rules in
    replied g.S.Site c.args.at _ (Refused UnknownApp) hub _ c.args.site.now (g.met.S.Site.only_now c.args.site.now) c.requires (since-set hub c.args.at c.later-self.result c.later-self.ensures.value c.later-self.ensures.bound)
    (λ s h. switch-unknown hub s h c.args.at c.args.app.now c.args.on none)

pub returns-in-Some-journal_full : goal.returns-in-Some-journal_full
returns-in-Some-journal_full g c =
    let found : app_named c.args.app.now c.args.self.now.history.catalogue.apps ≡ Some c.in-Some.app.now = search rules in
    switch-refused g.S.Site c.args.self.now c.args.site.now c.args.at c.args.app.now c.args.on c.requires (g.met.S.Site.only_now c.args.site.now) c.later-self.result c.later-self.ensures.value c.later-self.ensures.bound
    c.in-Some.app.now found c.journal_full.result (search rules) c.in-Some-journal_full.full c.in-Some-journal_full.is

pub returns-in_default-reserve_switch : goal.returns-in_default-reserve_switch
returns-in_default-reserve_switch g c =
    let hub : Hub = c.args.self.now in
    let found : app_named c.args.app.now hub.history.catalogue.apps ≡ Some c.in-Some.app.now = search rules in
    switch-starved g.S.Site hub c.args.site.now c.args.at c.args.app.now c.args.on c.requires (g.met.S.Site.only_now c.args.site.now) c.later-self.result c.later-self.ensures.value c.later-self.ensures.bound
    c.in-Some.app.now found c.journal_full.result (search rules) _ (took-history (record hub { last = c.later-self.result }) c.reserve_switch.new.self c.reserve_switch.ensures.aside)

pub returns-in_default-reserve : goal.returns-in_default-reserve
returns-in_default-reserve g c =
    let hub : Hub = c.args.self.now in
    let found : app_named c.args.app.now hub.history.catalogue.apps ≡ Some c.in-Some.app.now = search rules in
    switch-starved g.S.Site hub c.args.site.now c.args.at c.args.app.now c.args.on c.requires (g.met.S.Site.only_now c.args.site.now) c.later-self.result c.later-self.ensures.value c.later-self.ensures.bound
    c.in-Some.app.now found c.journal_full.result (search rules) _ (journal-kept (record hub { last = c.later-self.result }) c.reserve_switch.new.self c.reserve.new.self c.reserve_switch.ensures.aside (search rules))

pub add_switch-requires-clause-ready : goal.add_switch-requires-clause-ready
add_switch-requires-clause-ready g c =
    let hub : Hub = c.args.self.now in
    let found : app_named c.args.app.now hub.history.catalogue.apps ≡ Some c.in-Some.app.now = search rules in
    switch-ready g.S.Site hub c.args.site.now c.args.at c.args.app.now c.args.on c.requires (g.met.S.Site.only_now c.args.site.now) c.later-self.result c.later-self.ensures.value c.later-self.ensures.bound
    c.in-Some.app.now found c.journal_full.result (search rules) _ (journal-made (record hub { last = c.later-self.result }) c.reserve_switch.new.self c.reserve.new.self c.reserve_switch.ensures.aside _ c.in-Ok-reserve.ensures.ok)

pub add_switch-requires-clause-known : goal.add_switch-requires-clause-known
add_switch-requires-clause-known g c =
    let hub : Hub = c.args.self.now in
    let found : app_named c.args.app.now hub.history.catalogue.apps ≡ Some c.in-Some.app.now = search rules in
    switch-known g.S.Site hub c.args.site.now c.args.at c.args.app.now c.args.on c.requires (g.met.S.Site.only_now c.args.site.now) c.later-self.result c.later-self.ensures.value c.later-self.ensures.bound
    c.in-Some.app.now found c.journal_full.result (search rules) _ (journal-made (record hub { last = c.later-self.result }) c.reserve_switch.new.self c.reserve.new.self c.reserve_switch.ensures.aside _ c.in-Ok-reserve.ensures.ok)

pub returns : goal.returns
returns g c =
    let hub : Hub = c.args.self.now in
    let found : app_named c.args.app.now hub.history.catalogue.apps ≡ Some c.in-Some.app.now = search rules in
    switch-added g.S.Site hub c.args.site.now c.args.at c.args.app.now c.args.on c.requires (g.met.S.Site.only_now c.args.site.now) c.later-self.result c.later-self.ensures.value c.later-self.ensures.bound
    c.in-Some.app.now found c.journal_full.result (search rules) _ (journal-made (record hub { last = c.later-self.result }) c.reserve_switch.new.self c.reserve.new.self c.reserve_switch.ensures.aside _ c.in-Ok-reserve.ensures.ok)
    (search rules) c.add_switch.result c.add_switch.new.self c.add_switch.new.site c.add_switch.ensures.takes_no_memory c.add_switch.ensures.steps
