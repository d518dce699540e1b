use Rattle.std.proofs.Common.{◌≡◌, ◌≤◌, ◌∙◌, ℕ, max, List, length, ap, Some, None, rules}
use Rattle.qc_base.specs.declared.message.Message.{Message}
use Rattle.qc_base.specs.Messages.{waiting_queues, dead_ids, consumed_ids}
use Rattle.qc_protocol.specs.declared.reply.Refusal.TheVariants.{UnknownApp}
use Rattle.qc_protocol.specs.declared.reply.Reply.{Reply}
use Rattle.qc_protocol.specs.declared.reply.Reply.TheVariants.{Refused}
use Rattle.qc_catalogue.specs.Lookup.{app_named}
use Rattle.qc_machine.specs.State.{at_moment}
use Rattle.qc_machine.specs.Steps.{stays}
use Rattle.qc_hub.specs.declared.hub.Hub.{Hub}
use Rattle.qc_hub.proofs.InMemory.{reply-in-memory, unmoved-in-memory, at_last, soon}
use Rattle.qc_hub.proofs.Asked.{list-unknown, list-known, found-name, shown-is}
use Rattle.qc_hub.proofs.hub.Hub.queues.Goals as goal

pub returns-in_default : goal.returns-in_default
returns-in_default c =
    let hub : Hub = c.args.self.now in
    let le : max c.args.at hub.last ≤ 1000000000000 = soon c.args.at hub.last c.later-last.result c.later-last.ensures.value c.later-last.ensures.bound in
    let none : app_named c.args.app.now hub.history.catalogue.apps ≡ None = search rules in
    reply-in-memory c.args.at _ hub _ (Refused UnknownApp) (at_last hub _ _ c.later-last.ensures.value) le (λ s h. list-unknown hub s h c.args.at c.args.app.now none)

pub returns-in_default-list : goal.returns-in_default-list
returns-in_default-list c = unmoved-in-memory c.args.at _ c.args.self.now

pub returns : goal.returns
returns c =
    let hub : Hub = c.args.self.now in
    let le : max c.args.at hub.last ≤ 1000000000000 = soon c.args.at hub.last c.later-last.result c.later-last.ensures.value c.later-last.ensures.bound in
    let found : app_named c.args.app.now hub.history.catalogue.apps ≡ Some c.in-Some.app.now = search rules in
    let named = c.copy-name.ensures ∙ found-name hub.history.catalogue.apps c.args.app.now c.in-Some.app.now found in
    let messages : c.store.result.now.messages ≡ hub.history.store.messages = ap (λ x. x.messages) c.store.ensures in
    reply-in-memory c.args.at _ hub _ _ (at_last hub _ _ c.later-last.ensures.value) le
    (λ s h. list-known hub s h c.args.at c.args.app.now c.in-Some.app.now found
    ∙ ap (λ (r : Reply). stays (at_moment c.args.at s) r) (shown-is hub.history.store.messages s.history.messages c.args.app.now c.copy-name.result _ _ _ named h.history.messages
    (c.in-Ok.ensures.queues ∙ ap (λ (n : List ℕ). waiting_queues n c.store.result.now.messages) c.as_bytes.ensures.value ∙ ap (λ (m : List Message). waiting_queues c.copy-name.result m) messages)
    (c.in-Ok.ensures.dead ∙ ap (λ (n : List ℕ). dead_ids n c.store.result.now.messages) c.as_bytes.ensures.value ∙ ap (λ (m : List Message). dead_ids c.copy-name.result m) messages)
    (c.in-Ok.ensures.consumed ∙ ap (λ (n : List ℕ). length (consumed_ids n c.store.result.now.messages)) c.as_bytes.ensures.value ∙ ap (λ (m : List Message). length (consumed_ids c.copy-name.result m)) messages)))
