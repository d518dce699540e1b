use Rattle.std.proofs.Common.{◌≤◌, ◌∙◌, max, sym, Some, rules}
use Rattle.qc_protocol.specs.declared.reply.Reply.TheVariants.{Opened, Refused}
use Rattle.qc_machine.specs.State.{set_slot}
use Rattle.qc_hub.specs.Calls.{opening}
use Rattle.qc_hub.specs.declared.hub.Hub.{Hub}
use Rattle.qc_hub.proofs.InMemory.{recorders-in-memory, reply-in-memory, starved-in-memory, at_last, at_slots, soon}
use Rattle.qc_hub.proofs.Asked.{open-busy, open-refused, open-begun, order-kept}
use Rattle.qc_hub.proofs.hub.Hub.open_client.Goals as goal

pub returns-in-Some : goal.returns-in-Some
returns-in-Some c =
    let hub : Hub = c.args.self.now in
    let le : max c.args.at hub.last ≤ 1000000000000 = soon c.args.at hub.last c.later-self.result c.later-self.ensures.value c.later-self.ensures.bound in
    reply-in-memory c.args.at _ hub _ (Refused c.in-Some.refusal) (at_last hub _ _ c.later-self.ensures.value) le
    (λ s h. open-busy hub s h c.args.at c.args.client c.args.app.now c.args.component.now c.in-Some.refusal (sym c.busy.ensures ∙ c.in-Some.is))

pub returns-in-Ok : goal.returns-in-Ok
returns-in-Ok c =
    let hub : Hub = c.args.self.now in
    let le : max c.args.at hub.last ≤ 1000000000000 = soon c.args.at hub.last c.later-self.result c.later-self.ensures.value c.later-self.ensures.bound in
    recorders-in-memory c.args.at _ hub _ Opened (set_slot c.args.client (Some c.in-Ok.recorder) hub.clients) (at_slots hub _ _ _ _ c.put.ensures c.later-self.ensures.value) le
    (λ s h. open-begun hub s h c.args.at c.args.client c.args.app.now c.args.component.now c.in-Ok.recorder (sym c.busy.ensures ∙ c.in_default.is) (search rules))
    (order-kept hub (opening c.args.at c.args.client c.args.app.now c.args.component.now) le (λ e. e))

pub returns-in-Err-Refused : goal.returns-in-Err-Refused
returns-in-Err-Refused c =
    let hub : Hub = c.args.self.now in
    let le : max c.args.at hub.last ≤ 1000000000000 = soon c.args.at hub.last c.later-self.result c.later-self.ensures.value c.later-self.ensures.bound in
    reply-in-memory c.args.at _ hub _ (Refused c.in-Err-Refused.refusal) (at_last hub _ _ c.later-self.ensures.value) le
    (λ s h. open-refused hub s h c.args.at c.args.client c.args.app.now c.args.component.now c.in-Err-Refused.refusal (sym c.busy.ensures ∙ c.in_default.is) (search rules))

pub returns-in-Err-NoMemory : goal.returns-in-Err-NoMemory
returns-in-Err-NoMemory c =
    let hub : Hub = c.args.self.now in
    starved-in-memory c.args.at _ hub _ (at_last hub _ _ c.later-self.ensures.value) (soon c.args.at hub.last c.later-self.result c.later-self.ensures.value c.later-self.ensures.bound)
