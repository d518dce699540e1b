use Rattle.std.proofs.Common.{◌≤◌, ◌∙◌, ℕ, max, sym, ap, None}
use Rattle.qc_protocol.specs.declared.reply.Reply.TheVariants.{Cancelled, Refused}
use Rattle.qc_machine.specs.State.{set_slot}
use Rattle.qc_machine.specs.Steps.{stays}
use Rattle.qc_hub.specs.Calls.{cancelling}
use Rattle.qc_hub.specs.declared.hub.Hub.{Hub}
use Rattle.qc_hub.proofs.InMemory.{recorders-in-memory, reply-in-memory, at_last, at_slots, soon}
use Rattle.qc_hub.proofs.Asked.{cancel-idle, cancel-dropped, order-kept}
use Rattle.qc_hub.proofs.Later.{later_state}
use Rattle.qc_hub.proofs.hub.Hub.cancel_client.Goals as goal

pub returns-in-Some : goal.returns-in-Some
returns-in-Some c =
    let hub : Hub = c.args.self.now in
    let le : max c.args.at hub.last ≤ 1000000000000 = soon c.args.at hub.last c.later-self.result c.later-self.ensures.value c.later-self.ensures.bound in
    reply-in-memory c.args.at _ hub _ (Refused c.in-Some.refusal) (at_last hub _ _ c.later-self.ensures.value) le
    (λ s h. cancel-idle hub s h c.args.at c.args.client c.in-Some.refusal (sym c.idle.ensures ∙ c.in-Some.is))

pub returns-in-Some-take : goal.returns-in-Some-take
returns-in-Some-take c =
    let hub : Hub = c.args.self.now in
    let le : max c.args.at hub.last ≤ 1000000000000 = soon c.args.at hub.last c.later-self.result c.later-self.ensures.value c.later-self.ensures.bound in
    recorders-in-memory c.args.at _ hub _ (Cancelled c.count.result) (set_slot c.args.client None hub.clients)
    (at_slots hub _ _ _ _ c.in-Some-take.ensures.idle c.later-self.ensures.value) le
    (λ s h.
    cancel-dropped hub s h c.args.at c.args.client c.in-Some-take.recorder (sym c.idle.ensures ∙ c.in_default.is) (sym c.in-Some-take.ensures.taken)
    ∙ ap (λ (n : ℕ). stays (later_state c.args.at (set_slot c.args.client None hub.clients) s) (Cancelled n)) (sym c.count.ensures))
    (order-kept hub (cancelling c.args.at c.args.client) le (λ e. e))
