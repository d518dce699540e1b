use Rattle.std.proofs.Common.{◌≡◌, ◌≤◌, ◌∙◌, ℕ, max, sym, ap, subst, Some, Ok}
use Rattle.qc_base.specs.declared.recording.Recording.{Recording}
use Rattle.qc_protocol.specs.declared.reply.Reply.TheVariants.{Recorded, Refused}
use Rattle.qc_catalogue.specs.declared.catalogue.Catalogue.{Catalogue}
use Rattle.qc_recorder.specs.Answers.{IsRefusalOf}
use Rattle.qc_recorder.specs.Recording.{called}
use Rattle.qc_recorder.specs.declared.error.RecordError.{RecordError}
use Rattle.qc_machine.specs.State.{set_slot}
use Rattle.qc_machine.specs.Steps.{stays}
use Rattle.qc_machine.proofs.Recorders.{put-anew, put-back}
use Rattle.qc_hub.specs.Calls.{calling}
use Rattle.qc_hub.specs.declared.hub.Hub.{Hub}
use Rattle.qc_hub.proofs.InMemory.{recorders-in-memory, reply-in-memory, starved-in-memory, at_last, at_slots, soon}
use Rattle.qc_hub.proofs.Asked.{call-idle, call-refused, call-recorded, order-kept}
use Rattle.qc_hub.proofs.Later.{later_state}
use Rattle.qc_hub.proofs.hub.Hub.call_client.Goals as goal

pub returns-in-Some : goal.returns-in-Some
returns-in-Some c =
    let hub : Hub = c.args.self.now in
    let le : max c.args.at hub.last ≤ 1000000000000 = soon c.args.at hub.last c.later-self.result c.later-self.ensures.value c.later-self.ensures.bound in
    reply-in-memory c.args.at _ hub _ (Refused c.in-Some.refusal) (at_last hub _ _ c.later-self.ensures.value) le
    (λ s h. call-idle hub s h c.args.at c.args.client c.args.call.now c.in-Some.refusal (sym c.idle.ensures ∙ c.in-Some.is))

pub returns-in-Ok : goal.returns-in-Ok
returns-in-Ok c =
    let hub : Hub = c.args.self.now in
    let le : max c.args.at hub.last ≤ 1000000000000 = soon c.args.at hub.last c.later-self.result c.later-self.ensures.value c.later-self.ensures.bound in
    let more : Recording = c.add-added.new.self in
    let slots = set_slot c.args.client (Some more) hub.clients in
    let here = subst (λ (x : Catalogue). called x c.in-Some-take.recorder c.args.call.now ≡ Ok more) c.catalogue.ensures c.in-Ok.ensures.recorded in
    recorders-in-memory c.args.at _ hub _ (Recorded c.in-Ok.count) slots
    (at_slots hub _ _ _ _ (c.put.ensures ∙ ap (set_slot c.args.client (Some more)) c.in-Some-take.ensures.idle ∙ put-anew hub.clients c.args.client (Some more)) c.later-self.ensures.value) le
    (λ s h.
    call-recorded hub s h c.args.at c.args.client c.args.call.now c.in-Some-take.recorder more (sym c.idle.ensures ∙ c.in_default.is) (sym c.in-Some-take.ensures.taken) here
    ∙ ap (λ (n : ℕ). stays (later_state c.args.at slots s) (Recorded n)) (sym c.in-Ok.ensures.count))
    (order-kept hub (calling c.args.at c.args.client c.args.call.now) le (λ e. e))

pub returns-in-Err-Refused : goal.returns-in-Err-Refused
returns-in-Err-Refused c =
    let hub : Hub = c.args.self.now in
    let le : max c.args.at hub.last ≤ 1000000000000 = soon c.args.at hub.last c.later-self.result c.later-self.ensures.value c.later-self.ensures.bound in
    let held : Recording = c.in-Some-take.recorder in
    let refused = subst (λ (x : Catalogue). IsRefusalOf (called x held c.args.call.now) c.in-Err-Refused.field-0) c.catalogue.ensures c.in-Err-Refused.ensures.refused in
    reply-in-memory c.args.at _ hub _ (Refused c.in-Err-Refused.refusal)
    (at_slots hub _ hub.clients _ _
    (c.put.ensures ∙ ap (λ (r : Recording). set_slot c.args.client (Some r) c.take.new.self) c.in-Err-Refused.ensures.unchanged ∙ ap (set_slot c.args.client (Some held)) c.in-Some-take.ensures.idle ∙ put-back hub.clients c.args.client held (sym c.in-Some-take.ensures.taken))
    c.later-self.ensures.value) le
    (λ s h. call-refused hub s h c.args.at c.args.client c.args.call.now held c.in-Err-Refused.refusal (sym c.idle.ensures ∙ c.in_default.is) (sym c.in-Some-take.ensures.taken)
    (subst (λ (e : RecordError). IsRefusalOf (called hub.history.catalogue held c.args.call.now) e) c.in-Err-Refused.field-0-is refused))

pub returns-in-Err-NoMemory : goal.returns-in-Err-NoMemory
returns-in-Err-NoMemory c =
    let hub : Hub = c.args.self.now in
    let held : Recording = c.in-Some-take.recorder in
    starved-in-memory c.args.at _ hub _
    (at_slots hub _ hub.clients _ _
    (c.put.ensures ∙ ap (λ (r : Recording). set_slot c.args.client (Some r) c.take.new.self) c.in-Err-NoMemory.ensures.unchanged ∙ ap (set_slot c.args.client (Some held)) c.in-Some-take.ensures.idle ∙ put-back hub.clients c.args.client held (sym c.in-Some-take.ensures.taken))
    c.later-self.ensures.value)
    (soon c.args.at hub.last c.later-self.result c.later-self.ensures.value c.later-self.ensures.bound)
