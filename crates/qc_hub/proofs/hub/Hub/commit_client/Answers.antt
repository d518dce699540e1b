use Rattle.std.proofs.Common.{◌∙◌, ◌≤◌, max, length, sym, ap, subst, rules, None}
use Rattle.qc_base.specs.declared.recording.Recording.{Recording}
use Rattle.qc_base.specs.Spelling.{is_recording}
use Rattle.qc_protocol.specs.declared.reply.Reply.TheVariants.{SentNothing, Refused}
use Rattle.qc_machine.specs.History.{by_text}
use Rattle.qc_machine.specs.Laws.{IsSettled}
use Rattle.qc_machine.specs.State.{set_slot}
use Rattle.qc_machine.specs.Steps.{Step}
use Rattle.qc_hub.specs.declared.hub.Hub.{Hub}
use Rattle.qc_hub.specs.Rooms.{HasRoom}
use Rattle.qc_hub.proofs.Asked.{commit-empty, commit-idle, gone-settled}
use Rattle.qc_hub.proofs.Committing.{commit-added, commit-fits, commit-ready, commit-refused-again, commit-starved}
use Rattle.qc_hub.proofs.InMemory.{in_memory, recorders-in-memory, reply-in-memory, at_last, at_slots, soon}
use Rattle.qc_hub.proofs.hub.Hub.commit_client.Goals as goal

pub returns-in-Some : goal.returns-in-Some
returns-in-Some g c =
    let hub : Hub = c.args.self.now in
    let le : max c.args.at hub.last ≤ 1000000000000 = soon c.args.at hub.last c.later-self.result c.later-self.ensures.value c.later-self.ensures.bound in
    in_memory g.S.Site c.args.at _ hub _ c.args.site.now _ (g.met.S.Site.only_now c.args.site.now) c.requires
    (reply-in-memory c.args.at _ hub _ (Refused c.in-Some.refusal) (at_last hub _ _ c.later-self.ensures.value) le
    (λ s h. commit-idle hub s h c.args.at c.args.client c.in-Some.refusal (sym c.idle.ensures ∙ c.in-Some.is)))

pub returns-then-count-eq0 : goal.returns-then-count-eq0
returns-then-count-eq0 g c =
    let hub : Hub = c.args.self.now in
    let le : max c.args.at hub.last ≤ 1000000000000 = soon c.args.at hub.last c.later-self.result c.later-self.ensures.value c.later-self.ensures.bound in
    let free = sym c.idle.ensures ∙ c.in_default.is in
    let there = sym c.in-Some-take.ensures.taken in
    in_memory g.S.Site c.args.at _ hub _ c.args.site.now _ (g.met.S.Site.only_now c.args.site.now) c.requires
    (recorders-in-memory c.args.at _ hub _ SentNothing (set_slot c.args.client None hub.clients) (at_slots hub _ _ _ _ c.in-Some-take.ensures.idle c.later-self.ensures.value) le
    (λ s h. commit-empty hub s h c.args.at c.args.client c.in-Some-take.recorder free there (search rules))
    (λ s h. subst (λ (t : Step). IsSettled by_text t.state) (sym (commit-empty hub s h c.args.at c.args.client c.in-Some-take.recorder free there (search rules))) (gone-settled hub s h c.args.at c.args.client le)))

pub add_sent-requires-clause-ready : goal.add_sent-requires-clause-ready
add_sent-requires-clause-ready g c =
    commit-ready g.S.Site c.args.self.now c.args.site.now c.args.at c.args.client c.in-Some-take.recorder (sym c.idle.ensures ∙ c.in_default.is) (sym c.in-Some-take.ensures.taken) (search rules)
    c.later-self.result c.later-self.ensures.value c.later-self.ensures.bound c.take.new.self c.in-Some-take.ensures.idle c.requires c.make_room.new.self c.make_room.ensures.kept

pub add_sent-requires-clause-limits : goal.add_sent-requires-clause-limits
add_sent-requires-clause-limits g c =
    let some : 1 ≤ length c.in-Some-take.recorder.calls = search rules in
    ap is_recording c.into_recording.ensures.value ∙ c.into_recording.ensures.limits some

pub add_sent-requires-clause-fits : goal.add_sent-requires-clause-fits
add_sent-requires-clause-fits g c =
    commit-fits g.S.Site c.args.self.now c.args.site.now c.args.at c.args.client c.in-Some-take.recorder (sym c.idle.ensures ∙ c.in_default.is) (sym c.in-Some-take.ensures.taken) (search rules)
    c.later-self.result c.later-self.ensures.value c.later-self.ensures.bound c.take.new.self c.in-Some-take.ensures.idle c.requires c.make_room.new.self c.make_room.ensures.kept c.into_recording.result c.into_recording.ensures.value

pub add_sent-requires-clause-room : goal.add_sent-requires-clause-room
add_sent-requires-clause-room g c =
    subst (λ (r : Recording). HasRoom r c.make_room.new.self) (sym c.into_recording.ensures.value) (c.in-Ok-None.ensures.room c.in-Ok-None.field-0-is)

pub returns-in-Ok-None : goal.returns-in-Ok-None
returns-in-Ok-None g c =
    commit-added g.S.Site c.args.self.now c.args.site.now c.args.at c.args.client c.in-Some-take.recorder (sym c.idle.ensures ∙ c.in_default.is) (sym c.in-Some-take.ensures.taken) (search rules)
    c.later-self.result c.later-self.ensures.value c.later-self.ensures.bound c.take.new.self c.in-Some-take.ensures.idle c.requires c.make_room.new.self c.make_room.ensures.kept
    c.in-Ok-None.field-0 c.in-Ok-None.ensures.refused c.in-Ok-None.field-0-is c.into_recording.result c.into_recording.ensures.value c.add_sent.result c.add_sent.new.self c.add_sent.new.site c.add_sent.ensures.takes_no_memory c.add_sent.ensures.steps

pub returns-in-Ok-Some : goal.returns-in-Ok-Some
returns-in-Ok-Some g c =
    commit-refused-again g.S.Site c.args.self.now c.args.site.now c.args.at c.args.client c.in-Some-take.recorder (sym c.idle.ensures ∙ c.in_default.is) (sym c.in-Some-take.ensures.taken) (search rules)
    c.later-self.result c.later-self.ensures.value c.later-self.ensures.bound c.take.new.self c.in-Some-take.ensures.idle c.requires c.make_room.new.self c.make_room.ensures.kept
    c.put.new.self c.put.ensures (g.met.S.Site.only_now c.args.site.now) c.in-Ok-Some.field-0 c.in-Ok-Some.ensures.refused c.in-Ok-Some.refusal c.in-Ok-Some.field-0-is

pub returns-in-Err : goal.returns-in-Err
returns-in-Err g c =
    commit-starved g.S.Site c.args.self.now c.args.site.now c.args.at c.args.client c.in-Some-take.recorder (sym c.idle.ensures ∙ c.in_default.is) (sym c.in-Some-take.ensures.taken) (search rules)
    c.later-self.result c.later-self.ensures.value c.later-self.ensures.bound c.take.new.self c.in-Some-take.ensures.idle c.requires c.make_room.new.self c.make_room.ensures.kept
    c.put-in-Err.new.self c.put-in-Err.ensures (g.met.S.Site.only_now c.args.site.now) _ (search rules)
