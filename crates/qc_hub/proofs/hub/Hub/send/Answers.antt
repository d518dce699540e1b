use Rattle.std.proofs.Common.{◌≡◌, ◌∙◌, ◌≤◌, max, length, refl, sym, ap, subst, rules, Ok, Err}
use Rattle.std.specs.declared.result.Result.{Result}
use Rattle.qc_base.specs.declared.recording.Recording.{Recording}
use Rattle.qc_base.specs.Spelling.{is_recording}
use Rattle.qc_protocol.specs.declared.reply.Reply.{Reply}
use Rattle.qc_protocol.specs.declared.reply.Reply.TheVariants.{SentNothing, Refused}
use Rattle.qc_catalogue.specs.declared.catalogue.Catalogue.{Catalogue}
use Rattle.qc_recorder.specs.Answers.{Tells}
use Rattle.qc_recorder.specs.Fits.{recording_fits}
use Rattle.qc_recorder.specs.Recording.{recorded}
use Rattle.qc_machine.specs.Sending.{added, fact_sent}
use Rattle.qc_machine.specs.State.{at_moment}
use Rattle.qc_machine.specs.Step.{step}
use Rattle.qc_hub.specs.declared.error.HubError.{HubError}
use Rattle.qc_hub.specs.declared.hub.Hub.{Hub}
use Rattle.qc_hub.specs.Calls.{StepsBy, StepsInMemory, sending}
use Rattle.qc_hub.specs.Rooms.{HasRoom}
use Rattle.qc_hub.proofs.Asked.{sending-empty, sending-fits, sending-not, sending-refused, sending-sent}
use Rattle.qc_hub.proofs.Calling.{behind, handed_on, replied, starved}
use Rattle.qc_hub.proofs.Fit.{same-catalogue}
use Rattle.qc_hub.proofs.InMemory.{at_last, in_memory, reply-in-memory, soon, unrecorded-in-memory}
use Rattle.qc_hub.proofs.Later.{later-hub, moved-since, since-ready, since-room, since-set, state-of}
use Rattle.qc_hub.proofs.hub.Hub.send.Goals as goal

pub returns-in-Err : goal.returns-in-Err
returns-in-Err g c =
    let hub : Hub = c.args.self.now in
    let le : max c.args.at hub.last ≤ 1000000000000 = soon c.args.at hub.last c.later-self.result c.later-self.ensures.value c.later-self.ensures.bound in
    in_memory g.S.Site c.args.at _ hub _ c.args.site.now _ (g.met.S.Site.only_now c.args.site.now) c.requires
    (subst (λ (r : Result Reply HubError). StepsInMemory c.args.at (λ s. step s (sending c.args.at c.args.app.now c.args.component.now c.args.calls.now)) r hub (record hub { last = c.later-self.result })) (sym c.unrecorded.ensures)
    (unrecorded-in-memory c.args.at _ hub _ (recorded hub.history.catalogue c.args.app.now c.args.component.now c.args.calls.now) c.in-Err.error (subst (λ (x : Catalogue). Tells {A = Recording} (Err c.in-Err.error) (recorded x c.args.app.now c.args.component.now c.args.calls.now)) c.catalogue-catalogue.ensures c.in-Err.ensures) (at_last hub _ _ c.later-self.ensures.value) le
    (λ r why s h. sending-refused hub s h c.args.at c.args.app.now c.args.component.now c.args.calls.now r why)))

pub returns-then-count-eq0 : goal.returns-then-count-eq0
returns-then-count-eq0 g c =
    let hub : Hub = c.args.self.now in
    let le : max c.args.at hub.last ≤ 1000000000000 = soon c.args.at hub.last c.later-self.result c.later-self.ensures.value c.later-self.ensures.bound in
    in_memory g.S.Site c.args.at _ hub _ c.args.site.now _ (g.met.S.Site.only_now c.args.site.now) c.requires
    (reply-in-memory c.args.at _ hub _ SentNothing (at_last hub _ _ c.later-self.ensures.value) le
    (λ s h. sending-empty hub s h c.args.at c.args.app.now c.args.component.now c.args.calls.now c.in-Ok.recorder (subst (λ (x : Catalogue). recorded x c.args.app.now c.args.component.now c.args.calls.now ≡ Ok c.in-Ok.recorder) c.catalogue-catalogue.ensures c.in-Ok.ensures) (search rules)))

pub returns-in_err-refusal : goal.returns-in_err-refusal
returns-in_err-refusal g c =
    let hub : Hub = c.args.self.now in
    let since = since-room hub (record hub { last = c.later-self.result }) c.make_room.new.self c.args.at (since-set hub c.args.at c.later-self.result c.later-self.ensures.value c.later-self.ensures.bound) c.make_room.ensures.kept in
    starved g.S.Site c.args.at _ _ hub c.make_room.new.self c.args.site.now (g.met.S.Site.only_now c.args.site.now) c.requires (moved-since hub c.make_room.new.self c.args.at since) (search rules)

pub returns-in-Some : goal.returns-in-Some
returns-in-Some g c =
    let hub : Hub = c.args.self.now in
    let r : Recording = c.in-Ok.recorder in
    let set = since-set hub c.args.at c.later-self.result c.later-self.ensures.value c.later-self.ensures.bound in
    let since = since-room hub (record hub { last = c.later-self.result }) c.make_room.new.self c.args.at set c.make_room.ensures.kept in
    let some : 1 ≤ length r.calls = search rules in
    replied g.S.Site c.args.at _ (Refused c.in-Some.refusal) hub c.make_room.new.self c.args.site.now (g.met.S.Site.only_now c.args.site.now) c.requires since
    (λ s h. sending-not hub s h c.args.at c.args.app.now c.args.component.now c.args.calls.now r c.in-Some.refusal (subst (λ (x : Catalogue). recorded x c.args.app.now c.args.component.now c.args.calls.now ≡ Ok c.in-Ok.recorder) c.catalogue-catalogue.ensures c.in-Ok.ensures) some
    (sym (c.in_ok-refusal.ensures.refused (at_moment c.args.at s) (later-hub hub (record hub { last = c.later-self.result }) c.args.at s set h)) ∙ c.in-Some.is))

pub add_sent-requires-clause-ready : goal.add_sent-requires-clause-ready
add_sent-requires-clause-ready g c =
    let hub : Hub = c.args.self.now in
    let since = since-room hub (record hub { last = c.later-self.result }) c.make_room.new.self c.args.at (since-set hub c.args.at c.later-self.result c.later-self.ensures.value c.later-self.ensures.bound) c.make_room.ensures.kept in
    since-ready g.S.Site hub c.make_room.new.self c.args.at c.args.site.now since c.requires

pub add_sent-requires-clause-limits : goal.add_sent-requires-clause-limits
add_sent-requires-clause-limits g c =
    let some : 1 ≤ length c.in-Ok.recorder.calls = search rules in
    ap is_recording c.into_recording.ensures.value ∙ c.into_recording.ensures.limits some

pub add_sent-requires-clause-fits : goal.add_sent-requires-clause-fits
add_sent-requires-clause-fits g c =
    let hub : Hub = c.args.self.now in
    let was = state-of g.S.Site hub c.args.site.now c.requires in
    let same = same-catalogue hub.history c.make_room.new.self.history c.make_room.ensures.kept.history in
    (λ i. recording_fits (same i) (c.into_recording.ensures.value i))
    ∙ sending-fits hub was.state was.is_in c.args.at c.args.app.now c.args.component.now c.args.calls.now c.in-Ok.recorder (subst (λ (x : Catalogue). recorded x c.args.app.now c.args.component.now c.args.calls.now ≡ Ok c.in-Ok.recorder) c.catalogue-catalogue.ensures c.in-Ok.ensures)

pub add_sent-requires-clause-room : goal.add_sent-requires-clause-room
add_sent-requires-clause-room g c =
    subst (λ (r : Recording). HasRoom r c.make_room.new.self) (sym c.into_recording.ensures.value) (c.in_ok-refusal.ensures.room c.in_default.is)

pub returns : goal.returns
returns g c =
    let hub : Hub = c.args.self.now in
    let r : Recording = c.in-Ok.recorder in
    let set = since-set hub c.args.at c.later-self.result c.later-self.ensures.value c.later-self.ensures.bound in
    let since = since-room hub (record hub { last = c.later-self.result }) c.make_room.new.self c.args.at set c.make_room.ensures.kept in
    let some : 1 ≤ length r.calls = search rules in
    handed_on g.S.Site c.args.at _ (λ s. added (fact_sent (at_moment c.args.at s) r) (at_moment c.args.at s)) _ hub _ _ _
    (λ s h. sending-sent hub s h c.args.at c.args.app.now c.args.component.now c.args.calls.now r (subst (λ (x : Catalogue). recorded x c.args.app.now c.args.component.now c.args.calls.now ≡ Ok c.in-Ok.recorder) c.catalogue-catalogue.ensures c.in-Ok.ensures) some
    (sym (c.in_ok-refusal.ensures.refused (at_moment c.args.at s) (later-hub hub (record hub { last = c.later-self.result }) c.args.at s set h)) ∙ c.in_default.is))
    (behind g.S.Site c.args.at (λ s. added (fact_sent s r) s) (at_moment c.args.at) _ hub c.make_room.new.self _ _ _ since.later
    (λ s h. (later-hub hub c.make_room.new.self c.args.at s since h, record { history = refl; rows = refl; journal = refl; log = refl }))
    c.add_sent.ensures.takes_no_memory
    (subst (λ (x : Recording). StepsBy g.S.Site 0 (λ s. added (fact_sent s x) s) c.add_sent.result c.make_room.new.self c.args.site.now c.add_sent.new.self c.add_sent.new.site) c.into_recording.ensures.value c.add_sent.ensures.steps))
