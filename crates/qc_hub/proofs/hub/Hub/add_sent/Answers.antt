use Rattle.std.proofs.Common.{◌≡◌, ◌∙◌, ◌≤◌, ◌+◌, length, refl, sym, ap, subst, rules, Err}
use Rattle.std.specs.declared.result.Result.{Result}
use Rattle.qc_base.specs.declared.recording.Recording.{Recording}
use Rattle.qc_protocol.specs.declared.reply.Reply.{Reply}
use Rattle.qc_protocol.specs.declared.reply.Reply.TheVariants.{Sent}
use Rattle.qc_store.specs.Stored.{Stored}
use Rattle.qc_history.specs.Adding.{HasRoomFor}
use Rattle.qc_history.specs.View.{HistoryView}
use Rattle.qc_machine.specs.Sending.{added, fact_sent}
use Rattle.qc_machine.specs.State.{State}
use Rattle.qc_hub.specs.declared.error.HubError.{HubError}
use Rattle.qc_hub.specs.declared.error.HubError.TheVariants.{SiteFault}
use Rattle.qc_hub.specs.declared.hub.Hub.{Hub}
use Rattle.qc_hub.specs.Calls.{StepsBy}
use Rattle.qc_hub.specs.Stands.{IsHubOf}
use Rattle.qc_hub.proofs.Added.{fact-failed, fact-stands}
use Rattle.qc_hub.proofs.AddedSent.{adds-here, sent-can, sent-grows, sent-in, sent-legal, sent-limits, short-calls}
use Rattle.qc_hub.proofs.Later.{state-of}
use Rattle.qc_hub.proofs.hub.Hub.add_sent.Goals as goal

pub append-requires-clause-stands : goal.append-requires-clause-stands
append-requires-clause-stands g c = (c.requires.ready.stands.sound c.requires.ready.no_fault).journal

pub append-requires-clause-can : goal.append-requires-clause-can
append-requires-clause-can g c =
    let count : c.len.result ≡ length c.args.self.now.history.store.messages = c.len.ensures.value ∙ ap (λ (s : Stored). length s.messages) c.store.ensures in
    let sound = c.requires.ready.stands.sound c.requires.ready.no_fault in
    sent-can c.args.self.now c.len.result c.args.recording count c.len.ensures.bound c.requires.limits c.requires.fits sound.state.state sound.state.is_in sound.ended c.requires.room

pub append-requires-clause-counted : goal.append-requires-clause-counted
append-requires-clause-counted g c = (c.requires.ready.stands.sound c.requires.ready.no_fault).state.is_in.fit.counted

pub returns-in_err-append-clause-steps : goal.returns-in_err-append-clause-steps
returns-in_err-append-clause-steps g c =
    let count : c.len.result ≡ length c.args.self.now.history.store.messages = c.len.ensures.value ∙ ap (λ (s : Stored). length s.messages) c.store.ensures in
    let hub : Hub = c.args.self.now in
    let n = c.len.result in
    let r : Recording = c.args.recording in
    let limits = sent-limits hub n r count c.len.ensures.bound c.requires.limits c.requires.fits in
    let was = state-of g.S.Site hub c.args.site.now c.requires.ready in
    let is : c.from_residual.result ≡ Err SiteFault = search rules in
    subst (λ (x : Result Reply HubError). StepsBy g.S.Site 0 (λ s. added (fact_sent s r) s) x hub c.args.site.now c.append.new.self c.append.new.site) (sym is)
    (fact-failed g.S.Site hub c.args.site.now c.append.new.site _ (λ s. added (fact_sent s r) s) c.requires.ready (limits was.state was.is_in)
    (sent-grows hub n r count c.len.ensures.bound c.requires.limits c.requires.fits) (sent-legal hub n r count c.len.ensures.bound c.requires.limits c.requires.fits)
    (λ t i told le here. g.met.S.Site.counts_now c.append.new.site t i told le here) c.append.new.self c.in_err-append.field-0.0 c.in_err-append.ensures.appends
    (ap (λ (h : Hub). h.last) c.in_err-append.ensures.failed.1) (ap (λ (h : Hub). h.limits) c.in_err-append.ensures.failed.1) (ap (λ (h : Hub). h.in_fault) c.in_err-append.ensures.failed.1))

pub sent-id-requires-clause-room : goal.sent-id-requires-clause-room
sent-id-requires-clause-room g c =
    let same : c.sent_recording.result ≡ c.args.recording = c.sent_recording.ensures _ _ _ refl in
    let history : c.append.new.self.history ≡ c.args.self.now.history = ap (λ (h : Hub). h.history) c.in_ok-append.ensures.kept in
    subst (λ (v : HistoryView). HasRoomFor c.sent_recording.result v) (sym history) (subst (λ (r : Recording). HasRoomFor r c.args.self.now.history) (sym same) c.requires.room.history)

pub sent-id-requires-clause-short : goal.sent-id-requires-clause-short
sent-id-requires-clause-short g c =
    let same : c.sent_recording.result ≡ c.args.recording = c.sent_recording.ensures _ _ _ refl in
    subst (λ (r : Recording). length r.calls ≤ 64) (sym same) (short-calls c.args.recording c.requires.limits)

pub returns-clause-steps : goal.returns-clause-steps
returns-clause-steps g c =
    let hub : Hub = c.args.self.now in
    let n = c.len.result in
    let r : Recording = c.args.recording in
    let mid : Hub = c.append.new.self in
    let count : c.len.result ≡ length hub.history.store.messages = c.len.ensures.value ∙ ap (λ (s : Stored). length s.messages) c.store.ensures in
    let bound = c.len.ensures.bound in
    let kept = c.in_ok-append.ensures.kept in
    let history : mid.history ≡ hub.history = ap (λ (h : Hub). h.history) kept in
    let last : mid.last ≡ hub.last = ap (λ (h : Hub). h.last) kept in
    let same : c.sent_recording.result ≡ r = c.sent_recording.ensures _ _ _ refl in
    let adds = adds-here mid.history hub.history c.sent-id.new.self mid.last hub.last c.sent_recording.result r history last same c.sent-id.ensures.adds in
    let limits = sent-limits hub n r count bound c.requires.limits c.requires.fits in
    let was = state-of g.S.Site hub c.args.site.now c.requires.ready in
    let new : Hub = record mid { history = c.sent-id.new.self } in
    let is : new ≡ record hub { journal = mid.journal; history = c.sent-id.new.self } = ap (λ (h : Hub). let x : Hub = record h { history = c.sent-id.new.self } in x) kept in
    let is_in : (s : State) → IsHubOf hub s → IsHubOf new (added (fact_sent s r) s).state = λ s h.
    subst (λ (x : Hub). IsHubOf x (added (fact_sent s r) s).state) (sym is)
    (sent-in hub n r count bound c.requires.limits c.requires.fits mid.journal c.sent-id.new.self c.in_ok-append.ensures.appends.journal c.in_ok-append.ensures.few adds s h) in
    fact-stands g.S.Site hub c.args.site.now c.append.new.site _ (λ s. added (fact_sent s r) s) c.requires.ready (limits was.state was.is_in)
    (sent-grows hub n r count bound c.requires.limits c.requires.fits) (sent-legal hub n r count bound c.requires.limits c.requires.fits)
    (λ t i told le here. g.met.S.Site.counts_now c.append.new.site t i told le here) new c.in_ok-append.field-0 c.in_ok-append.ensures.appends
    (ap (λ (h : Hub). h.log) kept) last (ap (λ (h : Hub). h.limits) kept) (ap (λ (h : Hub). h.in_fault) kept) is_in (Sent c.sent-id.result)
    (λ s h. ap Sent (c.sent-id.ensures.id ∙ ap (λ (v : HistoryView). length v.store.messages + 1) history ∙ ap (λ l. length l + 1) h.history.messages))
