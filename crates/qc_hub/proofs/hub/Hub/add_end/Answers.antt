use Rattle.std.proofs.Common.{◌≡◌, ◌∙◌, refl, sym, ap, subst, rules, Some, None, Ok, Err}
use Rattle.std.specs.declared.result.Result.{Result}
use Rattle.qc_base.specs.declared.fact.Fact.{Fact}
use Rattle.qc_journal.specs.Calls.{AppendsFact}
use Rattle.qc_journal.specs.Journal.{CanAppend}
use Rattle.qc_protocol.specs.declared.reply.Reply.{Reply}
use Rattle.qc_history.specs.Playing.{fact_ended}
use Rattle.qc_rows.specs.Places.{are_reserved, rows_seen}
use Rattle.qc_store.specs.Live.{is_waiting}
use Rattle.qc_txn.specs.Attempt.{AttemptView}
use Rattle.qc_machine.specs.Playing.{end_in, ended_attempt, on_held, why_ended}
use Rattle.qc_machine.specs.State.{State, HeldAttempt, in_slot}
use Rattle.qc_machine.specs.Steps.{Step}
use Rattle.qc_players.specs.declared.order.PlayerOrder.TheVariants.{End as end_order}
use Rattle.qc_players.specs.Players.{held_of, players_of}
use Rattle.qc_players.proofs.Refusals.{fit}
use Rattle.qc_hub.specs.declared.error.HubError.{HubError}
use Rattle.qc_hub.specs.declared.error.HubError.TheVariants.{SiteFault}
use Rattle.qc_hub.specs.declared.hub.Hub.{Hub}
use Rattle.qc_hub.specs.Calls.{StepsBy}
use Rattle.qc_hub.specs.Stands.{IsHubOf}
use Rattle.qc_hub.proofs.Added.{fact-failed, fact-stands}
use Rattle.qc_hub.proofs.AddedEnd.{adds-end, end-can, end-grows, end-in, end-legal, end-limits, end-places, end-replies, end-waits, slot-has}
use Rattle.qc_hub.proofs.Later.{state-of}
use Rattle.qc_hub.proofs.hub.Hub.add_end.Goals as goal

pub decide-requires : goal.decide-requires
decide-requires g c = c.requires.fit

pub attempt-requires : goal.attempt-requires
attempt-requires g c = (fit end_order c.args.player (players_of c.args.self.now.players) c.requires.fit).slot

pub unreachable-requires : goal.unreachable-requires
unreachable-requires g c =
    let hub : Hub = c.args.self.now in
    let n = c.args.player in
    let on = fit end_order n (players_of hub.players) c.requires.fit in
    let was = state-of g.S.Site hub c.args.site.now c.requires.ready in
    let ends = c.decide.ensures hub.history.catalogue on.attempt was.is_in.fit.played on.there in
    let nothing : None ≡ Some (ended_attempt (why_ended hub.history.catalogue on.attempt) on.attempt) =
    slot-has hub was.state was.is_in n (ended_attempt (why_ended hub.history.catalogue on.attempt) on.attempt) c.decide.new.self on.slot ends.players None c.in_default.ensures in
    absurd cc

pub append-requires-clause-stands : goal.append-requires-clause-stands
append-requires-clause-stands g c = (c.requires.ready.stands.sound c.requires.ready.no_fault).journal

pub append-requires-clause-can : goal.append-requires-clause-can
append-requires-clause-can g c =
    let hub : Hub = c.args.self.now in
    let n = c.args.player in
    let on = fit end_order n (players_of hub.players) c.requires.fit in
    let sound = c.requires.ready.stands.sound c.requires.ready.no_fault in
    let was = sound.state in
    let slots = c.decide.new.self in
    let a : AttemptView = c.in-Some.attempt.now in
    let v : HeldAttempt = ended_attempt (why_ended hub.history.catalogue on.attempt) on.attempt in
    let ends = c.decide.ensures hub.history.catalogue on.attempt was.is_in.fit.played on.there in
    let both : Some (held_of a) ≡ Some v = slot-has hub was.state was.is_in n v slots on.slot ends.players (Some a) c.in-Some.ensures in
    let is : held_of a ≡ v = cc in
    subst (λ (f : Fact). CanAppend hub.journal f) (sym c.end_fact-fact.ensures)
    (end-can hub n on.attempt on.there on.serves slots a ends.players is was.state was.is_in sound.ended)

pub append-requires-clause-counted : goal.append-requires-clause-counted
append-requires-clause-counted g c = (c.requires.ready.stands.sound c.requires.ready.no_fault).state.is_in.fit.counted

pub returns-in_err-append-clause-steps : goal.returns-in_err-append-clause-steps
returns-in_err-append-clause-steps g c =
    let hub : Hub = c.args.self.now in
    let n = c.args.player in
    let on = fit end_order n (players_of hub.players) c.requires.fit in
    let was = state-of g.S.Site hub c.args.site.now c.requires.ready in
    let slots = c.decide.new.self in
    let a : AttemptView = c.in-Some.attempt.now in
    let v : HeldAttempt = ended_attempt (why_ended hub.history.catalogue on.attempt) on.attempt in
    let ends = c.decide.ensures hub.history.catalogue on.attempt was.is_in.fit.played on.there in
    let both : Some (held_of a) ≡ Some v = slot-has hub was.state was.is_in n v slots on.slot ends.players (Some a) c.in-Some.ensures in
    let is : held_of a ≡ v = cc in
    let by : State → Step = λ s. on_held s (end_in s n) (in_slot n s.players) in
    let new : Hub = c.append.new.self in
    let failed = c.in_err-append.ensures.failed.1 in
    let fact : Fact = fact_ended hub.last a in
    let appends = subst (λ (f : Fact). AppendsFact g.S.Site {A = Unit {0}} {E = HubError} f (Err c.in_err-append.field-0.0) hub.journal c.args.site.now new.journal c.append.new.site) c.end_fact-fact.ensures c.in_err-append.ensures.appends in
    let same : c.from_residual.result ≡ Err SiteFault = search rules in
    subst (λ (r : Result Reply HubError). StepsBy g.S.Site 0 by r hub c.args.site.now new c.append.new.site) (sym same)
    (fact-failed g.S.Site hub c.args.site.now c.append.new.site fact by c.requires.ready (end-limits hub n on.attempt on.there on.serves slots a ends.players is was.state was.is_in)
    (end-grows hub n on.attempt on.there on.serves slots a ends.players is) (end-legal hub n on.attempt on.there on.serves slots a ends.players is)
    (λ t i told le here. g.met.S.Site.counts_now c.append.new.site t i told le here) new c.in_err-append.field-0.0 appends
    (ap (λ (h : Hub). h.last) failed) (ap (λ (h : Hub). h.limits) failed) (ap (λ (h : Hub). h.in_fault) failed))

pub end-requires-clause-waiting : goal.end-requires-clause-waiting
end-requires-clause-waiting g c =
    let hub : Hub = c.args.self.now in
    let n = c.args.player in
    let on = fit end_order n (players_of hub.players) c.requires.fit in
    let was = state-of g.S.Site hub c.args.site.now c.requires.ready in
    let slots = c.decide.new.self in
    let mid : Hub = c.append.new.self in
    let kept = c.in_ok-append.ensures.kept in
    let v : HeldAttempt = ended_attempt (why_ended hub.history.catalogue on.attempt) on.attempt in
    let ends = c.decide.ensures hub.history.catalogue on.attempt was.is_in.fit.played on.there in
    let a : AttemptView = c.in-Some-attempt.attempt.now in
    let there : Some a ≡ in_slot n slots = c.in-Some-attempt.ensures ∙ ap (λ (h : Hub). in_slot n h.players) kept in
    let both : Some (held_of a) ≡ Some v = slot-has hub was.state was.is_in n v slots on.slot ends.players (Some a) there in
    let is : held_of a ≡ v = cc in
    ap (λ (h : Hub). is_waiting a.id h.history.store.messages) kept ∙ end-waits hub n on.attempt on.there on.serves slots a ends.players is was.state was.is_in

pub end-requires-clause-reserved : goal.end-requires-clause-reserved
end-requires-clause-reserved g c =
    let hub : Hub = c.args.self.now in
    let n = c.args.player in
    let on = fit end_order n (players_of hub.players) c.requires.fit in
    let was = state-of g.S.Site hub c.args.site.now c.requires.ready in
    let slots = c.decide.new.self in
    let mid : Hub = c.append.new.self in
    let kept = c.in_ok-append.ensures.kept in
    let v : HeldAttempt = ended_attempt (why_ended hub.history.catalogue on.attempt) on.attempt in
    let ends = c.decide.ensures hub.history.catalogue on.attempt was.is_in.fit.played on.there in
    let a : AttemptView = c.in-Some-attempt.attempt.now in
    let there : Some a ≡ in_slot n slots = c.in-Some-attempt.ensures ∙ ap (λ (h : Hub). in_slot n h.players) kept in
    let both : Some (held_of a) ≡ Some v = slot-has hub was.state was.is_in n v slots on.slot ends.players (Some a) there in
    let is : held_of a ≡ v = cc in
    ap (λ (h : Hub). are_reserved (rows_seen a.play.view) h.history.tables.places) kept ∙ end-places hub n on.attempt on.there on.serves slots a ends.players is was.state was.is_in

pub returns-clause-steps : goal.returns-clause-steps
returns-clause-steps g c =
    let hub : Hub = c.args.self.now in
    let n = c.args.player in
    let on = fit end_order n (players_of hub.players) c.requires.fit in
    let was = state-of g.S.Site hub c.args.site.now c.requires.ready in
    let slots = c.decide.new.self in
    let mid : Hub = c.append.new.self in
    let kept = c.in_ok-append.ensures.kept in
    let v : HeldAttempt = ended_attempt (why_ended hub.history.catalogue on.attempt) on.attempt in
    let ends = c.decide.ensures hub.history.catalogue on.attempt was.is_in.fit.played on.there in
    let a : AttemptView = c.in-Some-attempt.attempt.now in
    let there : Some a ≡ in_slot n slots = c.in-Some-attempt.ensures ∙ ap (λ (h : Hub). in_slot n h.players) kept in
    let both : Some (held_of a) ≡ Some v = slot-has hub was.state was.is_in n v slots on.slot ends.players (Some a) there in
    let is : held_of a ≡ v = cc in
    let first : Some c.in-Some.attempt.now ≡ Some a = c.in-Some.ensures ∙ sym there in
    let same : c.in-Some.attempt.now ≡ a = cc in
    let by : State → Step = λ s. on_held s (end_in s n) (in_slot n s.players) in
    let fact : Fact = fact_ended hub.last a in
    let told : c.end_fact-fact.result ≡ fact = c.end_fact-fact.ensures ∙ ap (fact_ended hub.last) same in
    let appends = subst (λ (f : Fact). AppendsFact g.S.Site {A = Unit {0}} {E = HubError} f (Ok c.in_ok-append.field-0) hub.journal c.args.site.now mid.journal c.append.new.site) told c.in_ok-append.ensures.appends in
    let adds = adds-end mid.history hub.history c.end.new.self mid.last hub.last a a (ap (λ (h : Hub). h.history) kept) (ap (λ (h : Hub). h.last) kept) refl c.end.ensures in
    let new : Hub = record mid { history = c.end.new.self } in
    let now : new ≡ record hub { journal = mid.journal; history = c.end.new.self; players = slots } = ap (λ (h : Hub). let x : Hub = record h { history = c.end.new.self } in x) kept in
    let is_in : (s : State) → IsHubOf hub s → IsHubOf new (by s).state = λ s h.
    subst (λ (x : Hub). IsHubOf x (by s).state) (sym now)
    (end-in hub n on.attempt on.there on.serves slots a ends.players is s h mid.journal c.end.new.self appends.journal c.in_ok-append.ensures.few adds ends.played) in
    fact-stands g.S.Site hub c.args.site.now c.append.new.site fact by c.requires.ready (end-limits hub n on.attempt on.there on.serves slots a ends.players is was.state was.is_in)
    (end-grows hub n on.attempt on.there on.serves slots a ends.players is) (end-legal hub n on.attempt on.there on.serves slots a ends.players is)
    (λ t i told le here. g.met.S.Site.counts_now c.append.new.site t i told le here) new c.in_ok-append.field-0 appends
    (ap (λ (h : Hub). h.log) kept) (ap (λ (h : Hub). h.last) kept) (ap (λ (h : Hub). h.limits) kept) (ap (λ (h : Hub). h.in_fault) kept) is_in c.end_reply.result
    (λ s h. end-replies hub n on.attempt on.there on.serves slots a ends.players is s h c.end_reply.result c.end_reply.ensures)
