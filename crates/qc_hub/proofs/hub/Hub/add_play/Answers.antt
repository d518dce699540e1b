use Rattle.std.proofs.Common.{◌≡◌, ◌∙◌, [], sym, ap, subst, rules, drop, Ok, Err}
use Rattle.std.specs.declared.result.Result.{Result}
use Rattle.qc_base.specs.declared.fact.Fact.{Fact}
use Rattle.qc_catalogue.specs.declared.catalogue.Catalogue.{Catalogue}
use Rattle.qc_journal.specs.Calls.{AppendsFact}
use Rattle.qc_journal.specs.Journal.{CanAppend}
use Rattle.qc_protocol.specs.declared.reply.Reply.{Reply}
use Rattle.qc_history.specs.Playing.{fact_ended}
use Rattle.qc_rows.specs.Places.{are_reserved, rows_seen}
use Rattle.qc_store.specs.Live.{is_waiting}
use Rattle.qc_txn.specs.Attempt.{AttemptView, PlaysBy, decided}
use Rattle.qc_txn.specs.Ends.{PlaysAll}
use Rattle.qc_txn.specs.Parts.{parts_of}
use Rattle.qc_machine.specs.Playing.{play_in, play_reply}
use Rattle.qc_machine.specs.State.{State}
use Rattle.qc_machine.specs.Steps.{Step}
use Rattle.qc_players.specs.Players.{held_of}
use Rattle.qc_hub.specs.declared.error.HubError.{HubError}
use Rattle.qc_hub.specs.declared.error.HubError.TheVariants.{SiteFault}
use Rattle.qc_hub.specs.declared.hub.Hub.{Hub}
use Rattle.qc_hub.specs.Calls.{StepsBy}
use Rattle.qc_hub.specs.Stands.{IsHubOf}
use Rattle.qc_hub.proofs.Added.{fact-failed, fact-stands}
use Rattle.qc_hub.proofs.AddedEnd.{adds-end}
use Rattle.qc_hub.proofs.AddedPlay.{play-can, play-grows, play-is, play-legal, play-limits, play-places, play-replies, play-starts, play-waits}
use Rattle.qc_hub.proofs.Later.{state-of}
use Rattle.qc_hub.proofs.hub.Hub.add_play.Goals as goal

pub run_left-requires-clause-goes_on : goal.run_left-requires-clause-goes_on
run_left-requires-clause-goes_on g c =
    let was = state-of g.S.Site c.args.self.now c.args.site.now c.requires.ready in
    play-starts c.args.self.now c.args.player c.args.attempt c.requires.begun was.state was.is_in

pub run_left-requires-clause-plays : goal.run_left-requires-clause-plays
run_left-requires-clause-plays g c = subst (λ (x : Catalogue). PlaysBy x c.args.attempt) (sym c.catalogue.ensures) c.requires.begun.played.plays

pub append-requires-clause-stands : goal.append-requires-clause-stands
append-requires-clause-stands g c = (c.requires.ready.stands.sound c.requires.ready.no_fault).journal

pub append-requires-clause-can : goal.append-requires-clause-can
append-requires-clause-can g c =
    let hub : Hub = c.args.self.now in
    let n = c.args.player in
    let a : AttemptView = c.args.attempt in
    let b : AttemptView = c.run_left.new.self in
    let sound = c.requires.ready.stands.sound c.requires.ready.no_fault in
    let was = sound.state in
    let plays = subst (λ (x : Catalogue). PlaysAll (drop a.calls (parts_of x a.recording a.kind)) a b) c.catalogue.ensures c.run_left.ensures.ran in
    subst (λ (f : Fact). CanAppend hub.journal f) (sym (c.end_fact-fact.ensures ∙ ap (fact_ended hub.last) c.decide.ensures.decided))
    (play-can hub n a b c.requires.begun plays was.state was.is_in sound.ended)

pub append-requires-clause-counted : goal.append-requires-clause-counted
append-requires-clause-counted g c = (c.requires.ready.stands.sound c.requires.ready.no_fault).state.is_in.fit.counted

pub returns-in_err-append-clause-steps : goal.returns-in_err-append-clause-steps
returns-in_err-append-clause-steps g c =
    let hub : Hub = c.args.self.now in
    let n = c.args.player in
    let a : AttemptView = c.args.attempt in
    let b : AttemptView = c.run_left.new.self in
    let was = state-of g.S.Site hub c.args.site.now c.requires.ready in
    let begun = c.requires.begun in
    let plays = subst (λ (x : Catalogue). PlaysAll (drop a.calls (parts_of x a.recording a.kind)) a b) c.catalogue.ensures c.run_left.ensures.ran in
    let by : State → Step = λ s. play_in s n (held_of a) in
    let new : Hub = c.append.new.self in
    let failed = c.in_err-append.ensures.failed.1 in
    let fact : Fact = fact_ended hub.last (decided b) in
    let told : c.end_fact-fact.result ≡ fact = c.end_fact-fact.ensures ∙ ap (fact_ended hub.last) c.decide.ensures.decided in
    let appends = subst (λ (f : Fact). AppendsFact g.S.Site {A = Unit {0}} {E = HubError} f (Err c.in_err-append.field-0.0) hub.journal c.args.site.now new.journal c.append.new.site) told c.in_err-append.ensures.appends in
    let same : c.from_residual.result ≡ Err SiteFault = search rules in
    subst (λ (r : Result Reply HubError). StepsBy g.S.Site 0 by r hub c.args.site.now new c.append.new.site) (sym same)
    (fact-failed g.S.Site hub c.args.site.now c.append.new.site fact by c.requires.ready (play-limits hub n a b begun plays was.state was.is_in)
    (play-grows hub n a b begun plays) (play-legal hub n a b begun plays)
    (λ t i told le here. g.met.S.Site.counts_now c.append.new.site t i told le here) new c.in_err-append.field-0.0 appends
    (ap (λ (h : Hub). h.last) failed) (ap (λ (h : Hub). h.limits) failed) (ap (λ (h : Hub). h.in_fault) failed))

pub end-requires-clause-waiting : goal.end-requires-clause-waiting
end-requires-clause-waiting g c =
    let hub : Hub = c.args.self.now in
    let a : AttemptView = c.args.attempt in
    let b : AttemptView = c.run_left.new.self in
    let was = state-of g.S.Site hub c.args.site.now c.requires.ready in
    let plays = subst (λ (x : Catalogue). PlaysAll (drop a.calls (parts_of x a.recording a.kind)) a b) c.catalogue.ensures c.run_left.ensures.ran in
    (λ i. is_waiting (c.decide.ensures.decided i).id (c.in_ok-append.ensures.kept i).history.store.messages) ∙ play-waits hub c.args.player a b c.requires.begun plays was.state was.is_in

pub end-requires-clause-reserved : goal.end-requires-clause-reserved
end-requires-clause-reserved g c =
    let hub : Hub = c.args.self.now in
    let a : AttemptView = c.args.attempt in
    let b : AttemptView = c.run_left.new.self in
    let was = state-of g.S.Site hub c.args.site.now c.requires.ready in
    let plays = subst (λ (x : Catalogue). PlaysAll (drop a.calls (parts_of x a.recording a.kind)) a b) c.catalogue.ensures c.run_left.ensures.ran in
    (λ i. are_reserved (rows_seen (c.decide.ensures.decided i).play.view) (c.in_ok-append.ensures.kept i).history.tables.places) ∙ play-places hub c.args.player a b c.requires.begun plays was.state was.is_in

pub returns-clause-steps : goal.returns-clause-steps
returns-clause-steps g c =
    let hub : Hub = c.args.self.now in
    let n = c.args.player in
    let a : AttemptView = c.args.attempt in
    let b : AttemptView = c.run_left.new.self in
    let was = state-of g.S.Site hub c.args.site.now c.requires.ready in
    let begun = c.requires.begun in
    let plays = subst (λ (x : Catalogue). PlaysAll (drop a.calls (parts_of x a.recording a.kind)) a b) c.catalogue.ensures c.run_left.ensures.ran in
    let by : State → Step = λ s. play_in s n (held_of a) in
    let mid : Hub = c.append.new.self in
    let kept = c.in_ok-append.ensures.kept in
    let ended = c.decide.ensures.decided in
    let fact : Fact = fact_ended hub.last (decided b) in
    let told : c.end_fact-fact.result ≡ fact = c.end_fact-fact.ensures ∙ ap (fact_ended hub.last) ended in
    let appends = subst (λ (f : Fact). AppendsFact g.S.Site {A = Unit {0}} {E = HubError} f (Ok c.in_ok-append.field-0) hub.journal c.args.site.now mid.journal c.append.new.site) told c.in_ok-append.ensures.appends in
    let adds = adds-end mid.history hub.history c.end.new.self mid.last hub.last c.decide.new.self (decided b) (ap (λ (h : Hub). h.history) kept) (ap (λ (h : Hub). h.last) kept) ended c.end.ensures in
    let new : Hub = record mid { history = c.end.new.self } in
    let now : new ≡ record hub { journal = mid.journal; history = c.end.new.self } = ap (λ (h : Hub). let x : Hub = record h { history = c.end.new.self } in x) kept in
    let is_in : (s : State) → IsHubOf hub s → IsHubOf new (by s).state = λ s h.
    subst (λ (x : Hub). IsHubOf x (by s).state) (sym now)
    (play-is hub n a b begun plays s h mid.journal c.end.new.self appends.journal c.in_ok-append.ensures.few adds) in
    fact-stands g.S.Site hub c.args.site.now c.append.new.site fact by c.requires.ready (play-limits hub n a b begun plays was.state was.is_in)
    (play-grows hub n a b begun plays) (play-legal hub n a b begun plays)
    (λ t i told le here. g.met.S.Site.counts_now c.append.new.site t i told le here) new c.in_ok-append.field-0 appends
    (ap (λ (h : Hub). h.log) kept) (ap (λ (h : Hub). h.last) kept) (ap (λ (h : Hub). h.limits) kept) (ap (λ (h : Hub). h.in_fault) kept) is_in c.play_reply.result
    (λ s h. play-replies hub n a b begun plays s h c.play_reply.result (c.play_reply.ensures ∙ (λ i. play_reply (held_of (ended i)) [] (ended i).why)))
