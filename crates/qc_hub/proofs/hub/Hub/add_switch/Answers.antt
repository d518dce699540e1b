use Rattle.std.proofs.Common.{◌≡◌, ◌≤◌, refl, sym, ap, subst, rules, Err}
use Rattle.std.specs.declared.result.Result.{Result}
use Rattle.qc_protocol.specs.declared.reply.Reply.{Reply}
use Rattle.qc_protocol.specs.declared.reply.Reply.TheVariants.{Switched}
use Rattle.qc_history.specs.View.{HistoryView}
use Rattle.qc_machine.specs.State.{State}
use Rattle.qc_machine.specs.Switching.{switch_step}
use Rattle.qc_hub.specs.declared.error.HubError.{HubError}
use Rattle.qc_hub.specs.declared.error.HubError.TheVariants.{SiteFault}
use Rattle.qc_hub.specs.declared.hub.Hub.{Hub}
use Rattle.qc_hub.specs.Calls.{StepsBy}
use Rattle.qc_hub.specs.Stands.{IsHubOf}
use Rattle.qc_hub.proofs.Added.{fact-failed, fact-stands}
use Rattle.qc_hub.proofs.AddedSwitch.{adds-switch, switch-can, switch-grows, switch-in, switch-legal, switch-limits}
use Rattle.qc_hub.proofs.Later.{state-of}
use Rattle.qc_hub.proofs.hub.Hub.add_switch.Goals as goal

pub append-requires-clause-stands : goal.append-requires-clause-stands
append-requires-clause-stands g c = (c.requires.ready.stands.sound c.requires.ready.no_fault).journal

pub append-requires-clause-can : goal.append-requires-clause-can
append-requires-clause-can g c =
    let sound = c.requires.ready.stands.sound c.requires.ready.no_fault in
    switch-can c.args.self.now c.args.app c.args.on c.requires.known sound.state.state sound.state.is_in sound.ended c.requires.journal_room

pub append-requires-clause-counted : goal.append-requires-clause-counted
append-requires-clause-counted g c = (c.requires.ready.stands.sound c.requires.ready.no_fault).state.is_in.fit.counted

pub returns-in_err-append-clause-steps : goal.returns-in_err-append-clause-steps
returns-in_err-append-clause-steps g c =
    let hub : Hub = c.args.self.now in
    let was = state-of g.S.Site hub c.args.site.now c.requires.ready in
    let is : c.from_residual.result ≡ Err SiteFault = search rules in
    subst (λ (x : Result Reply HubError). StepsBy g.S.Site 0 (λ s. switch_step s c.args.app c.args.on) x hub c.args.site.now c.append.new.self c.append.new.site) (sym is)
    (fact-failed g.S.Site hub c.args.site.now c.append.new.site _ (λ s. switch_step s c.args.app c.args.on) c.requires.ready (switch-limits hub c.args.app c.args.on c.requires.known was.state was.is_in)
    (switch-grows hub c.args.app c.args.on c.requires.known) (switch-legal hub c.args.app c.args.on c.requires.known)
    (λ t i told le here. g.met.S.Site.counts_now c.append.new.site t i told le here) c.append.new.self c.in_err-append.field-0.0 c.in_err-append.ensures.appends
    (ap (λ (h : Hub). h.last) c.in_err-append.ensures.failed.1) (ap (λ (h : Hub). h.limits) c.in_err-append.ensures.failed.1) (ap (λ (h : Hub). h.in_fault) c.in_err-append.ensures.failed.1))

pub switch-requires : goal.switch-requires
switch-requires g c =
    let history : c.append.new.self.history ≡ c.args.self.now.history = ap (λ (h : Hub). h.history) c.in_ok-append.ensures.kept in
    subst (λ (v : HistoryView). 1 ≤ v.off.room) (sym history) c.requires.room

pub returns-clause-steps : goal.returns-clause-steps
returns-clause-steps g c =
    let hub : Hub = c.args.self.now in
    let app = c.args.app in
    let on = c.args.on in
    let known = c.requires.known in
    let mid : Hub = c.append.new.self in
    let kept = c.in_ok-append.ensures.kept in
    let history : mid.history ≡ hub.history = ap (λ (h : Hub). h.history) kept in
    let last : mid.last ≡ hub.last = ap (λ (h : Hub). h.last) kept in
    let adds = adds-switch mid.history hub.history c.switch.new.self app on mid.last hub.last history last c.switch.ensures in
    let was = state-of g.S.Site hub c.args.site.now c.requires.ready in
    let new : Hub = record mid { history = c.switch.new.self } in
    let is : new ≡ record hub { journal = mid.journal; history = c.switch.new.self } = ap (λ (h : Hub). let x : Hub = record h { history = c.switch.new.self } in x) kept in
    let is_in : (s : State) → IsHubOf hub s → IsHubOf new (switch_step s app on).state = λ s h.
    subst (λ (x : Hub). IsHubOf x (switch_step s app on).state) (sym is)
    (switch-in hub app on known mid.journal c.switch.new.self c.in_ok-append.ensures.appends.journal c.in_ok-append.ensures.few adds s h) in
    fact-stands g.S.Site hub c.args.site.now c.append.new.site _ (λ s. switch_step s app on) c.requires.ready (switch-limits hub app on known was.state was.is_in)
    (switch-grows hub app on known) (switch-legal hub app on known)
    (λ t i told le here. g.met.S.Site.counts_now c.append.new.site t i told le here) new c.in_ok-append.field-0 c.in_ok-append.ensures.appends
    (ap (λ (h : Hub). h.log) kept) last (ap (λ (h : Hub). h.limits) kept) (ap (λ (h : Hub). h.in_fault) kept) is_in (Switched app on) (λ s h. refl)
