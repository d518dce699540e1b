use Rattle.std.proofs.Common.{◌≡◌, ◌∙◌, ℕ, List, [], ◌∷◌, true, refl, sym, ap, subst, rules, Err}
use Rattle.std.specs.declared.result.Result.{Result}
use Rattle.qc_base.specs.declared.fact.Fact.{Fact}
use Rattle.qc_base.specs.declared.fact.Fact.TheVariants.{Moved}
use Rattle.qc_protocol.specs.declared.reply.Reply.{Reply}
use Rattle.qc_protocol.specs.declared.reply.Reply.TheVariants.{Moved as ReplyMoved}
use Rattle.qc_history.specs.Adding.{AddsFact, Always}
use Rattle.qc_history.specs.View.{HistoryView}
use Rattle.qc_machine.specs.Moving.{moved_by}
use Rattle.qc_machine.specs.State.{State}
use Rattle.qc_store.specs.Live.{are_live}
use Rattle.qc_hub.specs.declared.error.HubError.{HubError}
use Rattle.qc_hub.specs.declared.error.HubError.TheVariants.{SiteFault}
use Rattle.qc_hub.specs.declared.hub.Hub.{Hub}
use Rattle.qc_hub.specs.Calls.{StepsBy}
use Rattle.qc_hub.specs.Moving.{HasBatch}
use Rattle.qc_hub.specs.Stands.{IsHubOf}
use Rattle.qc_hub.proofs.Added.{fact-failed, fact-stands}
use Rattle.qc_hub.proofs.AddedBatch.{adds-batch, batch-can, batch-grows, batch-in, batch-legal, batch-limits, batch-live, has-batch}
use Rattle.qc_hub.proofs.Later.{state-of}
use Rattle.qc_hub.proofs.hub.Hub.add_batch.Goals as goal

pub append-requires-clause-stands : goal.append-requires-clause-stands
append-requires-clause-stands g c = (c.requires.ready.stands.sound c.requires.ready.no_fault).journal

pub append-requires-clause-can : goal.append-requires-clause-can
append-requires-clause-can g c =
    let sound = c.requires.ready.stands.sound c.requires.ready.no_fault in
    batch-can c.args.self.now c.args.fact.now c.requires.batch sound.state.state sound.state.is_in sound.ended

pub append-requires-clause-counted : goal.append-requires-clause-counted
append-requires-clause-counted g c = (c.requires.ready.stands.sound c.requires.ready.no_fault).state.is_in.fit.counted

pub returns-in_err-append-clause-steps : goal.returns-in_err-append-clause-steps
returns-in_err-append-clause-steps g c =
    let hub : Hub = c.args.self.now in
    let was = state-of g.S.Site hub c.args.site.now c.requires.ready in
    let is : c.from_residual.result ≡ Err SiteFault = search rules in
    subst (λ (x : Result Reply HubError). StepsBy g.S.Site 0 (λ s. moved_by (c.args.fact.now ∷ []) c.args.count s) x hub c.args.site.now c.append.new.self c.append.new.site) (sym is)
    (fact-failed g.S.Site hub c.args.site.now c.append.new.site c.args.fact.now (λ s. moved_by (c.args.fact.now ∷ []) c.args.count s) c.requires.ready (batch-limits hub c.args.fact.now c.requires.batch was.state was.is_in)
    (batch-grows hub c.args.fact.now c.requires.batch c.args.count) (batch-legal hub c.args.fact.now c.requires.batch)
    (λ t i told le here. g.met.S.Site.counts_now c.append.new.site t i told le here) c.append.new.self c.in_err-append.field-0.0 c.in_err-append.ensures.appends
    (ap (λ (h : Hub). h.last) c.in_err-append.ensures.failed.1) (ap (λ (h : Hub). h.limits) c.in_err-append.ensures.failed.1) (ap (λ (h : Hub). h.in_fault) c.in_err-append.ensures.failed.1))

pub move_batch-requires-clause-live : goal.move_batch-requires-clause-live
move_batch-requires-clause-live g c =
    let hub : Hub = c.args.self.now in
    let mid : Hub = c.append.new.self in
    let b = c.requires.batch in
    let was = state-of g.S.Site hub c.args.site.now c.requires.ready in
    let history : mid.history ≡ hub.history = ap (λ (h : Hub). h.history) c.in_ok-append.ensures.kept in
    let told : Moved b.app b.queue hub.last b.ids ≡ Moved c.in-Moved.field-0 c.in-Moved.queue c.in-Moved.at c.as_slice.result.now =
    sym b.is ∙ c.in-Moved.is ∙ ap (λ (ids : List ℕ). Moved c.in-Moved.field-0 c.in-Moved.queue c.in-Moved.at ids) (sym c.as_slice.ensures) in
    let same : b.ids ≡ c.as_slice.result.now = cc in
    subst (λ (ids : List ℕ). are_live ids mid.history.store.messages ≡ true) same
    (subst (λ (v : HistoryView). are_live b.ids v.store.messages ≡ true) (sym history) (batch-live hub c.args.fact.now b was.state was.is_in))

pub returns-clause-steps : goal.returns-clause-steps
returns-clause-steps g c =
    let hub : Hub = c.args.self.now in
    let fact : Fact = c.args.fact.now in
    let b = c.requires.batch in
    let mid : Hub = c.append.new.self in
    let kept = c.in_ok-append.ensures.kept in
    let history : mid.history ≡ hub.history = ap (λ (h : Hub). h.history) kept in
    let told : fact ≡ Moved c.in-Moved.field-0 c.in-Moved.queue c.in-Moved.at c.as_slice.result.now =
    c.in-Moved.is ∙ ap (λ (ids : List ℕ). Moved c.in-Moved.field-0 c.in-Moved.queue c.in-Moved.at ids) (sym c.as_slice.ensures) in
    let adds : AddsFact fact Always hub.history c.move_batch.new.self = adds-batch fact hub.history mid.history c.move_batch.new.self _ told history (c.move_batch.ensures c.in-Moved.field-0) in
    let was = state-of g.S.Site hub c.args.site.now c.requires.ready in
    let new : Hub = record mid { history = c.move_batch.new.self } in
    let is : new ≡ record hub { journal = mid.journal; history = c.move_batch.new.self } = ap (λ (h : Hub). let x : Hub = record h { history = c.move_batch.new.self } in x) kept in
    let is_in : (s : State) → IsHubOf hub s → IsHubOf new (moved_by (fact ∷ []) c.args.count s).state = λ s h.
    subst (λ (x : Hub). IsHubOf x (moved_by (fact ∷ []) c.args.count s).state) (sym is)
    (batch-in hub fact b mid.journal c.move_batch.new.self c.in_ok-append.ensures.appends.journal c.in_ok-append.ensures.few adds s h) in
    fact-stands g.S.Site hub c.args.site.now c.append.new.site fact (λ s. moved_by (fact ∷ []) c.args.count s) c.requires.ready (batch-limits hub fact b was.state was.is_in)
    (batch-grows hub fact b c.args.count) (batch-legal hub fact b)
    (λ t i told le here. g.met.S.Site.counts_now c.append.new.site t i told le here) new c.in_ok-append.field-0 c.in_ok-append.ensures.appends
    (ap (λ (h : Hub). h.log) kept) (ap (λ (h : Hub). h.last) kept) (ap (λ (h : Hub). h.limits) kept) (ap (λ (h : Hub). h.in_fault) kept) is_in (ReplyMoved c.args.count) (λ s h. refl)

pub returns-clause-added : goal.returns-clause-added
returns-clause-added g c =
    let hub : Hub = c.args.self.now in
    let fact : Fact = c.args.fact.now in
    let mid : Hub = c.append.new.self in
    let kept = c.in_ok-append.ensures.kept in
    let history : mid.history ≡ hub.history = ap (λ (h : Hub). h.history) kept in
    let told : fact ≡ Moved c.in-Moved.field-0 c.in-Moved.queue c.in-Moved.at c.as_slice.result.now =
    c.in-Moved.is ∙ ap (λ (ids : List ℕ). Moved c.in-Moved.field-0 c.in-Moved.queue c.in-Moved.at ids) (sym c.as_slice.ensures) in
    let adds : AddsFact fact Always hub.history c.move_batch.new.self = adds-batch fact hub.history mid.history c.move_batch.new.self _ told history (c.move_batch.ensures c.in-Moved.field-0) in
    let new : Hub = record mid { history = c.move_batch.new.self } in
    let is : new ≡ record hub { journal = mid.journal; history = c.move_batch.new.self } = ap (λ (h : Hub). let x : Hub = record h { history = c.move_batch.new.self } in x) kept in
    subst (λ (x : Hub). HasBatch fact hub x) (sym is)
    (has-batch hub fact c.requires.batch mid.journal c.move_batch.new.self c.in_ok-append.ensures.appends.journal c.in_ok-append.ensures.few adds)
