use Rattle.std.proofs.Common.{◌≡◌, ◌∙◌, refl, sym, ap, subst, Ok, Err}
use Rattle.std.specs.declared.result.Result.{Result}
use Rattle.qc_protocol.specs.declared.order.Act.TheVariants.{Play}
use Rattle.qc_protocol.specs.declared.reply.Reply.{Reply}
use Rattle.qc_history.specs.View.{HistoryView}
use Rattle.qc_txn.specs.Attempt.{AttemptView}
use Rattle.qc_machine.specs.Playing.{play_in}
use Rattle.qc_machine.specs.State.{State, at_moment}
use Rattle.qc_machine.specs.Step.{step}
use Rattle.qc_machine.specs.Steps.{Step}
use Rattle.qc_players.specs.Players.{held_of}
use Rattle.qc_hub.specs.declared.error.HubError.{HubError}
use Rattle.qc_hub.specs.declared.hub.Hub.{Hub}
use Rattle.qc_hub.specs.declared.taking.NotBegun.{NotBegun}
use Rattle.qc_hub.specs.Calls.{IsReady, playing, StepsInMemory}
use Rattle.qc_hub.specs.Stands.{IsHubOf}
use Rattle.qc_hub.specs.Taking.{Begins, IsBegun, last_after}
use Rattle.qc_hub.proofs.Calling.{behind, handed_on}
use Rattle.qc_hub.proofs.InMemory.{in_memory}
use Rattle.qc_hub.proofs.Later.{Later, Since, later-hub, since-ready, since-room, since-set, state-of, took-history}
use Rattle.qc_hub.proofs.Unbegun.{begun-here, play-alike, play-steps, unbegun-in-memory}
use Rattle.qc_hub.proofs.hub.Hub.play.Goals as goal

pub begin-requires : goal.begin-requires
begin-requires g c =
    let hub : Hub = c.args.self.now in
    let was = state-of g.S.Site hub c.args.site.now c.requires in
    let since : Since hub (record hub { last = c.later-self.result }) c.args.at = since-set hub c.args.at c.later-self.result c.later-self.ensures.value c.later-self.ensures.bound in
    (at_moment c.args.at was.state, later-hub hub (record hub { last = c.later-self.result }) c.args.at was.state since was.is_in)

pub add_play-requires-clause-ready : goal.add_play-requires-clause-ready
add_play-requires-clause-ready g c =
    let hub : Hub = c.args.self.now in
    let mid : Hub = record hub { last = c.later-self.result } in
    let begun : Hub = c.begin.new.self in
    let begins : Begins c.args.player c.args.app.now (Ok c.in-Ok.attempt) mid begun = c.in-Ok.ensures in
    let since : Since hub mid c.args.at = since-set hub c.args.at c.later-self.result c.later-self.ensures.value c.later-self.ensures.bound in
    let on : Hub = record mid { history = begun.history } in
    subst (λ (x : Hub). IsReady g.S.Site x c.args.site.now) (sym begins.same)
    (since-ready g.S.Site hub on c.args.at c.args.site.now (since-room hub mid on c.args.at since (took-history mid begun.history begins.kept)) c.requires)

pub add_play-requires-clause-begun : goal.add_play-requires-clause-begun
add_play-requires-clause-begun g c =
    let hub : Hub = c.args.self.now in
    let used = c.later-self.result in
    let mid : Hub = record hub { last = used } in
    let begun : Hub = c.begin.new.self in
    let a : AttemptView = c.in-Ok.attempt in
    let begins : Begins c.args.player c.args.app.now (Ok a) mid begun = c.in-Ok.ensures in
    let was = state-of g.S.Site hub c.args.site.now c.requires in
    let since : Since hub mid c.args.at = since-set hub c.args.at used c.later-self.ensures.value c.later-self.ensures.bound in
    subst (IsBegun c.args.player a) (sym begins.same)
    (begun-here hub c.args.at c.args.player used c.args.app.now c.later-self.ensures.value c.later-self.ensures.bound begun.history begins.kept a begins.begun
    (later-hub hub mid c.args.at was.state since was.is_in).fit begins.played begins.places)

pub returns-in-Ok : goal.returns-in-Ok
returns-in-Ok g c =
    let hub : Hub = c.args.self.now in
    let at = c.args.at in
    let n = c.args.player in
    let app = c.args.app.now in
    let used = c.later-self.result in
    let mid : Hub = record hub { last = used } in
    let begun : Hub = c.begin.new.self in
    let a : AttemptView = c.in-Ok.attempt in
    let begins : Begins n app (Ok a) mid begun = c.in-Ok.ensures in
    let on : Hub = record mid { history = begun.history } in
    let since : Since hub on at = since-room hub mid on at (since-set hub at used c.later-self.ensures.value c.later-self.ensures.bound) (took-history mid begun.history begins.kept) in
    let by : State → Step = λ s. play_in s n (held_of a) in
    handed_on g.S.Site at (λ s. step s (playing at n app)) (λ s. by (at_moment at s)) c.add_play.result hub c.args.site.now c.add_play.new.self c.add_play.new.site
    (λ s h. play-steps hub at n used app c.later-self.ensures.value c.later-self.ensures.bound begun.history begins.kept a begins.begun s h)
    (behind g.S.Site at by (at_moment at) c.add_play.result hub begun c.args.site.now c.add_play.new.self c.add_play.new.site (subst (λ (x : Hub). Later hub x at) (sym begins.same) since.later)
    (λ s h. (subst (λ (x : Hub). IsHubOf x (at_moment at s)) (sym begins.same) (later-hub hub on at s since h), record { history = refl; rows = refl; journal = refl; log = refl })) c.add_play.ensures.takes_no_memory c.add_play.ensures.steps)

pub returns-in-Err : goal.returns-in-Err
returns-in-Err g c =
    let hub : Hub = c.args.self.now in
    let used = c.later-self.result in
    let mid : Hub = record hub { last = used } in
    let n = c.args.player in
    let app = c.args.app.now in
    let why : NotBegun = c.in-Err.why in
    let history : HistoryView = c.begin.new.self.history in
    let new : Hub = record hub { history = history; last = last_after why hub.last used } in
    let begins : Begins n app (Err why) mid c.begin.new.self = c.in-Err.ensures in
    let is : c.not_begun.new.self ≡ new = c.not_begun.ensures.last ∙ ap (λ (h : Hub). let x : Hub = record h { last = last_after why hub.last h.last } in x) begins.same in
    let by : State → Step = λ s. step s (playing c.args.at n app) in
    in_memory g.S.Site c.args.at by hub c.not_begun.new.self c.args.site.now c.not_begun.result (λ i told left. g.met.S.Site.only_now c.args.site.now i told left) c.requires
    (subst (λ (x : Hub). StepsInMemory c.args.at by c.not_begun.result hub x) (sym is)
    (subst (λ (r : Result Reply HubError). StepsInMemory c.args.at by r hub new) (sym c.not_begun.ensures.told)
    (unbegun-in-memory hub c.args.at n used app c.later-self.ensures.value c.later-self.ensures.bound history begins.kept (Play n app) (λ s. play-alike s n app) why begins.others)))
