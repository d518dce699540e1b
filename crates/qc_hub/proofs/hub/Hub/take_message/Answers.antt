use Rattle.std.proofs.Common.{◌≡◌, ◌∙◌, refl, sym, ap, subst, Some, Ok, Err}
use Rattle.std.specs.declared.result.Result.{Result}
use Rattle.qc_catalogue.specs.declared.catalogue.Catalogue.{Catalogue}
use Rattle.qc_protocol.specs.declared.reply.Reply.{Reply}
use Rattle.qc_protocol.specs.declared.order.Act.TheVariants.{Take}
use Rattle.qc_history.specs.View.{HistoryView}
use Rattle.qc_txn.specs.Attempt.{AttemptView}
use Rattle.qc_machine.specs.State.{State, at_moment, set_slot}
use Rattle.qc_machine.specs.Step.{step}
use Rattle.qc_machine.specs.Steps.{Step}
use Rattle.qc_players.specs.Orders.{busy_for}
use Rattle.qc_players.specs.Players.{ArePlayedBy, IsApart, IsPlayedBy, held_of, players_of}
use Rattle.qc_players.proofs.Slots.{put-played}
use Rattle.qc_hub.specs.declared.error.HubError.{HubError}
use Rattle.qc_hub.specs.declared.error.HubError.TheVariants.{NoMemory}
use Rattle.qc_hub.specs.declared.hub.Hub.{Hub}
use Rattle.qc_hub.specs.Calls.{StepsInMemory, taking}
use Rattle.qc_hub.specs.declared.taking.NotBegun.{NotBegun}
use Rattle.qc_hub.specs.Stands.{IsHubOf}
use Rattle.qc_hub.specs.Taking.{Begins, last_after}
use Rattle.qc_hub.proofs.Begun.{begun-apart}
use Rattle.qc_hub.proofs.Fit.{same-catalogue}
use Rattle.qc_hub.proofs.Later.{later-hub, since-set}
use Rattle.qc_hub.proofs.OnPlayers.{take-in-memory}
use Rattle.qc_hub.proofs.Taken.{free-player}
use Rattle.qc_hub.proofs.Unbegun.{late-starved, unbegun-in-memory}
use Rattle.qc_hub.proofs.hub.Hub.take_message.Goals as goal

pub begin-requires : goal.begin-requires
begin-requires c =
    let hub : Hub = c.args.self.now in
    let s = c.requires.0 in
    (at_moment c.args.at s, later-hub hub (record hub { last = c.later-self.result }) c.args.at s (since-set hub c.args.at c.later-self.result c.later-self.ensures.value c.later-self.ensures.bound) c.requires.1)

pub returns-in-Err : goal.returns-in-Err
returns-in-Err c =
    let hub : Hub = c.args.self.now in
    let used = c.later-self.result in
    let mid : Hub = record hub { last = used } in
    let why : NotBegun = c.in-Err.why in
    let history : HistoryView = c.begin.new.self.history in
    let new : Hub = record hub { history = history; last = last_after why hub.last used } in
    let begins : Begins c.args.player c.args.app.now (Err why) mid c.begin.new.self = c.in-Err.ensures in
    let is : c.not_begun.new.self ≡ new = c.not_begun.ensures.last ∙ ap (λ (h : Hub). let x : Hub = record h { last = last_after why hub.last h.last } in x) begins.same in
    let by : State → Step = λ s. step s (taking c.args.at c.args.player c.args.app.now) in
    subst (λ (x : Hub). StepsInMemory c.args.at by c.not_begun.result hub x) (sym is)
    (subst (λ (r : Result Reply HubError). StepsInMemory c.args.at by r hub new) (sym c.not_begun.ensures.told)
    (unbegun-in-memory hub c.args.at c.args.player used c.args.app.now c.later-self.ensures.value c.later-self.ensures.bound history begins.kept (Take c.args.player c.args.app.now) (λ s. refl) why begins.others))

pub hold-requires-clause-free : goal.hold-requires-clause-free
hold-requires-clause-free c =
    let hub : Hub = c.args.self.now in
    let mid : Hub = record hub { last = c.later-self.result } in
    let n = c.args.player in
    let app = c.args.app.now in
    let begins : Begins n app (Ok c.in-Ok.attempt) mid c.begin.new.self = c.in-Ok.ensures in
    let m : State = at_moment c.args.at c.requires.0 in
    let there : IsHubOf mid m = later-hub hub mid c.args.at c.requires.0 (since-set hub c.args.at c.later-self.result c.later-self.ensures.value c.later-self.ensures.bound) c.requires.1 in
    ap (λ (h : Hub). busy_for n (players_of h.players)) begins.same ∙ ap (busy_for n) there.players ∙ free-player m n app (begins.begun m there).free

pub hold-requires-clause-apart : goal.hold-requires-clause-apart
hold-requires-clause-apart c =
    let hub : Hub = c.args.self.now in
    let mid : Hub = record hub { last = c.later-self.result } in
    let n = c.args.player in
    let app = c.args.app.now in
    let begins : Begins n app (Ok c.in-Ok.attempt) mid c.begin.new.self = c.in-Ok.ensures in
    let m : State = at_moment c.args.at c.requires.0 in
    let there : IsHubOf mid m = later-hub hub mid c.args.at c.requires.0 (since-set hub c.args.at c.later-self.result c.later-self.ensures.value c.later-self.ensures.bound) c.requires.1 in
    subst (λ (h : Hub). IsApart (players_of h.players) (held_of c.in-Ok.attempt)) (sym begins.same) (begun-apart mid m there n app c.in-Ok.attempt (begins.begun m there))

pub returns-in_default : goal.returns-in_default
returns-in_default c =
    let hub : Hub = c.args.self.now in
    let used = c.later-self.result in
    let mid : Hub = record hub { last = used } in
    let begun : Hub = c.begin.new.self in
    let begins : Begins c.args.player c.args.app.now (Ok c.in-Ok.attempt) mid begun = c.in-Ok.ensures in
    let by : State → Step = λ s. step s (taking c.args.at c.args.player c.args.app.now) in
    let is : record begun { players = c.hold.new.self } ≡ record hub { history = begun.history; last = used } = (λ i. record begun { players = c.in_default.ensures.same i }) ∙ begins.same in
    subst (λ (x : Hub). StepsInMemory c.args.at by (Err NoMemory) hub x) (sym is)
    (late-starved hub c.args.at c.args.player used c.args.app.now c.later-self.ensures.value c.later-self.ensures.bound begun.history begins.kept by)

pub returns : goal.returns
returns c =
    let hub : Hub = c.args.self.now in
    let used = c.later-self.result in
    let mid : Hub = record hub { last = used } in
    let begun : Hub = c.begin.new.self in
    let n = c.args.player in
    let app = c.args.app.now in
    let a : AttemptView = c.in-Ok.attempt in
    let slots = c.hold.new.self in
    let begins : Begins n app (Ok a) mid begun = c.in-Ok.ensures in
    let by : State → Step = λ s. step s (taking c.args.at n app) in
    let new : Hub = record hub { history = begun.history; players = slots; last = used } in
    let is : record begun { players = slots } ≡ new = ap (λ (h : Hub). let x : Hub = record h { players = slots } in x) begins.same in
    let held : slots ≡ set_slot n (Some a) hub.players = c.in-Ok-hold.ensures.held ∙ ap (λ (h : Hub). set_slot n (Some a) h.players) begins.same in
    let played : IsPlayedBy hub.history.catalogue a = subst (λ (x : Catalogue). IsPlayedBy x a) (same-catalogue hub.history begun.history begins.kept) begins.played in
    subst (λ (x : Hub). StepsInMemory c.args.at by (Ok c.taken-taken.result) hub x) (sym is)
    (subst (λ (r : Reply). StepsInMemory c.args.at by (Ok r) hub new) (sym c.taken-taken.ensures)
    (take-in-memory hub c.args.at n used app c.later-self.ensures.value c.later-self.ensures.bound begun.history begins.kept a begins.begun slots held played.count
    (subst (ArePlayedBy hub.history.catalogue) (sym held) (put-played hub.history.catalogue hub.players n a c.requires.1.fit.played played)) begins.places))
