use Rattle.std.proofs.Common.{◌≡◌, ◌≤◌, ◌∙◌, max, [], sym, ap, subst, Some, None, option_map, Ok}
use Rattle.qc_protocol.specs.declared.reply.Reply.{Reply}
use Rattle.qc_protocol.specs.declared.reply.Reply.TheVariants.{Finished, Refused}
use Rattle.qc_machine.specs.Playing.{has_committed}
use Rattle.qc_machine.specs.Step.{step}
use Rattle.qc_players.specs.declared.order.PlayerOrder.TheVariants.{Phase as phase_order}
use Rattle.qc_players.specs.Orders.{unfit_for}
use Rattle.qc_players.specs.Players.{held_of, players_of}
use Rattle.qc_players.proofs.Refusals.{fit}
use Rattle.qc_players.proofs.Slots.{slot-held}
use Rattle.qc_txn.specs.Attempt.{AttemptView}
use Rattle.qc_hub.specs.Calls.{finishing, StepsInMemory}
use Rattle.qc_hub.specs.declared.hub.Hub.{Hub}
use Rattle.qc_hub.proofs.InMemory.{at_last, reply-in-memory, soon}
use Rattle.qc_hub.proofs.OnPlayers.{phase-in-memory, phase-unfit}
use Rattle.qc_hub.proofs.hub.Hub.let_go.Goals as goal

pub returns-in-Some : goal.returns-in-Some
returns-in-Some c =
    let hub : Hub = c.args.self.now in
    let le : max c.args.at hub.last ≤ 1000000000000 = soon c.args.at hub.last c.later-self.result c.later-self.ensures.value c.later-self.ensures.bound in
    reply-in-memory c.args.at _ hub _ (Refused c.in-Some.refusal) (at_last hub _ _ c.later-self.ensures.value) le
    (λ s h. phase-unfit hub s h c.args.at c.args.player c.in-Some.refusal (sym c.unfit.ensures ∙ c.in-Some.is))

pub returns-in_default-release : goal.returns-in_default-release
returns-in_default-release c =
    let hub : Hub = c.args.self.now in
    let on = fit phase_order c.args.player (players_of hub.players) (sym c.unfit.ensures ∙ c.in_default.is) in
    let nothing : None ≡ Some on.attempt = ap (option_map held_of) c.in_default-release.ensures.released ∙ sym (slot-held hub.players c.args.player) ∙ on.there in
    absurd cc

pub returns : goal.returns
returns c =
    let hub : Hub = c.args.self.now in
    let none : unfit_for phase_order c.args.player (players_of hub.players) ≡ None = sym c.unfit.ensures ∙ c.in_default.is in
    let on = fit phase_order c.args.player (players_of hub.players) none in
    let a : AttemptView = c.in-Some-release.attempt in
    let both : Some (held_of a) ≡ Some on.attempt = ap (option_map held_of) c.in-Some-release.ensures.released ∙ sym (slot-held hub.players c.args.player) ∙ on.there in
    let same : held_of a ≡ on.attempt = cc in
    let told : Finished on.attempt.attempt (has_committed on.attempt.stage) [] ≡ Finished c.number.result c.has_committed.result c.over-heard.result =
    (λ i. Finished (sym same i).attempt (has_committed (sym same i).stage) [])
    ∙ (λ i. Finished (sym c.number.ensures i) (sym (c.has_committed.ensures ∙ ap has_committed c.stage.ensures.stage) i) (sym (c.over-heard.ensures ∙ c.new.ensures.items) i)) in
    subst (λ (r : Reply). StepsInMemory c.args.at (λ s. step s (finishing c.args.at c.args.player)) (Ok r) hub (record hub { players = c.release.new.self; last = c.later-self.result })) told
    (phase-in-memory hub c.args.at c.args.player c.later-self.result c.later-self.ensures.value c.later-self.ensures.bound none on c.release.new.self c.release.ensures.idle)
