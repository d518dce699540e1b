use Rattle.std.proofs.Common.{◌≡◌, ◌≤◌, ◌∙◌, max, sym, subst, None}
use Rattle.qc_catalogue.specs.declared.catalogue.Catalogue.{Catalogue}
use Rattle.qc_protocol.specs.declared.reply.Reply.TheVariants.{Refused}
use Rattle.qc_players.specs.declared.order.PlayerOrder.TheVariants.{Work as work_order}
use Rattle.qc_players.specs.Orders.{unfit_for, Works}
use Rattle.qc_players.specs.Players.{ArePlayedBy, players_of}
use Rattle.qc_players.proofs.Refusals.{fit}
use Rattle.qc_hub.specs.declared.hub.Hub.{Hub}
use Rattle.qc_hub.proofs.InMemory.{at_last, reply-in-memory, soon}
use Rattle.qc_hub.proofs.OnPlayers.{work-in-memory, work-unfit}
use Rattle.qc_hub.proofs.hub.Hub.run_call.Goals as goal

pub returns-in-Some : goal.returns-in-Some
returns-in-Some c =
    let hub : Hub = c.args.self.now in
    let le : max c.args.at hub.last ≤ 1000000000000 = soon c.args.at hub.last c.later-self.result c.later-self.ensures.value c.later-self.ensures.bound in
    reply-in-memory c.args.at _ hub _ (Refused c.in-Some.refusal) (at_last hub _ _ c.later-self.ensures.value) le
    (λ s h. work-unfit hub s h c.args.at c.args.player c.in-Some.refusal (sym c.unfit.ensures ∙ c.in-Some.is))

pub work-requires-clause-played : goal.work-requires-clause-played
work-requires-clause-played c =
    subst (λ (x : Catalogue). ArePlayedBy x c.args.self.now.players) (sym c.catalogue.ensures) c.requires.1.fit.played

pub returns : goal.returns
returns c =
    let hub : Hub = c.args.self.now in
    let none : unfit_for work_order c.args.player (players_of hub.players) ≡ None = sym c.unfit.ensures ∙ c.in_default.is in
    let on = fit work_order c.args.player (players_of hub.players) none in
    let works = subst (λ (x : Catalogue). Works x c.args.player hub.players c.work.new.self c.work.result on.attempt) c.catalogue.ensures (c.work.ensures on.attempt on.there) in
    work-in-memory hub c.args.at c.args.player c.later-self.result c.later-self.ensures.value c.later-self.ensures.bound none on c.work.new.self c.work.result works
