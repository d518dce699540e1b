use Rattle.std.proofs.Common.{◌≡◌, ◌∙◌, ◌-◌, List, slice_get, ap, subst, sym, Option, Some}
use Rattle.qc_txn.specs.Attempt.{AttemptView}
use Rattle.qc_machine.specs.Attempts.{holding_of}
use Rattle.qc_machine.specs.State.{in_slot, set_slot}
use Rattle.qc_players.specs.Orders.{Works}
use Rattle.qc_players.specs.Players.{ArePlayedBy, held_of, players_of}
use Rattle.qc_players.specs.declared.order.PlayerOrder.TheVariants.{Work}
use Rattle.qc_players.proofs.InSlots.{plays-there, works-there}
use Rattle.qc_players.proofs.Refusals.{fit}
use Rattle.qc_players.proofs.Slots.{are-kept, read-slot}
use Rattle.qc_players.proofs.Works.{worked-holding}
use Rattle.qc_players.proofs.players.Players.work.Goals as goal
use Rattle.qc_players.proofs.players.Players.work.Goals.{In-Some}

there : (c : In-Some) → slice_get c.self.inside.slots.items (c.args.player - 1) ≡ Some (Some c.in-Some.attempt)
there c =
    let slot = (fit Work c.args.player (players_of c.args.self.now) c.requires.fit).slot in
    read-slot c.self.inside.slots.items c.args.player c.index_mut.result.now slot c.self.invariant.many c.index_mut.ensures.value ∙ ap (λ (o : Option AttemptView). Some o) c.in-Some.is

played : (c : In-Some) → ArePlayedBy c.args.catalogue.now c.self.inside.slots.items
played c = subst (ArePlayedBy c.args.catalogue.now) (sym c.self.view_is) c.requires.played

pub work_on-requires-clause-played : goal.work_on-requires-clause-played
work_on-requires-clause-played c = plays-there c.args.catalogue.now c.self.inside.slots.items c.args.player c.in-Some.attempt (there c) (played c)

pub invariant_of-self-2 : goal.invariant_of-self-2
invariant_of-self-2 c =
    let arm = (goal.at.invariant_of-self-2 c).In-Some in
    are-kept c.self.inside.slots.items c.self.inside.held c.self.invariant (c.args.player - 1) c.in-Some.attempt c.work_on.new.attempt (there arm)
    (ap holding_of c.work_on.ensures.held ∙ worked-holding c.args.catalogue.now (held_of c.in-Some.attempt))

pub returns : goal.returns
returns c = λ a.
    let arm = (goal.at.returns c).In-Some in
    let catalogue = c.args.catalogue.now in
    let slots = c.self.inside.slots.items in
    let P : List (Option AttemptView) → Type 0 = λ old. in_slot c.args.player (players_of old) ≡ Some a
    → Works catalogue c.args.player old (set_slot c.args.player (Some c.work_on.new.attempt) slots) c.work_on.result a in
    subst P c.self.view_is (λ held. works-there catalogue slots c.args.player c.in-Some.attempt (there arm) (played arm) a held c.work_on.new.attempt c.work_on.result c.work_on.ensures)
