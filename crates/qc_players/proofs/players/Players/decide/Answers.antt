use Rattle.std.proofs.Common.{◌≡◌, ◌∙◌, ◌-◌, List, slice_get, ap, subst, sym, Option, Some}
use Rattle.qc_txn.specs.Attempt.{AttemptView}
use Rattle.qc_machine.specs.State.{in_slot, set_slot}
use Rattle.qc_players.specs.Orders.{Ends}
use Rattle.qc_players.specs.Players.{ArePlayedBy, players_of}
use Rattle.qc_players.specs.declared.order.PlayerOrder.TheVariants.{End}
use Rattle.qc_players.proofs.Holdings.{holding}
use Rattle.qc_players.proofs.InSlots.{ends-there}
use Rattle.qc_players.proofs.Refusals.{fit}
use Rattle.qc_players.proofs.Slots.{are-kept, read-slot}
use Rattle.qc_players.proofs.players.Players.decide.Goals as goal
use Rattle.qc_players.proofs.players.Players.decide.Goals.{In-Some}

there : (c : In-Some) → slice_get c.self.inside.slots.items (c.args.player - 1) ≡ Some (Some c.in-Some.attempt)
there c =
    let slot = (fit End c.args.player (players_of c.args.self.now) c.requires).slot in
    read-slot c.self.inside.slots.items c.args.player c.index_mut.result.now slot c.self.invariant.many c.index_mut.ensures.value ∙ ap (λ (o : Option AttemptView). Some o) c.in-Some.is

pub invariant_of-self-2 : goal.invariant_of-self-2
invariant_of-self-2 c =
    are-kept c.self.inside.slots.items c.self.inside.held c.self.invariant (c.args.player - 1) c.in-Some.attempt c.decide.new.self (there (goal.at.invariant_of-self-2 c).In-Some) (ap holding c.decide.ensures.decided)

pub returns : goal.returns
returns c = λ catalogue a.
    let slots = c.self.inside.slots.items in
    let P : List (Option AttemptView) → Type 0 = λ old. ArePlayedBy catalogue old → in_slot c.args.player (players_of old) ≡ Some a
    → Ends catalogue c.args.player old (set_slot c.args.player (Some c.decide.new.self) slots) c.decide.result a in
    subst P c.self.view_is (λ played held.
    subst (λ (v : AttemptView). Ends catalogue c.args.player slots (set_slot c.args.player (Some v) slots) c.decide.result a) (sym c.decide.ensures.decided)
    (ends-there catalogue slots c.args.player c.in-Some.attempt (there (goal.at.returns c).In-Some) played a held c.decide.result c.decide.ensures.told))
