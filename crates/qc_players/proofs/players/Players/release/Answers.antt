use Rattle.std.proofs.Common.{◌≡◌, ◌∙◌, ◌-◌, slice_get, slice_set, rules, ap, subst, sym, Option, Some, None}
use Rattle.qc_txn.specs.Attempt.{AttemptView}
use Rattle.qc_rows.specs.Holdings.{released}
use Rattle.qc_machine.specs.State.{in_slot}
use Rattle.qc_machine.proofs.Recorders.{in-slot}
use Rattle.qc_players.specs.Players.{ArePlayers}
use Rattle.qc_players.proofs.Slots.{are-freed, read-slot}
use Rattle.qc_players.proofs.players.Players.release.Goals as goal

there : (c : goal.After-release) → slice_get c.self.inside.slots.items (c.args.player - 1) ≡ Some (Some c.in_ok-attempt.attempt)
there c =
    read-slot c.self.inside.slots.items c.args.player c.index_mut.result.now c.requires c.self.invariant.many c.index_mut.ensures.value
    ∙ ap (λ (o : Option AttemptView). Some o) (sym c.take.ensures.value ∙ c.in_ok-attempt.was)

pub invariant_of-self-2 : goal.invariant_of-self-2
invariant_of-self-2 c =
    let n = c.args.player in
    let slots = c.self.inside.slots.items in
    let held = c.self.inside.held in
    let freed = are-freed slots held c.self.invariant (n - 1) c.in_ok-attempt.attempt (there c) in
    let left : c.release.new.self ≡ released c.in_ok-attempt.attempt.number held = search rules in
    subst (λ (o : Option AttemptView). ArePlayers (slice_set slots (n - 1) o) c.release.new.self) (sym c.take.ensures.after)
    (subst (ArePlayers (slice_set slots (n - 1) None)) (sym left) freed)

pub returns-clause-released : goal.returns-clause-released
returns-clause-released c = sym (in-slot c.self.inside.slots.items c.args.player c.in_ok-attempt.attempt (there c)) ∙ ap (in_slot c.args.player) c.self.view_is
