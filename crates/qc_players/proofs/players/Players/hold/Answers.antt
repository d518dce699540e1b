use Rattle.std.proofs.Common.{◌≡◌, ◌∙◌, ◌-◌, List, [], ◌∷◌, ◌++◌, false, rules, slice_set, ap, subst, sym, Option, Some, None}
use Rattle.qc_base.specs.declared.recording.Row.{Row}
use Rattle.qc_play.specs.Play.{rows_in}
use Rattle.qc_txn.specs.Attempt.{AttemptView}
use Rattle.qc_machine.specs.State.{in_slot}
use Rattle.qc_players.specs.Players.{ArePlayers, has_number, players_of}
use Rattle.qc_players.proofs.Holdings.{free-in, holding, holdings_at}
use Rattle.qc_players.proofs.Refusals.{IsFree, free}
use Rattle.qc_players.proofs.Slots.{are-more, free-slot}
use Rattle.qc_players.proofs.players.Players.hold.Goals as goal

pub hold-requires : goal.hold-requires
hold-requires c =
    let rows : List Row = rows_in c.args.attempt.play.view in
    search (rules, free-in c.self.inside.held c.self.inside.slots.items c.args.self.now rows c.self.invariant.same c.self.view_is c.requires.apart.rows)

pub invariant_of-self-2 : goal.invariant_of-self-2
invariant_of-self-2 c =
    let n = c.args.player in
    let a = c.args.attempt in
    let slots = c.self.inside.slots.items in
    let held = c.self.inside.held in
    let none : IsFree n (players_of c.args.self.now) = free n (players_of c.args.self.now) c.requires.free in
    let there : in_slot n (players_of slots) ≡ None = ap (λ (s : List (Option AttemptView)). in_slot n (players_of s)) c.self.view_is ∙ none.free in
    let new : has_number a.number (holdings_at slots) ≡ false = ap (λ (s : List (Option AttemptView)). has_number a.number (holdings_at s)) c.self.view_is ∙ c.requires.apart.number in
    let more : c.hold.new.self ≡ held ++ holding a ∷ [] = search rules in
    subst (ArePlayers (slice_set slots (n - 1) (Some a))) (sym more)
    (are-more slots held c.self.invariant (n - 1) a (free-slot slots n none.slot c.self.invariant.many there) new)
