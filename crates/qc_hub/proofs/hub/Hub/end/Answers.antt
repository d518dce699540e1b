use Rattle.std.proofs.Common.{◌≡◌, ◌∙◌, refl, sym, None}
use Rattle.qc_protocol.specs.declared.order.Act.TheVariants.{End}
use Rattle.qc_protocol.specs.declared.reply.Reply.TheVariants.{Refused}
use Rattle.qc_machine.specs.Playing.{end_in, on_held}
use Rattle.qc_machine.specs.State.{State, at_moment, in_slot}
use Rattle.qc_machine.specs.Step.{step}
use Rattle.qc_machine.specs.Steps.{Step}
use Rattle.qc_machine.proofs.Steps.{refusal-end}
use Rattle.qc_players.specs.declared.order.PlayerOrder.TheVariants.{End as end_order}
use Rattle.qc_players.specs.Orders.{unfit_for}
use Rattle.qc_players.specs.Players.{players_of}
use Rattle.qc_hub.specs.declared.hub.Hub.{Hub}
use Rattle.qc_hub.specs.Calls.{ending}
use Rattle.qc_hub.proofs.Calling.{behind, handed_on, replied}
use Rattle.qc_hub.proofs.Later.{Since, later-hub, since-ready, since-set}
use Rattle.qc_hub.proofs.OnPlayers.{step-fit, step-unfit}
use Rattle.qc_hub.proofs.hub.Hub.end.Goals as goal

pub returns-in-Some-clause-carried : goal.returns-in-Some-clause-carried
returns-in-Some-clause-carried g c =
    let hub : Hub = c.args.self.now in
    let at = c.args.at in
    let n = c.args.player in
    let mid : Hub = record hub { last = c.later-self.result } in
    let since : Since hub mid at = since-set hub at c.later-self.result c.later-self.ensures.value c.later-self.ensures.bound in
    replied g.S.Site at (λ s. step s (ending at n)) (Refused c.in-Some.refusal) hub mid c.args.site.now (λ i told left. g.met.S.Site.only_now c.args.site.now i told left) c.requires since
    (λ s h. step-unfit hub s h at n end_order (End n) (refusal-end (at_moment at s) n) c.in-Some.refusal (sym c.unfit.ensures ∙ c.in-Some.is))

pub add_end-requires-clause-ready : goal.add_end-requires-clause-ready
add_end-requires-clause-ready g c =
    let hub : Hub = c.args.self.now in
    since-ready g.S.Site hub (record hub { last = c.later-self.result }) c.args.at c.args.site.now (since-set hub c.args.at c.later-self.result c.later-self.ensures.value c.later-self.ensures.bound) c.requires

pub add_end-requires-clause-fit : goal.add_end-requires-clause-fit
add_end-requires-clause-fit g c =
    let none : unfit_for end_order c.args.player (players_of c.args.self.now.players) ≡ None = sym c.unfit.ensures ∙ c.in_default.is in
    none

pub returns-clause-carried : goal.returns-clause-carried
returns-clause-carried g c =
    let hub : Hub = c.args.self.now in
    let at = c.args.at in
    let n = c.args.player in
    let mid : Hub = record hub { last = c.later-self.result } in
    let since : Since hub mid at = since-set hub at c.later-self.result c.later-self.ensures.value c.later-self.ensures.bound in
    let none : unfit_for end_order n (players_of hub.players) ≡ None = sym c.unfit.ensures ∙ c.in_default.is in
    let by : State → Step = λ s. on_held s (end_in s n) (in_slot n s.players) in
    handed_on g.S.Site at (λ s. step s (ending at n)) (λ s. by (at_moment at s)) c.add_end.result hub c.args.site.now c.add_end.new.self c.add_end.new.site
    (λ s h. step-fit hub s h at n end_order (End n) (refusal-end (at_moment at s) n) none)
    (behind g.S.Site at by (at_moment at) c.add_end.result hub mid c.args.site.now c.add_end.new.self c.add_end.new.site since.later
    (λ s h. (later-hub hub mid at s since h, record { history = refl; rows = refl; journal = refl; log = refl })) c.add_end.ensures.takes_no_memory c.add_end.ensures.steps)
