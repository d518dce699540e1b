use Rattle.std.proofs.Common.{◌≡◌, ◌∙◌, List, Ok, sym, ap, subst}
use Rattle.qc_play.specs.declared.effect.Effect.{Effect}
use Rattle.qc_play.specs.Play.{Play}
use Rattle.qc_underway.specs.Calls.{CarriesAll}
use Rattle.qc_underway.specs.Standing.{HasRoomForAll}
use Rattle.qc_underway.proofs.Running.{call-room, runs-done}
use Rattle.qc_underway.proofs.calls.run_next.Goals as goal

pub carry_all-requires-clause-room : goal.carry_all-requires-clause-room
carry_all-requires-clause-room g c =
    let next = c.run_next.new.self in
    let effects : c.effects.result.now ≡ next.play.effects = c.effects.ensures ∙ ap (λ (p : Play). p.effects) c.state.ensures.play in
    let args = c.args in
    subst (λ (l : List Effect). HasRoomForAll args.catalogue.now l args.clerk.now args.log.now) (sym effects)
    (call-room g.S.Site args.catalogue.now args.attempt.now next args.clerk.now args.clerk.now args.log.now args.log.now args.site.now args.site.now c.in-Ok.number c.in-Ok.ensures.ran c.requires.room)

pub returns-in-Ok-carry_all-clause-runs : goal.returns-in-Ok-carry_all-clause-runs
returns-in-Ok-carry_all-clause-runs g c =
    let next = c.run_next.new.self in
    let new = c.carry_all.new in
    let effects : c.effects.result.now ≡ next.play.effects = c.effects.ensures ∙ ap (λ (p : Play). p.effects) c.state.ensures.play in
    let args = c.args in
    runs-done g.S.Site args.catalogue.now args.attempt.now next args.clerk.now new.clerk args.log.now new.log args.site.now new.site c.in-Ok.number c.in-Ok.ensures.ran c.requires.room
    (subst (λ (l : List Effect). CarriesAll g.S.Site args.catalogue.now l (Ok (tt {0})) args.clerk.now args.log.now args.site.now new.clerk new.log new.site) effects c.in-Ok-carry_all.ensures)
