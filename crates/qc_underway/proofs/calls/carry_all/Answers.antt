use Rattle.std.proofs.Common.{◌≡◌, ◌∙◌, ◌+◌, ◌<◌, List, ◌∷◌, ◌++◌, [], length, take, drop, Ok, Err, sym, ap, subst, arith}
use Rattle.std.proofs.lemmas.List.{drop_more, take_more, take-append-drop}
use Rattle.qc_play.specs.declared.effect.Effect.{Effect}
use Rattle.qc_underway.specs.Calls.{CarriesAll}
use Rattle.qc_underway.specs.Standing.{HasRoomForAll}
use Rattle.qc_underway.proofs.Carried.{carried-more, carried-up-to, room-for-others}
use Rattle.qc_underway.proofs.calls.carry_all.Goals as goal

pub returns-in-Err : goal.returns-in-Err
returns-in-Err g c =
    let loop = c.loop-effect in
    let all = c.args.effects.now in
    let i = loop.effect-index in
    let item = c.effect-item.result in
    let inside : i < length all = omega (arith, c.loop-effect-test.true) in
    let split : take i all ++ item ∷ drop (i + 1) all ≡ all =
    ap (λ (e : Effect). take i all ++ e ∷ drop (i + 1) all) c.effect-item.is ∙ ap (λ (l : List Effect). take i all ++ l) (sym (drop_more all i item inside)) ∙ take-append-drop i all in
    let new = c.carry_one.new in
    subst (λ (l : List Effect). CarriesAll g.S.Site c.args.catalogue.now l (Err c.in-Err.failed) c.args.clerk.now c.args.log.now c.args.site.now new.clerk new.log new.site) split
    (carried-up-to g.S.Site c.args.catalogue.now (take i all) item c.args.clerk.now loop.clerk new.clerk c.args.log.now loop.log new.log c.args.site.now loop.site new.site loop.invariant.0 (drop (i + 1) all) c.in-Err.failed c.in-Err.ensures)

pub loop-effect-preserved : goal.loop-effect-preserved
loop-effect-preserved g c =
    let loop = c.loop-effect in
    let all = c.args.effects.now in
    let i = loop.effect-index in
    let item = c.effect-item.result in
    let inside : i < length all = omega (arith, c.loop-effect-test.true) in
    let here = c.effect-item.is in
    let front : take i all ++ item ∷ [] ≡ take (i + 1) all = ap (λ (e : Effect). take i all ++ e ∷ []) here ∙ sym (take_more all i item inside) in
    let behind : drop i all ≡ item ∷ drop (i + 1) all = drop_more all i item inside ∙ ap (λ (e : Effect). e ∷ drop (i + 1) all) (sym here) in
    let new = c.carry_one.new in (
      subst (λ (l : List Effect). CarriesAll g.S.Site c.args.catalogue.now l (Ok (tt {0})) c.args.clerk.now c.args.log.now c.args.site.now new.clerk new.log new.site) front
          (carried-more g.S.Site c.args.catalogue.now (take i all) item c.args.clerk.now loop.clerk new.clerk c.args.log.now loop.log new.log c.args.site.now loop.site new.site loop.invariant.0 c.in-Ok.ensures),
      room-for-others g.S.Site c.args.catalogue.now (take i all) item c.args.clerk.now loop.clerk new.clerk c.args.log.now loop.log new.log c.args.site.now loop.site new.site loop.invariant.0 (drop (i + 1) all) c.in-Ok.ensures
          (subst (λ (l : List Effect). HasRoomForAll c.args.catalogue.now l loop.clerk loop.log) behind loop.invariant.1),
    )
