use Rattle.std.proofs.Common.{◌≡◌, ◌∙◌, ◌<◌, ◌+◌, ℕ, List, length, map, take, get_or, true, Result, Err, Vec, Global, sym, subst, arith, rules, All}
use Rattle.std.proofs.lemmas.List.{take_more}
use Rattle.qc_base.specs.LogLines.{unfinished as unfinished_attempts}
use Rattle.qc_base.specs.Spelling.{is_attempt}
use Rattle.crm_recovery.proofs.Unfinished.{attempts-fit}
use Rattle.qc_base.specs.declared.log_line.Recovered.{Recovered}
use Rattle.crm_recovery.specs.declared.error.FinishError.{FinishError}
use Rattle.crm_recovery.specs.declared.error.FinishError.TheVariants.{NoMemory as wanting}
use Rattle.crm_recovery.specs.Moments.{Finish, finish_of, finishes, FinishesInTurn}
use Rattle.crm_recovery.proofs.InTurn.{untouched}
use Rattle.crm_recovery.proofs.OneByOne.{one-more, one-failed}
use Rattle.crm_recovery.proofs.finish.finish_all.Goals as goal

pub finish_one-requires-clause-limits : goal.finish_one-requires-clause-limits
finish_one-requires-clause-limits g c =
    let items = c.as_slice-attempt-items.result.now in
    let is : unfinished_attempts c.args.lines.now ≡ items = sym (c.as_slice-attempt-items.ensures.value ∙ c.in_ok-attempts.ensures) in
    let all : All (λ n. is_attempt n ≡ true) items = subst (λ (l : List ℕ). All (λ n. is_attempt n ≡ true) l) is (attempts-fit c.args.lines.now c.requires.can.limits) in
    all c.loop-attempt.attempt-index 0 (omega (arith, c.loop-attempt-test.true))

pub loop-attempt-preserved : goal.loop-attempt-preserved
loop-attempt-preserved g c =
    let loop = c.loop-attempt in
    let items = c.as_slice-attempt-items.result.now in
    let i = loop.attempt-index in
    let attempt : ℕ = get_or items i 0 in
    let inside : i < length items = omega (arith, c.loop-attempt-test.true) in (
      one-more g.S.Site c.args.catalogue.now c.args.ended.now c.args.lines.now (take i items) (take (i + 1) items) attempt loop.recovered.items c.push_reserved.new.self.items c.in_ok-one.one _
          c.args.log.now loop.log c.finish_one.new.log c.args.site.now loop.site c.finish_one.new.site (take_more items i 0 inside) c.push_reserved.ensures.items c.in_ok-one.ensures.told loop.invariant.0 c.in_ok-one.ensures.finishes c.in_ok-one.ensures.moments,
      omega (arith, loop.invariant.1, c.push_reserved.ensures.len),
      omega (arith, loop.invariant.2, c.push_reserved.ensures.capacity),
    )

pub returns-in_err-attempts-clause-moments : goal.returns-in_err-attempts-clause-moments
returns-in_err-attempts-clause-moments g c =
    let site = c.args.site.now in
    let all : List Finish = finishes c.args.catalogue.now c.args.ended.now c.args.lines.now in
    let is : ◌≡◌ {A = Result (Vec Recovered Global) FinishError} c.from_residual.result (Err wanting) = search rules in
    subst (λ (r : Result (Vec Recovered Global) FinishError). FinishesInTurn g.S.Site all r site site) (sym is) (untouched g.S.Site all wanting site (λ told i left. g.met.S.Site.only_now site i told left))

pub returns-in_err-recovered-clause-moments : goal.returns-in_err-recovered-clause-moments
returns-in_err-recovered-clause-moments g c =
    let site = c.args.site.now in
    let all : List Finish = finishes c.args.catalogue.now c.args.ended.now c.args.lines.now in
    let is : ◌≡◌ {A = Result (Vec Recovered Global) FinishError} c.from_residual-in_err-recovered.result (Err wanting) = search rules in
    subst (λ (r : Result (Vec Recovered Global) FinishError). FinishesInTurn g.S.Site all r site site) (sym is) (untouched g.S.Site all wanting site (λ told i left. g.met.S.Site.only_now site i told left))

pub returns-in_err-one-clause-moments : goal.returns-in_err-one-clause-moments
returns-in_err-one-clause-moments g c =
    let site = g.S.Site in
    let loop = c.loop-attempt in
    let items = c.as_slice-attempt-items.result.now in
    let i = loop.attempt-index in
    let inside : i < length items = omega (arith, c.loop-attempt-test.true) in
    let same : items ≡ unfinished_attempts c.args.lines.now = c.as_slice-attempt-items.ensures.value ∙ c.in_ok-attempts.ensures in
    let e : FinishError = c.in_err-one.field-0.0 in
    let is : ◌≡◌ {A = Result (Vec Recovered Global) FinishError} c.from_residual-in_err-one.result (Err e) = search rules in
    let f : ℕ → Finish = finish_of c.args.catalogue.now c.args.ended.now c.args.lines.now in
    let failed = one-failed site c.args.catalogue.now c.args.ended.now c.args.lines.now {A = Vec Recovered Global} items i loop.recovered.items e e c.args.log.now loop.log c.args.site.now loop.site c.finish_one.new.site inside loop.invariant.0 c.in_err-one.ensures.moments in
    subst (λ (r : Result (Vec Recovered Global) FinishError). FinishesInTurn site (finishes c.args.catalogue.now c.args.ended.now c.args.lines.now) r c.args.site.now c.finish_one.new.site) (sym is)
    (subst (λ (l : List ℕ). FinishesInTurn site {A = Vec Recovered Global} (map f l) (Err e) c.args.site.now c.finish_one.new.site) same failed)
