use Rattle.std.proofs.Common.{◌≡◌, ◌<◌, ◌+◌, ℕ, List, ◌∷◌, length, drop, get_or, subst, arith}
use Rattle.std.proofs.lemmas.List.{drop_more}
use Rattle.qc_underway.proofs.Forgetting.{Forgetting, forget-begun, forget-one}
use Rattle.qc_underway.proofs.votes.forget_all.Goals as goal

pub loop-seq-init : goal.loop-seq-init
loop-seq-init c = forget-begun c.args.resource.now c.args.seqs.now c.args.clerk.now c.args.log.now c.requires.there c.requires.room

pub loop-seq-preserved : goal.loop-seq-preserved
loop-seq-preserved c =
    let loop = c.loop-seq in
    let resource = c.args.resource.now in
    let seqs = c.args.seqs.now in
    let clerk = c.args.clerk.now in
    let log = c.args.log.now in
    let i = loop.seq-index in
    let n : ℕ = get_or seqs i 0 in
    let inside : i < length seqs = omega (arith, c.loop-seq-test.true) in
    let front : drop i seqs ≡ n ∷ drop (i + 1) seqs = drop_more seqs i 0 inside in
    let so = subst (λ (l : List ℕ). Forgetting resource seqs clerk log l loop.clerk loop.log) front loop.invariant in
    forget-one resource seqs clerk log n (drop (i + 1) seqs) loop.clerk c.forget.new.self loop.log c.forget.new.log so c.forget.ensures
