use Rattle.std.proofs.Common.{◌≡◌, ◌+◌, ◌<◌, ◌≤◌, suc, length, drop, slice_get, rules, sym, subst, ◌∙◌, Some, None, arith}
use Rattle.qc_script.specs.Naming.{effects}
use Rattle.qc_txn.specs.Attempt.{effects_in}
use Rattle.qc_txn.specs.Parts.{parts_of}
use Rattle.qc_txn.specs.Played.{part_of}
use Rattle.qc_txn.proofs.PartsAt.{count_is, effects_at, nothing_at, nothing_left}
use Rattle.qc_txn.proofs.parts.effects_of.Goals as goal

pub returns-in_default : goal.returns-in_default
returns-in_default c =
    let parts = parts_of c.args.catalogue.now c.args.recording.now c.args.kind in
    let none : slice_get parts c.loop-place.place ≡ None = search rules in
    let all = count_is c.args.catalogue.now c.args.recording.now c.args.kind c.requires.playable in
    let end = c.count_of-place-end.ensures.value in
    let test : c.loop-place.place < c.count_of-place-end.result = search rules in
    let less : c.loop-place.place < length parts = omega (arith, all, end, test) in
    absurd (nothing_at parts c.loop-place.place none less)

pub loop-place-preserved : goal.loop-place-preserved
loop-place-preserved c =
    let parts = parts_of c.args.catalogue.now c.args.recording.now c.args.kind in
    let place = c.loop-place.place in
    let next = effects_at parts place (part_of c.in-Some.part) (sym c.in-Some.ensures) in
    let had : c.loop-place.sum + effects_in (drop place parts) ≡ effects_in parts = c.loop-place.invariant.0 in
    let fits : c.from-sum.result ≡ effects c.in-Some.part.script.now = search rules in
    let one : suc place ≡ place + 1 = omega arith in
    let bound = c.loop-place.invariant.1 in
    let few : c.from-sum.result ≤ 255 = search rules in
    let sum : c.loop-place.sum + c.from-sum.result + effects_in (drop (suc place) parts) ≡ effects_in parts = omega (arith, next, had, fits) in
    (subst (λ n. c.loop-place.sum + c.from-sum.result + effects_in (drop n parts) ≡ effects_in parts) one sum, omega (arith, bound, few))

pub returns : goal.returns
returns c =
    let parts = parts_of c.args.catalogue.now c.args.recording.now c.args.kind in
    let all = count_is c.args.catalogue.now c.args.recording.now c.args.kind c.requires.playable in
    let end = c.count_of-place-end.ensures.value in
    let test : c.count_of-place-end.result ≤ c.loop-place.place = search rules in
    let past : length parts ≤ c.loop-place.place = omega (arith, all, end, test) in
    let none = nothing_left parts c.loop-place.place past in
    let had : c.loop-place.sum + effects_in (drop c.loop-place.place parts) ≡ effects_in parts = c.loop-place.invariant.0 in
    omega (arith, none, had)
