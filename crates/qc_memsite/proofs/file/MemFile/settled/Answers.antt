use Rattle.std.proofs.Common.{◌≡◌, ◌<◌, ◌+◌, ◌-◌, ◌∙◌, ◌++◌, ◌∷◌, [], List, length, take, get_or, sym, ap, rules, arith}
use Rattle.std.proofs.lemmas.List.{take_more}
use Rattle.qc_memsite.specs.Edits.{undone}
use Rattle.qc_memsite.specs.declared.step.Step.{Step}
use Rattle.qc_memsite.proofs.Undone.{undone_push}
use Rattle.qc_memsite.proofs.file.MemFile.settled.Goals as goal

pub loop-index-preserved : goal.loop-index-preserved
loop-index-preserved c =
    let steps = c.args.self.now.steps.items in
    let count = c.len-count.result in
    let index = c.loop-index.index in
    let rest = count - (index + 1) in
    let x = c.index.result.now in
    let so_far = c.loop-index.invariant in
    let lt : index < count = search rules in
    let before : rest < length steps = omega (arith, lt, so_far.0) in
    let here : x ≡ get_or steps rest x = search rules in
    let one : rest + 1 ≡ count - index = omega (arith, lt) in (
      so_far.0,
      ap (undone (take rest steps)) c.in_ok-undo.ensures ∙ sym (undone_push (take rest steps) x c.loop-index.file.items)
          ∙ ap (λ (l : List Step). undone l c.loop-index.file.items) (ap (λ (y : Step). take rest steps ++ y ∷ []) here ∙ sym (take_more steps rest x before) ∙ ap (λ n. take n steps) one)
          ∙ so_far.1,
    )
