use Rattle.std.proofs.Common.{◌≡◌, ◌∙◌, ◌++◌, ◌∷◌, [], ℕ, List, sym, ap, true}
use Rattle.qc_site.specs.Disk.{written}
use Rattle.qc_memsite.specs.Chosen.{write_left}
use Rattle.qc_memsite.specs.Edits.{undone_by}
use Rattle.qc_memsite.specs.declared.step.Step.{Step}
use Rattle.qc_memsite.proofs.Undone.{again_now, left_now}
use Rattle.qc_memsite.proofs.file.MemFile.overwrite.Goals as goal

pub invariant_of-self-2 : goal.invariant_of-self-2
invariant_of-self-2 c =
    let old = c.args.self.now in
    let step = c.in_ok-step.step in
    let is : c.push_reserved.new.self.items ≡ old.steps.items ++ step ∷ [] = c.push_reserved.ensures.items ∙ ap (λ (l : List Step). l ++ step ∷ []) c.reserve.ensures.items in
    let new = c.in_ok-overwrite.ensures.ok in
    record { again = again_now old.steps.items c.push_reserved.new.self.items step old.bytes.items c.overwrite.new.file.items is (ap (undone_by step) (new ∙ ap (λ (l : List ℕ). written l c.args.at c.args.bytes.now) (sym c.deref.ensures.value)) ∙ c.in_ok-step.ensures.undone ∙ c.deref.ensures.value) old.again ((c.in_ok-step.ensures.edit old.bytes.items []).0 ∙ sym new) }

pub returns-clause-ok : goal.returns-clause-ok
returns-clause-ok c =
    let old = c.args.self.now in
    let step = c.in_ok-step.step in
    let is : c.push_reserved.new.self.items ≡ old.steps.items ++ step ∷ [] = c.push_reserved.ensures.items ∙ ap (λ (l : List Step). l ++ step ∷ []) c.reserve.ensures.items in
    let new = c.in_ok-overwrite.ensures.ok in
    (new, left_now old.steps.items c.push_reserved.new.self.items step old.bytes.items c.overwrite.new.file.items is (ap (undone_by step) (new ∙ ap (λ (l : List ℕ). written l c.args.at c.args.bytes.now) (sym c.deref.ensures.value)) ∙ c.in_ok-step.ensures.undone ∙ c.deref.ensures.value) old.again (λ i. write_left true old.bytes.items i c.args.at c.args.bytes.now) (λ i. (c.in_ok-step.ensures.edit old.bytes.items i).1))
