use Rattle.std.proofs.Common.{◌∙◌, [], ℕ, List, sym, ap, take}
use Rattle.qc_memsite.specs.Edits.{undone_by}
use Rattle.qc_memsite.proofs.Undone.{again_now, left_now}
use Rattle.qc_memsite.proofs.file.MemFile.shorten.Goals as goal

pub invariant_of-self-2 : goal.invariant_of-self-2
invariant_of-self-2 c =
    let old = c.args.self.now in
    let step = c.in_ok-step.step in
    let new = c.truncate.ensures.items in
    record { again = again_now old.steps.items c.push.new.self.items step old.bytes.items c.truncate.new.self.items c.in_ok-push.ensures.items (ap (undone_by step) (new ∙ ap (λ (l : List ℕ). take c.args.len l) (sym c.deref.ensures.value)) ∙ c.in_ok-step.ensures.undone ∙ c.deref.ensures.value) old.again ((c.in_ok-step.ensures.edit old.bytes.items []).0 ∙ sym new) }

pub returns-clause-ok : goal.returns-clause-ok
returns-clause-ok c =
    let old = c.args.self.now in
    let step = c.in_ok-step.step in
    let new = c.truncate.ensures.items in
    (new, left_now old.steps.items c.push.new.self.items step old.bytes.items c.truncate.new.self.items c.in_ok-push.ensures.items (ap (undone_by step) (new ∙ ap (λ (l : List ℕ). take c.args.len l) (sym c.deref.ensures.value)) ∙ c.in_ok-step.ensures.undone ∙ c.deref.ensures.value) old.again (λ i. take c.args.len i) (λ i. (c.in_ok-step.ensures.edit old.bytes.items i).1))
