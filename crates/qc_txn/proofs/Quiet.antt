-- Attempts that change nothing outside: they have no records.
use Rattle.std.proofs.Common.{◌≡◌, ◌∙◌, ◌≤◌, ◌⊎◌, inl, inr, ℕ, zero, suc, ◌+◌, List, [], ◌∷◌, length, slice_get, arith, refl, ap, Some}
use Rattle.std.proofs.lemmas.List.Sums.{sum_by-cons}
use Rattle.std.proofs.lemmas.Option.{same_Some}
use Rattle.qc_script.specs.declared.step.Step.{Step}
use Rattle.qc_script.specs.declared.step.Step.TheVariants.{Need, When, Add, Sub, Set, Move, Grow, Shrink, Retract, Fail, Abort}
use Rattle.qc_script.specs.Naming.{effect_of, effects, out_of, outs}
use Rattle.qc_play.specs.Play.{Play, ran, run_call}
use Rattle.qc_play.proofs.CallCounts.{call-adds}
use Rattle.qc_txn.specs.Attempt.{AttemptView, effects_in}
use Rattle.qc_txn.specs.Ends.{PlaysAll}
use Rattle.qc_txn.specs.Parts.{Part}

-- each step that changes something outside has an effect

out-few : (s : Step) → length (out_of s) ≤ length (effect_of s)
out-few (Need c) = omega arith
out-few (When c) = omega arith
out-few (Add cell e) = omega arith
out-few (Sub cell e) = omega arith
out-few (Set cell e) = omega arith
out-few (Move from to e) = omega arith
out-few (Grow cell e) = omega arith
out-few (Shrink cell e) = omega arith
out-few (Retract resource) = omega arith
out-few Fail = omega arith
out-few Abort = omega arith

pub outs-few : (steps : List Step) → outs steps ≤ effects steps
outs-few [] = omega arith
outs-few (s ∷ steps) = omega (arith, sum_by-cons (λ (s : Step). length (out_of s)) s steps, sum_by-cons (λ (s : Step). length (effect_of s)) s steps, out-few s, outs-few steps)

pub next-effects : (p : Part) (parts : List Part) → effects_in (p ∷ parts) ≡ effects p.script + effects_in parts
next-effects p parts = sum_by-cons (λ (p : Part). effects p.script) p parts

part-few : (parts : List Part) (i : ℕ) (p : Part) → slice_get parts i ≡ Some p → effects p.script ≤ effects_in parts
part-few [] i p at = cc
part-few (q ∷ parts) zero p at = let same = ap (λ (x : Part). effects x.script) (same_Some q p at) in omega (arith, same, next-effects q parts)
part-few (q ∷ parts) (suc i) p at = omega (arith, next-effects q parts, part-few parts i p at)

pub no-length : {A : Type 0} (xs : List A) → length xs ≤ 0 → xs ≡ []
no-length [] e = refl
no-length (x ∷ xs) e = absurd (omega (arith, e))

-- a call without effects leaves no records
quiet-script : (p : Part) (play next : Play) → effects p.script ≤ 0 → play.records ≡ [] → run_call p.script p.args play ≡ ran next → next.records ≡ []
quiet-script p play next none begun runs = no-length next.records (omega (arith, (call-adds p.script p.args play next runs).1, ap length begun, none, outs-few p.script))

-- a call of such an attempt leaves no records
pub quiet-call : (parts : List Part) (i : ℕ) (p : Part) (play next : Play) → effects_in parts ≡ 0 → slice_get parts i ≡ Some p → play.records ≡ [] → run_call p.script p.args play ≡ ran next → next.records ≡ []
quiet-call parts i p play next none at begun runs = quiet-script p play next (omega (arith, none, part-few parts i p at)) begun runs

-- all of them leave none, and no resource is heard
pub quiet-parts : (parts : List Part) (old new : AttemptView) → effects_in parts ≡ 0 → old.play.records ≡ [] → PlaysAll parts old new → (new.play.records ≡ []) × (new.refuser ≡ old.refuser)
quiet-parts [] old new none begun is = (ap (λ (a : AttemptView). a.play.records) is ∙ begun, ap (λ (a : AttemptView). a.refuser) is)
quiet-parts (p ∷ parts) old new none begun (inl (next, number, runs, more)) =
    let first = quiet-script p old.play next.play (omega (arith, none, next-effects p parts)) begun runs.play in
    let rest = quiet-parts parts next new (omega (arith, none, next-effects p parts)) first more in
    (rest.0, rest.1 ∙ ap (λ (a : AttemptView). a.refuser) runs.kept)
quiet-parts (p ∷ parts) old new none begun (inr (step, failing)) =
    (ap (λ (a : AttemptView). a.play.records) failing.kept ∙ begun, ap (λ (a : AttemptView). a.refuser) failing.kept)
