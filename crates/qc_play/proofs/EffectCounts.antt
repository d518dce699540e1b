-- Each step has at most one effect.
use Rattle.std.proofs.Common.{◌≤◌, List, [], ◌∷◌, length, arith}
use Rattle.std.proofs.lemmas.List.Sums.{sum_by-cons}
use Rattle.qc_script.specs.declared.step.Step.{Step}
use Rattle.qc_script.specs.declared.step.Step.TheVariants.{Need, When, Add, Sub, Set, Move, Grow, Shrink, Retract, Fail, Abort}
use Rattle.qc_script.specs.Naming.{effect_of, effects}

effect_few : (s : Step) → length (effect_of s) ≤ 1
effect_few (Need c) = omega arith
effect_few (When c) = omega arith
effect_few (Add cell e) = omega arith
effect_few (Sub cell e) = omega arith
effect_few (Set cell e) = omega arith
effect_few (Move from to e) = omega arith
effect_few (Grow cell e) = omega arith
effect_few (Shrink cell e) = omega arith
effect_few (Retract resource) = omega arith
effect_few Fail = omega arith
effect_few Abort = omega arith

pub effects_few : (steps : List Step) → effects steps ≤ length steps
effects_few [] = omega arith
effects_few (s ∷ steps) = omega (arith, sum_by-cons (λ (s : Step). length (effect_of s)) s steps, effect_few s, effects_few steps)
