-- Attempts that change nothing outside: they have no records, and set the same room aside.
use Rattle.std.proofs.Common.{◌≡◌, ◌∙◌, ◌≤◌, ℕ, zero, suc, ◌+◌, ◌-◌, ◌*◌, List, [], ◌∷◌, length, length-append, flat_map, slice_get, sum_by, arith, refl, ap, Option, Some, None}
use Rattle.std.proofs.lemmas.List.Sums.{sum_by-cons}
use Rattle.std.proofs.lemmas.Option.{same_Some}
use Rattle.qc_script.specs.declared.step.Step.{Step}
use Rattle.qc_script.specs.declared.step.Step.TheVariants.{Need, When, Add, Sub, Set, Move, Grow, Shrink, Retract, Fail, Abort}
use Rattle.qc_script.specs.Naming.{effect_of, effects, names_with, out_of, outs}
use Rattle.qc_catalogue.specs.declared.catalogue.Catalogue.{Catalogue}
use Rattle.qc_play.specs.Play.{Play, ran, run_call}
use Rattle.qc_play.proofs.CallCounts.{call-adds}
use Rattle.qc_txn.specs.Attempt.{AttemptView, effects_in}
use Rattle.qc_txn.specs.Parts.{Part, effects_of_parts, log_room, outs_of_parts, parts_of}
use Rattle.qc_machine.specs.Attempts.{parts_held}
use Rattle.qc_machine.specs.State.{HeldAttempt}
use Rattle.qc_machine.proofs.Recorders.{in-slot}
use Rattle.qc_players.specs.Players.{ArePlayedBy, IsPlayedBy, held_in, held_of, players_of}

-- each step that changes something outside has an effect

out-few : (s : Step) → length (out_of s) ≤ length (effect_of s)
out-few (Need c) = omega arith
out-few (When c) = omega arith
out-few (Add cell e) = omega arith
out-few (Sub cell e) = omega arith
out-few (Set cell e) = omega arith
out-few (Move from to e) = omega arith
out-few (Grow cell e) = omega arith
out-few (Shrink cell e) = omega arith
out-few (Retract resource) = omega arith
out-few Fail = omega arith
out-few Abort = omega arith

pub outs-few : (steps : List Step) → outs steps ≤ effects steps
outs-few [] = omega arith
outs-few (s ∷ steps) = omega (arith, sum_by-cons (λ (s : Step). length (out_of s)) s steps, sum_by-cons (λ (s : Step). length (effect_of s)) s steps, out-few s, outs-few steps)

next-effects : (p : Part) (parts : List Part) → effects_in (p ∷ parts) ≡ effects p.script + effects_in parts
next-effects p parts = sum_by-cons (λ (p : Part). effects p.script) p parts

part-few : (parts : List Part) (i : ℕ) (p : Part) → slice_get parts i ≡ Some p → effects p.script ≤ effects_in parts
part-few [] i p at = cc
part-few (q ∷ parts) zero p at = let same = ap (λ (x : Part). effects x.script) (same_Some q p at) in omega (arith, same, next-effects q parts)
part-few (q ∷ parts) (suc i) p at = omega (arith, next-effects q parts, part-few parts i p at)

no-length : {A : Type 0} (xs : List A) → length xs ≤ 0 → xs ≡ []
no-length [] e = refl
no-length (x ∷ xs) e = absurd (omega (arith, e))

-- a call of such an attempt leaves no records
pub quiet-call : (parts : List Part) (i : ℕ) (p : Part) (play next : Play) → effects_in parts ≡ 0 → slice_get parts i ≡ Some p → play.records ≡ [] → run_call p.script p.args play ≡ ran next → next.records ≡ []
quiet-call parts i p play next none at begun runs =
    let adds = (call-adds p.script p.args play next runs).1 in
    no-length next.records (omega (arith, adds, ap length begun, none, part-few parts i p at, outs-few p.script))

-- what it sets aside of the log

effects-many : (steps : List Step) → length (flat_map effect_of steps) ≡ effects steps
effects-many [] = refl
effects-many (s ∷ steps) = omega (arith, length-append (effect_of s) (flat_map effect_of steps), effects-many steps, sum_by-cons (λ (s : Step). length (effect_of s)) s steps)

parts-many : (parts : List Part) → length (effects_of_parts parts) ≡ effects_in parts
parts-many [] = refl
parts-many (p ∷ parts) = omega (arith, length-append (flat_map effect_of p.script) (effects_of_parts parts), effects-many p.script, parts-many parts, next-effects p parts)

parts-outs : (parts : List Part) → outs_of_parts parts ≤ effects_in parts
parts-outs [] = omega arith
parts-outs (p ∷ parts) = omega (arith, sum_by-cons (λ (p : Part). outs p.script) p parts, outs-few p.script, parts-outs parts, next-effects p parts)

pub quiet-room : (parts : List Part) → effects_in parts ≡ 0 → log_room parts ≡ 512
quiet-room parts none =
    let names : length (names_with [] (effects_of_parts parts)) ≡ 0 = ap (λ names. length (names_with [] names)) (no-length (effects_of_parts parts) (omega (arith, parts-many parts, none))) in
    omega (arith, names, parts-outs parts, none)

-- the attempts in slots, by their places
by-place : (c : Catalogue) (slots : List (Option AttemptView)) → ArePlayedBy c slots → (i : ℕ) (a : AttemptView) → slice_get slots i ≡ Some (Some a) → IsPlayedBy c a
by-place c slots all i a at =
    let e : suc i - 1 ≡ i = omega arith in
    all (suc i) a (in-slot slots (suc i) a (ap (slice_get slots) e ∙ at))

abbrev aside : Catalogue → HeldAttempt → ℕ
aside c a = log_room (parts_held c a)

sum-aside : (c : Catalogue) (slots : List (Option AttemptView)) → ((i : ℕ) (a : AttemptView) → slice_get slots i ≡ Some (Some a) → IsPlayedBy c a)
    → sum_by (aside c) (held_in (players_of slots)) ≡ 512 * length (held_in (players_of slots))
sum-aside c [] each = refl
sum-aside c (None ∷ slots) each = sum-aside c slots (λ i a at. each (suc i) a at)
sum-aside c (Some a ∷ slots) each = omega (
  arith,
  sum_by-cons (aside c) (held_of a) (held_in (players_of slots)),
  quiet-room (parts_of c a.recording a.kind) (each zero a refl).inside,
  sum-aside c slots (λ i a at. each (suc i) a at),
)

-- what all that are held set aside
pub all-aside : (c : Catalogue) (slots : List (Option AttemptView)) → ArePlayedBy c slots
    → sum_by (λ (a : HeldAttempt). log_room (parts_held c a)) (held_in (players_of slots)) ≡ 512 * length (held_in (players_of slots))
all-aside c slots all = sum-aside c slots (by-place c slots all)
