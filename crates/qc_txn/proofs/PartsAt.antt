-- The call at a place.
use Rattle.std.proofs.Common.{◌≡◌, ◌∙◌, ℕ, zero, suc, ◌+◌, ◌<◌, ◌≤◌, List, [], ◌∷◌, Bool, true, false, length, drop, refl, sym, ap, subst, Option, Some, None, option_map, slice_get, arith}
use Rattle.std.specs.List.{list_all}
use Rattle.std.specs.Option.{option_map_or}
use Rattle.std.specs.Prelude.{option_and_then}
use Rattle.std.proofs.lemmas.Grind.{common_steps}
use Rattle.std.proofs.lemmas.Option.{none-some, same_Some}
use Rattle.qc_base.specs.declared.fact.Kind.{Kind}
use Rattle.qc_base.specs.declared.fact.Kind.TheVariants.{Normal, Final}
use Rattle.qc_base.specs.declared.recording.Call.{Call}
use Rattle.qc_base.specs.declared.recording.Recording.{Recording}
use Rattle.qc_script.specs.Naming.{effects}
use Rattle.qc_catalogue.specs.declared.catalogue.App.{App}
use Rattle.qc_catalogue.specs.declared.catalogue.Catalogue.{Catalogue}
use Rattle.qc_catalogue.specs.declared.catalogue.Component.{Component}
use Rattle.qc_catalogue.specs.declared.catalogue.Exception.{Exception}
use Rattle.qc_catalogue.specs.declared.catalogue.Method.{Method}
use Rattle.qc_catalogue.specs.Lookup.{app_named, method_of}
use Rattle.qc_base.specs.declared.log_line.Stage.{Stage}
use Rattle.qc_play.specs.Play.{Play}
use Rattle.qc_txn.specs.Attempt.{AttemptView, PlaysBy, count_of, effects_in}
use Rattle.qc_txn.specs.Parts.{Part, component_at, exception_by, has_method, is_playable, methods_in, part_of_call, part_of_class, parts_from, parts_in, parts_of}

call_at : (n : ℕ) (methods : List Method) (calls : List Call) (i : ℕ) → slice_get (parts_from n methods calls) i ≡ option_map (part_of_call (i + n) methods) (slice_get calls i)
call_at n methods [] i = refl
call_at n methods (call ∷ calls) zero =
    let e : n ≡ 0 + n = omega arith in
    ap (λ k. Some (part_of_call k methods call)) e
call_at n methods (call ∷ calls) (suc i) =
    let e : i + (n + 1) ≡ suc i + n = omega arith in
    call_at (n + 1) methods calls i ∙ ap (λ k. option_map (part_of_call k methods) (slice_get calls i)) e

pub none_at : (methods : List Method) (calls : List Call) (i : ℕ) → slice_get calls i ≡ None → slice_get (parts_from 1 methods calls) i ≡ None
none_at methods calls i e = call_at 1 methods calls i ∙ ap (option_map (part_of_call (i + 1) methods)) e

pub part_at : (methods : List Method) (calls : List Call) (i : ℕ) (call : Call) (m : Method) → slice_get calls i ≡ Some call → method_of call.method methods ≡ Some m
    → slice_get (parts_from 1 methods calls) i ≡ Some (record { number = i + 1; script = m.script; args = call.args })
part_at methods calls i call m e found = call_at 1 methods calls i ∙ ap (option_map (part_of_call (i + 1) methods)) e ∙ rw found refl

-- what stands from a place on
pub drop_at : {A : Type 0} (xs : List A) (i : ℕ) (x : A) → slice_get xs i ≡ Some x → drop i xs ≡ x ∷ drop (suc i) xs
drop_at [] i x e = absurd (none-some x e)
drop_at (y ∷ ys) zero x e = ap (λ z. z ∷ ys) (same_Some y x e)
drop_at (y ∷ ys) (suc i) x e = drop_at ys i x e

pub nothing_at : {A : Type 0} (xs : List A) (i : ℕ) → slice_get xs i ≡ None → i < length xs → ⊥
nothing_at [] i e less = omega (arith, less)
nothing_at (y ∷ ys) zero e less = grind arith
nothing_at (y ∷ ys) (suc i) e less = nothing_at ys i e (omega (arith, less))

length_from : (n : ℕ) (methods : List Method) (calls : List Call) → length (parts_from n methods calls) ≡ length calls
length_from n methods [] = refl
length_from n methods (call ∷ calls) = ap suc (length_from (n + 1) methods calls)

untrue : false ≡ true → ⊥
untrue e = cc

-- an attempt plays each recorded call, and a final one the exception class's own script besides
pub count_is : (c : Catalogue) (r : Recording) (kind : Kind) → is_playable c r kind ≡ true → length (parts_of c r kind) ≡ count_of r kind
count_is c r kind playable = in_app (app_named r.app c.apps) playable
  where
    by_class : (o : Option Exception)
        → option_map_or (λ methods. list_all (has_method methods) r.calls) (option_map (λ (x : Exception). x.methods) o) false ≡ true
        → length (option_map_or (λ (x : Exception). part_of_class x ∷ parts_from 1 x.methods r.calls) o []) ≡ length r.calls + 1
    by_class None h = absurd (untrue h)
    by_class (Some x) h = let e = length_from 1 x.methods r.calls in omega (arith, e)

    by_component : (a : App) (kind : Kind) (o : Option Component)
        → option_map_or (λ methods. list_all (has_method methods) r.calls) (methods_in a kind o) false ≡ true
        → length (parts_in a r kind o) ≡ count_of r kind
    by_component a Normal None h = absurd (untrue h)
    by_component a Normal (Some k) h = length_from 1 k.methods r.calls
    by_component a Final None h = absurd (untrue h)
    by_component a Final (Some k) h = by_class (exception_by a k) h

    in_app : (o : Option App)
        → option_map_or (λ methods. list_all (has_method methods) r.calls) (option_and_then (λ (a : App). methods_in a kind (component_at r.component a)) o) false ≡ true
        → length (option_map_or (λ (a : App). parts_in a r kind (component_at r.component a)) o []) ≡ count_of r kind
    in_app None h = absurd (untrue h)
    in_app (Some a) h = by_component a kind (component_at r.component a) h

next_effects : (p : Part) (parts : List Part) → effects_in (p ∷ parts) ≡ effects p.script + effects_in parts
next_effects p parts = grind (arith, common_steps)

-- the effects of the next call and of those behind it
pub effects_at : (parts : List Part) (i : ℕ) (p : Part) → slice_get parts i ≡ Some p → effects_in (drop i parts) ≡ effects p.script + effects_in (drop (suc i) parts)
effects_at parts i p e = ap effects_in (drop_at parts i p e) ∙ next_effects p (drop (suc i) parts)

-- an attempt goes on behind a call that took no more room than its script has effects
pub plays_on : (c : Catalogue) (a : AttemptView) (p : Part) (play : Play) (room : ℕ) (stage : Stage) → PlaysBy c a → slice_get (parts_of c a.recording a.kind) a.calls ≡ Some p
    → a.room ≤ room + effects p.script → PlaysBy c (record a { play = play; room = room; calls = a.calls + 1; stage = stage })
plays_on c a p play room stage plays at left =
    let next = effects_at (parts_of c a.recording a.kind) a.calls p at in
    let one : suc a.calls ≡ a.calls + 1 = omega arith in
    let had = plays.room in
    let rest : effects_in (drop (suc a.calls) (parts_of c a.recording a.kind)) ≤ room = omega (arith, next, had, left) in
    record {
      playable = plays.playable;
      room = subst (λ n. effects_in (drop n (parts_of c a.recording a.kind)) ≤ room) one rest;
    }

pub nothing_left : (parts : List Part) (i : ℕ) → length parts ≤ i → effects_in (drop i parts) ≡ 0
nothing_left [] zero h = refl
nothing_left [] (suc i) h = refl
nothing_left (p ∷ parts) zero h = absurd (omega (arith, h))
nothing_left (p ∷ parts) (suc i) h = nothing_left parts i (omega (arith, h))
