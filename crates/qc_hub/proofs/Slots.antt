-- What players hold once a slot was set.
use Rattle.std.proofs.Common.{◌≡◌, ◌⊎◌, ⊎_elim, ℕ, ◌-◌, ◌<◌, zero, suc, leb, leb-true, List, [], ◌∷◌, true, length, slice_get, slice_set, refl, sym, ap, arith, Option, Some, None, option_and_then}
use Rattle.std.proofs.lemmas.Bool.{and_parts}
use Rattle.qc_machine.specs.Slots.{is_slot}
use Rattle.qc_machine.specs.State.{HeldAttempt, in_slot, set_slot}
use Rattle.qc_machine.proofs.PlayerSlots.{got-set}
use Rattle.qc_machine.proofs.Recorders.{in-list, in-slot}
use Rattle.qc_rows.specs.Places.{Places}
use Rattle.qc_hub.specs.Stands.{HasPlaces, HavePlaces}

-- a slot has what it was set to
set-at : {A : Type 0} (xs : List A) (i : ℕ) (v : A) → i < length xs → slice_get (slice_set xs i v) i ≡ Some v
set-at [] i v lt = absurd (omega (arith, lt))
set-at (x ∷ xs) zero v lt = refl
set-at (x ∷ xs) (suc i) v lt = set-at xs i v (omega (arith, lt))

pub slot-set : {A : Type 0} (slots : List (Option A)) (n : ℕ) (v : Option A) → is_slot n ≡ true → length slots ≡ 16 → in_slot n (set_slot n v slots) ≡ v
slot-set slots n v slot many =
    let parts = and_parts (leb 1 n) (leb n 16) slot in
    ap (option_and_then (λ o. o)) (set-at slots (n - 1) v (omega (arith, leb-true 1 n parts.0, leb-true n 16 parts.1, many)))

-- a slot that is free is set to nothing
set-free : {A : Type 0} (xs : List (Option A)) (i : ℕ) → option_and_then (λ o. o) (slice_get xs i) ≡ None → slice_set xs i None ≡ xs
set-free [] i e = refl
set-free {A = A} (x ∷ xs) zero e = ap (λ (y : Option A). y ∷ xs) (sym e)
set-free {A = A} (x ∷ xs) (suc i) e = ap (λ (l : List (Option A)). x ∷ l) (set-free xs i e)

pub freed-same : {A : Type 0} (slots : List (Option A)) (n : ℕ) → in_slot n slots ≡ None → set_slot n None slots ≡ slots
freed-same slots n e = set-free slots (n - 1) e

-- rows have places behind a slot that is set

pub places-set : (places : List Places) (players : List (Option HeldAttempt)) (n : ℕ) (v : Option HeldAttempt) → HavePlaces places players → ((a : HeldAttempt) → v ≡ Some a → HasPlaces places a) → HavePlaces places (set_slot n v players)
places-set places players n v have own m a at =
    ⊎_elim
    (λ (e : (m - 1 ≡ n - 1) × (Some a ≡ v)). own a (sym e.1))
    (λ (e : (m - 1 ≡ n - 1 → ⊥) × (slice_get players (m - 1) ≡ Some (Some a))). have m a (in-slot players m a e.1))
    (got-set players (n - 1) (m - 1) v (Some a) (in-list (set_slot n v players) m a at))
