-- Parts of a spelling, one behind the other.
use Rattle.std.proofs.Common.{◌≡◌, ℕ, zero, suc, ◌+◌, ◌<◌, ◌≤◌, List, [], ◌∷◌, ◌++◌, Bool, true, length, length-append, take, get_or, refl, ap, ◌∙◌, arith}
use Rattle.std.specs.List.{flat_map, list_all}
use Rattle.std.proofs.lemmas.Bool.{and_parts}
use Rattle.std.proofs.lemmas.List.Folds.{length-flat_map-take}

-- one item more stays within all of them
pub fits_more : {X : Type 0} (f : X → List ℕ) (xs : List X) (i : ℕ) (x : X) → i < length xs → x ≡ get_or xs i x → length (flat_map f (take i xs)) + length (f x) ≤ length (flat_map f xs)
fits_more f xs i x lt is = omega (arith, length-flat_map-take f xs i x lt, ap (λ y. length (f y)) is)

-- what is behind the items so far has room for one more
pub room_more : {X : Type 0} (f : X → List ℕ) (xs : List X) (i : ℕ) (x : X) (first out : List ℕ) (room : ℕ) → i < length xs → x ≡ get_or xs i x → out ≡ first ++ flat_map f (take i xs)
    → length first + length (flat_map f xs) ≤ room → length out + length (f x) ≤ room
room_more f xs i x first out room lt is all fits = omega (arith, fits_more f xs i x lt is, ap length all, length-append first (flat_map f (take i xs)))

-- each item passes where all do
pub passes_at : {X : Type 0} (p : X → Bool) (xs : List X) (i : ℕ) (x : X) → i < length xs → x ≡ get_or xs i x → list_all p xs ≡ true → p x ≡ true
passes_at p [] i x lt is all = absurd (omega arith)
passes_at p (y ∷ xs) zero x lt is all = ap p is ∙ (and_parts (p y) (list_all p xs) all).0
passes_at p (y ∷ xs) (suc i) x lt is all = passes_at p xs i x (omega arith) is (and_parts (p y) (list_all p xs) all).1

take_front : (front left : List ℕ) → take (length front) (front ++ left) ≡ front
take_front [] left = refl
take_front (b ∷ front) left = ap (λ (l : List ℕ). b ∷ l) (take_front front left)

-- what is in front, by its length
pub front_taken : (whole front left : List ℕ) (n : ℕ) → whole ≡ front ++ left → n ≡ length front → take n whole ≡ front
front_taken whole front left n e l = ap (λ (k : ℕ). take k whole) l ∙ ap (λ (w : List ℕ). take (length front) w) e ∙ take_front front left
