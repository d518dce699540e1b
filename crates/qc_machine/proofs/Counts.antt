-- Counts and sums over lists that are made of others.
use Rattle.std.proofs.Common.{◌≡◌, ◌∙◌, ℕ, ◌+◌, ◌≤◌, List, [], ◌∷◌, ◌++◌, All, Bool, true, false, cond, ◌&&◌, length, filter, count_by, sum_by, refl, sym, ap, arith, true≢false}
use Rattle.std.specs.List.{flat_map}
use Rattle.std.proofs.lemmas.List.Elements.{All-head, All-tail}
use Rattle.std.proofs.lemmas.List.Sums.{sum_by-cons, sum_by-append, sum_by-le-sum_by}
use Rattle.qc_store.proofs.Listings.{count-cons}
use Rattle.qc_store.proofs.Tallying.{one_if}

pub count-append : {A : Type 0} (p : A → Bool) (xs ys : List A) → count_by p (xs ++ ys) ≡ count_by p xs + count_by p ys
count-append p xs ys = sum_by-append (λ y. one_if (p y)) xs ys

pub count-filter : {A : Type 0} (p q : A → Bool) (xs : List A) → count_by p (filter q xs) ≡ count_by (λ x. q x && p x) xs
count-filter p q [] = refl
count-filter p q (x ∷ xs) = by (q x) (count-filter p q xs) ∙ sym (count-cons (λ y. q y && p y) x xs)
  where
    by : (b : Bool) → count_by p (filter q xs) ≡ count_by (λ y. q y && p y) xs → count_by p (cond b (x ∷ filter q xs) (filter q xs)) ≡ one_if (b && p x) + count_by (λ y. q y && p y) xs
    by true rest = count-cons p x (filter q xs) ∙ ap (λ n. one_if (p x) + n) rest
    by false rest = omega (arith, rest)

pub count-flat_map : {A B : Type 0} (p : B → Bool) (f : A → List B) (xs : List A) → count_by p (flat_map f xs) ≡ sum_by (λ x. count_by p (f x)) xs
count-flat_map p f [] = refl
count-flat_map p f (x ∷ xs) = count-append p (f x) (flat_map f xs) ∙ ap (λ n. count_by p (f x) + n) (count-flat_map p f xs) ∙ sym (sum_by-cons (λ y. count_by p (f y)) x xs)

-- tests that agree on each item count the same
pub count-same : {A : Type 0} (p q : A → Bool) (xs : List A) → All (λ x. p x ≡ q x) xs → count_by p xs ≡ count_by q xs
count-same p q [] all = refl
count-same p q (x ∷ xs) all =
    count-cons p x xs ∙ omega (arith, ap one_if (All-head (λ y. p y ≡ q y) x xs all), count-same p q xs (All-tail (λ y. p y ≡ q y) x xs all), count-cons q x xs)

pub count-all : {A : Type 0} (xs : List A) → count_by (λ x. true) xs ≡ length xs
count-all [] = refl
count-all (x ∷ xs) = count-cons (λ y. true) x xs ∙ omega (arith, count-all xs)

one-less : (b d : Bool) → (b ≡ true → d ≡ true) → one_if b ≤ one_if d
one-less true true h = omega arith
one-less true false h = absurd (true≢false (sym (h refl)))
one-less false d h = omega arith

-- a narrower test counts no more
pub count-narrower : {A : Type 0} (p q : A → Bool) → ((x : A) → p x ≡ true → q x ≡ true) → (xs : List A) → count_by p xs ≤ count_by q xs
count-narrower p q h xs = sum_by-le-sum_by (λ x. one_if (p x)) (λ x. one_if (q x)) xs (λ x. one-less (p x) (q x) (h x))

-- sums

pub sum-plus : {A : Type 0} (f g : A → ℕ) (xs : List A) → sum_by (λ x. f x + g x) xs ≡ sum_by f xs + sum_by g xs
sum-plus f g [] = refl
sum-plus f g (x ∷ xs) = sum_by-cons (λ y. f y + g y) x xs ∙ omega (arith, sum-plus f g xs, sum_by-cons f x xs, sum_by-cons g x xs)

pub sum-zero : {A : Type 0} (xs : List A) → sum_by (λ x. 0) xs ≡ 0
sum-zero [] = refl
sum-zero (x ∷ xs) = sum_by-cons (λ y. 0) x xs ∙ omega (arith, sum-zero xs)

pub sum-same : {A : Type 0} (f g : A → ℕ) → ((x : A) → f x ≡ g x) → (xs : List A) → sum_by f xs ≡ sum_by g xs
sum-same f g h xs = λ i. sum_by (λ x. h x i) xs
