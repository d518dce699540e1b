-- Items of which of each two one comes before the other are, in order, the same items, each before those behind it.
use Rattle.std.proofs.Common.{◌≡◌, ◌∙◌, ℕ, ◌<◌, zero, suc, List, [], ◌∷◌, Bool, true, false, not, cond, ◌||◌, length, get_or, refl, sym, ap, subst, arith}
use Rattle.std.specs.Bool.{⊤}
use Rattle.std.specs.List.{AllByRecursion, list_any}
use Rattle.std.specs.List.Sorted.{IsPermutation}
use Rattle.std.proofs.lemmas.List.Sorted.{IsPermutation-refl, IsPermutation-trans, IsPermutation-cons, IsPermutation-swap}
use Rattle.std.proofs.lemmas.List.Elements.{All-from_recursion, All-get_or}
use Rattle.qc_base.specs.Messages.{in_order}
use Rattle.qc_store.proofs.InOrder.{IsStrictlyOrdered, in_order_is}

module _ {A : Type 0} (before : A → A → Bool) where
  -- of each two items one comes before the other, and not the other way
  abbrev pub AreApart : List A → Type 0
  AreApart [] = ⊤
  AreApart (x ∷ xs) = AllByRecursion (λ y. before y x ≡ not (before x y)) xs × AreApart xs

  abbrev pub IsUp : List A → Type 0
  IsUp [] = ⊤
  IsUp (x ∷ xs) = AllByRecursion (λ y. (before x y ≡ true) × (before y x ≡ false)) xs × IsUp xs

  put : A → List A → List A
  put x [] = x ∷ []
  put x (y ∷ ys) = cond (before x y) (x ∷ y ∷ ys) (y ∷ put x ys)

  sorted : List A → List A
  sorted [] = []
  sorted (x ∷ xs) = put x (sorted xs)

  each-put : (P : A → Type 0) (x : A) (ys : List A) → P x → AllByRecursion P ys → AllByRecursion P (put x ys)
  unfolding put
  each-put P x [] p all = (p, tt)
  each-put P x (y ∷ ys) p all = by (before x y) (each-put P x ys p all.1)
    where
      by : (b : Bool) → AllByRecursion P (put x ys) → AllByRecursion P (cond b (x ∷ y ∷ ys) (y ∷ put x ys))
      by true rest = (p, all)
      by false rest = (all.0, rest)

  each-sorted : (P : A → Type 0) (xs : List A) → AllByRecursion P xs → AllByRecursion P (sorted xs)
  unfolding sorted
  each-sorted P [] all = tt
  each-sorted P (x ∷ xs) all = each-put P x (sorted xs) all.0 (each-sorted P xs all.1)

  module _ (through : (a b c : A) → before a b ≡ true → before b c ≡ true → before a c ≡ true) (one_way : (a b : A) → before a b ≡ true → before b a ≡ false) where
    each-onward : (x y : A) (ys : List A) → before x y ≡ true → AllByRecursion (λ z. (before y z ≡ true) × (before z y ≡ false)) ys → AllByRecursion (λ z. (before x z ≡ true) × (before z x ≡ false)) ys
    each-onward x y [] h all = tt
    each-onward x y (z ∷ zs) h all =
        let on : before x z ≡ true = through x y z h all.0.0 in
        ((on, one_way x z on), each-onward x y zs h all.1)

    up-put : (x : A) (ys : List A) → IsUp ys → AllByRecursion (λ y. before y x ≡ not (before x y)) ys → IsUp (put x ys)
    unfolding put
    up-put x [] up apart = (tt, tt)
    up-put x (y ∷ ys) up apart = by (before x y) refl (up-put x ys up.1 apart.1)
      where
        by : (b : Bool) → before x y ≡ b → IsUp (put x ys) → IsUp (cond b (x ∷ y ∷ ys) (y ∷ put x ys))
        by true e rest = (((e, one_way x y e), each-onward x y ys e up.0), up)
        by false e rest =
            let back : before y x ≡ true = apart.0 ∙ ap not e in
            (each-put (λ z. (before y z ≡ true) × (before z y ≡ false)) x ys (back, e) up.0, rest)

    up-sorted : (xs : List A) → AreApart xs → IsUp (sorted xs)
    unfolding sorted
    up-sorted [] apart = tt
    up-sorted (x ∷ xs) apart = up-put x (sorted xs) (up-sorted xs apart.1) (each-sorted (λ y. before y x ≡ not (before x y)) xs apart.0)

    strictly : (ys : List A) → IsUp ys → IsStrictlyOrdered before ys
    strictly [] up = λ i j d lt lj. absurd (omega arith)
    strictly (y ∷ ys) up = by (strictly ys up.1)
      where
        by : IsStrictlyOrdered before ys → (i j : ℕ) (d : A) → i < j → j < length (y ∷ ys) → (before (get_or (y ∷ ys) i d) (get_or (y ∷ ys) j d) ≡ true) × (before (get_or (y ∷ ys) j d) (get_or (y ∷ ys) i d) ≡ false)
        by on i zero d lt lj = absurd (omega arith)
        by on zero (suc j) d lt lj = All-get_or (λ z. (before y z ≡ true) × (before z y ≡ false)) ys j d (omega arith) (All-from_recursion (λ z. (before y z ≡ true) × (before z y ≡ false)) ys up.0)
        by on (suc i) (suc j) d lt lj = on i j d (omega arith) (omega arith)

    same-put : (x : A) (ys : List A) → IsPermutation (x ∷ ys) (put x ys)
    unfolding put
    same-put x [] = IsPermutation-refl (x ∷ [])
    same-put x (y ∷ ys) = by (before x y) (same-put x ys)
      where
        by : (b : Bool) → IsPermutation (x ∷ ys) (put x ys) → IsPermutation (x ∷ y ∷ ys) (cond b (x ∷ y ∷ ys) (y ∷ put x ys))
        by true rest = IsPermutation-refl (x ∷ y ∷ ys)
        by false rest = IsPermutation-trans (x ∷ y ∷ ys) (y ∷ x ∷ ys) (y ∷ put x ys) (IsPermutation-swap (x ∷ y ∷ ys) (y ∷ x ∷ ys) 0 1 (omega arith) (omega arith) refl) (IsPermutation-cons y (x ∷ ys) (put x ys) rest)

    same-sorted : (xs : List A) → IsPermutation xs (sorted xs)
    unfolding sorted
    same-sorted [] = IsPermutation-refl []
    same-sorted (x ∷ xs) = IsPermutation-trans (x ∷ xs) (x ∷ sorted xs) (put x (sorted xs)) (IsPermutation-cons x xs (sorted xs) (same-sorted xs)) (same-put x (sorted xs))

    in_order-sorted : (xs : List A) → ((x : A) → before x x ≡ false) → AreApart xs → in_order before xs ≡ sorted xs
    in_order-sorted xs irreflexive apart = in_order_is before xs (sorted xs) irreflexive (same-sorted xs) (strictly (sorted xs) (up-sorted xs apart))

    pub in_order-permutes : (xs : List A) → ((x : A) → before x x ≡ false) → AreApart xs → IsPermutation xs (in_order before xs)
    in_order-permutes xs irreflexive apart = rw (in_order-sorted xs irreflexive apart) (same-sorted xs)

    pub in_order-up : (xs : List A) → ((x : A) → before x x ≡ false) → AreApart xs → IsUp (in_order before xs)
    in_order-up xs irreflexive apart = subst IsUp (sym (in_order-sorted xs irreflexive apart)) (up-sorted xs apart)

    any-put : (p : A → Bool) (x : A) (ys : List A) → list_any p (put x ys) ≡ (p x || list_any p ys)
    unfolding put
    any-put p x [] = refl
    any-put p x (y ∷ ys) = by (before x y) (any-put p x ys)
      where
        swap : (a b c : Bool) → (b || (a || c)) ≡ (a || (b || c))
        swap true true c = refl
        swap true false c = refl
        swap false b c = refl

        by : (b : Bool) → list_any p (put x ys) ≡ (p x || list_any p ys) → list_any p (cond b (x ∷ y ∷ ys) (y ∷ put x ys)) ≡ (p x || (p y || list_any p ys))
        by true rest = refl
        by false rest = ap (λ b. p y || b) rest ∙ swap (p x) (p y) (list_any p ys)

    any-sorted : (p : A → Bool) (xs : List A) → list_any p (sorted xs) ≡ list_any p xs
    unfolding sorted
    any-sorted p [] = refl
    any-sorted p (x ∷ xs) = any-put p x (sorted xs) ∙ ap (λ b. p x || b) (any-sorted p xs)

    pub in_order-any : (p : A → Bool) (xs : List A) → ((x : A) → before x x ≡ false) → AreApart xs → list_any p (in_order before xs) ≡ list_any p xs
    in_order-any p xs irreflexive apart = ap (list_any p) (in_order-sorted xs irreflexive apart) ∙ any-sorted p xs
