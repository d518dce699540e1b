-- Numbers in order, each of them once.
use Rattle.std.proofs.Common.{◌≡◌, ◌≢◌, ◌∙◌, ℕ, zero, suc, ◌+◌, ◌<◌, ◌≤◌, ◌==◌, nat_lt, nat_le, List, [], ◌∷◌, Bool, true, false, cond, ◌||◌, Option, Some, None, length, filter, filter_map, find, count_by, refl, sym, ap, subst, arith, true≢false, eq-eqb, ⊎_elim}
use Rattle.std.specs.List.{list_any, enumerate_from, cons_option}
use Rattle.std.proofs.lemmas.List.Sums.{sum_by-cons}
use Rattle.std.proofs.lemmas.Bool.{eqb-true, cases_lt}
use Rattle.std.proofs.lemmas.Bool.Decides.{nat_tests}
use Rattle.qc_base.specs.Messages.{in_order}

-- whether the number is there
abbrev pub has : List ℕ → ℕ → Bool
has xs n = list_any (λ m. m == n) xs

-- each number is below those behind it
abbrev pub Rises : List ℕ → Type 0
Rises [] = zero ≡ zero
Rises (y ∷ ys) = ((z : ℕ) → has ys z ≡ true → y < z) × Rises ys

has_there : (y z : ℕ) (ys : List ℕ) → has ys z ≡ true → has (y ∷ ys) z ≡ true
has_there y z ys h = by (y == z)
  where
    by : (b : Bool) → b || has ys z ≡ true
    by true = refl
    by false = h

has_here : (y : ℕ) (ys : List ℕ) → has (y ∷ ys) y ≡ true
has_here y ys = ap (λ b. b || has ys y) (eq-eqb y y refl)

le_yes : (a n : ℕ) → a ≤ n → nat_le a n ≡ true
le_yes a n h = grind (arith, nat_tests)

le_no : (a n : ℕ) → n < a → nat_le a n ≡ false
le_no a n h = grind (arith, nat_tests)

-- how many of these are below a number

abbrev rank : List ℕ → ℕ → ℕ
rank xs x = count_by (λ y. nat_lt y x) xs

-- 1 where the first is below the second
abbrev low : ℕ → ℕ → ℕ
low z x = cond (nat_lt z x) 1 0

rank_cons : (z x : ℕ) (xs : List ℕ) → rank (z ∷ xs) x ≡ low z x + rank xs x
rank_cons z x xs = sum_by-cons (λ y. cond (nat_lt y x) 1 0) z xs

one_if : (z x : ℕ) → z < x → low z x ≡ 1
one_if z x h = ap (λ (b : Bool). cond b 1 0) (yes z x h)
  where
    yes : (a n : ℕ) → a < n → nat_lt a n ≡ true
    yes a n h = grind (arith, nat_tests)

none_if : (z x : ℕ) → x ≤ z → low z x ≡ 0
none_if z x h = ap (λ (b : Bool). cond b 1 0) (no z x h)
  where
    no : (a n : ℕ) → n ≤ a → nat_lt a n ≡ false
    no a n h = grind (arith, nat_tests)

step_le : (z x y : ℕ) → x ≤ y → low z x ≤ low z y
step_le z x y le = ⊎_elim
    (λ (lt : z < x). omega (arith, one_if z x lt, one_if z y (omega (arith, lt, le))))
    (λ (ge : x ≤ z). omega (arith, none_if z x ge))
    (cases_lt z x)

rank_le : (xs : List ℕ) (x y : ℕ) → x ≤ y → rank xs x ≤ rank xs y
rank_le [] x y le = omega arith
rank_le (z ∷ xs) x y le = omega (arith, rank_cons z x xs, rank_cons z y xs, rank_le xs x y le, step_le z x y le)

-- a greater number has a greater rank
rank_lt : (xs : List ℕ) (x y : ℕ) → x < y → has xs x ≡ true → rank xs x < rank xs y
rank_lt [] x y lt h = absurd (true≢false (sym h))
rank_lt (z ∷ xs) x y lt h = by (z == x) refl h (λ g. rank_lt xs x y lt g)
  where
    by : (b : Bool) → (z == x) ≡ b → b || has xs x ≡ true → (has xs x ≡ true → rank xs x < rank xs y) → rank (z ∷ xs) x < rank (z ∷ xs) y
    by true e g on =
        let same : z ≡ x = eqb-true z x e in
        omega (arith, rank_cons z x xs, rank_cons z y xs, rank_le xs x y (omega (arith, lt)), none_if z x (omega (arith, same)), one_if z y (omega (arith, same, lt)))
    by false e g on = omega (arith, rank_cons z x xs, rank_cons z y xs, on g, step_le z x y (omega (arith, lt)))

-- a number that is there has a rank within the list
rank_within : (xs : List ℕ) (x : ℕ) → has xs x ≡ true → rank xs x < length xs
rank_within [] x h = absurd (true≢false (sym h))
rank_within (z ∷ xs) x h = by (z == x) refl h (λ g. rank_within xs x g)
  where
    at_most : (ys : List ℕ) → rank ys x ≤ length ys
    at_most [] = omega arith
    at_most (y ∷ ys) = ⊎_elim
        (λ (lt : y < x). omega (arith, rank_cons y x ys, one_if y x lt, at_most ys))
        (λ (ge : x ≤ y). omega (arith, rank_cons y x ys, none_if y x ge, at_most ys))
        (cases_lt y x)

    by : (b : Bool) → (z == x) ≡ b → b || has xs x ≡ true → (has xs x ≡ true → rank xs x < length xs) → rank (z ∷ xs) x < length (z ∷ xs)
    by true e g on = omega (arith, rank_cons z x xs, none_if z x (omega (arith, eqb-true z x e)), at_most xs)
    by false e g on = ⊎_elim
        (λ (lt : z < x). omega (arith, rank_cons z x xs, one_if z x lt, on g))
        (λ (ge : x ≤ z). omega (arith, rank_cons z x xs, none_if z x ge, on g))
        (cases_lt z x)

-- the first that passes a test

some_none : (y : ℕ) → Some y ≡ None → ⊥
some_none y e = cc

find_some : (p : ℕ → Bool) (xs : List ℕ) (x : ℕ) → find p xs ≡ Some x → (p x ≡ true) × (has xs x ≡ true)
find_some p [] x e = absurd (some_none x (sym e))
find_some p (y ∷ xs) x e = by (p y) refl e (λ g. find_some p xs x g)
  where
    by : (b : Bool) → p y ≡ b → cond b (Some y) (find p xs) ≡ Some x → (find p xs ≡ Some x → (p x ≡ true) × (has xs x ≡ true)) → (p x ≡ true) × (has (y ∷ xs) x ≡ true)
    by true h g on =
        let same : y ≡ x = cc in
        (subst (λ n. p n ≡ true) same h, subst (λ n. has (y ∷ xs) n ≡ true) same (has_here y xs))
    by false h g on = ((on g).0, has_there y x xs (on g).1)

find_none : (p : ℕ → Bool) (xs : List ℕ) (x : ℕ) → find p xs ≡ None → has xs x ≡ true → p x ≡ false
find_none p [] x e h = absurd (true≢false (sym h))
find_none p (y ∷ xs) x e h = by (p y) refl e (λ g k. find_none p xs x g k)
  where
    here : (c : Bool) → (y == x) ≡ c → p y ≡ false → c || has xs x ≡ true → (has xs x ≡ true → p x ≡ false) → p x ≡ false
    here true f lacks k on = subst (λ n. p n ≡ false) (eqb-true y x f) lacks
    here false f lacks k on = on k

    by : (b : Bool) → p y ≡ b → cond b (Some y) (find p xs) ≡ None → (find p xs ≡ None → has xs x ≡ true → p x ≡ false) → p x ≡ false
    by true f g on = absurd (some_none y g)
    by false f g on = here (y == x) refl f h (λ k. on g k)

-- those from a rank on

module _ (r : ℕ → ℕ) where
  abbrev from : ℕ → List ℕ → List ℕ
  from a ys = filter (λ y. nat_le a (r y)) ys

  kept : (a y : ℕ) (ys : List ℕ) → a ≤ r y → from a (y ∷ ys) ≡ y ∷ from a ys
  kept a y ys le = ap (λ (b : Bool). cond b (y ∷ from a ys) (from a ys)) (le_yes a (r y) le)

  left_out : (a y : ℕ) (ys : List ℕ) → r y < a → from a (y ∷ ys) ≡ from a ys
  left_out a y ys lt = ap (λ (b : Bool). cond b (y ∷ from a ys) (from a ys)) (le_no a (r y) lt)

  none_at : (a : ℕ) (ys : List ℕ) → ((y : ℕ) → has ys y ≡ true → r y ≢ a) → from a ys ≡ from (suc a) ys
  none_at a [] other = refl
  none_at a (y ∷ ys) other =
      let rest = none_at a ys (λ z h. other z (has_there y z ys h)) in
      let here = other y (has_here y ys) in
      ⊎_elim
      (λ (lt : r y < a). left_out a y ys lt ∙ rest ∙ sym (left_out (suc a) y ys (omega (arith, lt))))
      (λ (ge : a ≤ r y). kept a y ys ge ∙ ap (λ (l : List ℕ). y ∷ l) rest ∙ sym (kept (suc a) y ys (above a (r y) ge here)))
      (cases_lt (r y) a)
    where
      above : (a n : ℕ) → a ≤ n → n ≢ a → suc a ≤ n
      above a n le other = ⊎_elim (λ (lt : a < n). omega (arith, lt)) (λ (ge : n ≤ a). absurd (other (omega (arith, le, ge)))) (cases_lt a n)

  module _ (xs : List ℕ) (up : (u v : ℕ) → u < v → has xs u ≡ true → r u < r v) where
    one_at : (a x : ℕ) (ys : List ℕ) → Rises ys → ((z : ℕ) → has ys z ≡ true → has xs z ≡ true) → has ys x ≡ true → r x ≡ a → from a ys ≡ x ∷ from (suc a) ys
    one_at a x [] rises inside h is = absurd (true≢false (sym h))
    one_at a x (y ∷ ys) rises inside h is = by (y == x) refl h (λ g. one_at a x ys rises.1 (λ z k. inside z (has_there y z ys k)) g is)
      where
        y_inside : has xs y ≡ true
        y_inside = inside y (has_here y ys)

        by : (b : Bool) → (y == x) ≡ b → b || has ys x ≡ true → (has ys x ≡ true → from a ys ≡ x ∷ from (suc a) ys) → from a (y ∷ ys) ≡ x ∷ from (suc a) (y ∷ ys)
        by true e g on =
            let same : y ≡ x = eqb-true y x e in
            let rank_y : r y ≡ a = ap r same ∙ is in
            let rest : from a ys ≡ from (suc a) ys = none_at a ys (λ z k eq. omega (arith, up y z (rises.0 z k) y_inside, rank_y, eq)) in
            kept a y ys (omega (arith, rank_y)) ∙ (λ i. same i ∷ rest i) ∙ ap (λ (l : List ℕ). x ∷ l) (sym (left_out (suc a) y ys (omega (arith, rank_y))))
        by false e g on =
            let below : r y < a = omega (arith, up y x (rises.0 x g) y_inside, is) in
            left_out a y ys below ∙ on g ∙ ap (λ (l : List ℕ). x ∷ l) (sym (left_out (suc a) y ys (omega (arith, below))))

none_from : (r : ℕ → ℕ) (a : ℕ) (ys : List ℕ) → ((y : ℕ) → has ys y ≡ true → r y < a) → from r a ys ≡ []
none_from r a [] below = refl
none_from r a (y ∷ ys) below = left_out r a y ys (below y (has_here y ys)) ∙ none_from r a ys (λ z h. below z (has_there y z ys h))

all_from : (r : ℕ → ℕ) (ys : List ℕ) → from r 0 ys ≡ ys
all_from r [] = refl
all_from r (y ∷ ys) = kept r 0 y ys (omega arith) ∙ ap (λ (l : List ℕ). y ∷ l) (all_from r ys)

-- a list that rises and has the numbers of another is those numbers in order
module _ (xs ys : List ℕ) (rises : Rises ys) (same : (n : ℕ) → has ys n ≡ has xs n) where
  at : ℕ → Option ℕ
  at k = find (λ x. rank xs x == k) xs

  inside : (z : ℕ) → has ys z ≡ true → has xs z ≡ true
  inside z h = sym (same z) ∙ h

  read_off : (a : ℕ) (zs : List ℕ) → a + length zs ≡ length xs → filter_map (λ (p : ℕ × ℕ). find (λ x. rank xs x == p.0) xs) (enumerate_from a zs) ≡ from (rank xs) a ys
  read_off a [] e = sym (none_from (rank xs) a ys (λ y h. omega (arith, rank_within xs y (inside y h), e)))
  read_off a (z ∷ zs) e = by (find (λ x. rank xs x == a) xs) refl (read_off (a + 1) zs (omega (arith, e)))
    where
      rest : List ℕ
      rest = filter_map (λ (p : ℕ × ℕ). find (λ x. rank xs x == p.0) xs) (enumerate_from (a + 1) zs)

      by : (o : Option ℕ) → find (λ x. rank xs x == a) xs ≡ o → rest ≡ from (rank xs) (a + 1) ys → cons_option o rest ≡ from (rank xs) a ys
      by None none on =
          let other : (y : ℕ) → has ys y ≡ true → rank xs y ≢ a = λ y h eq. true≢false (sym (eq-eqb (rank xs y) a eq) ∙ find_none (λ x. rank xs x == a) xs y none (inside y h)) in
          on ∙ ap (λ n. from (rank xs) n ys) (omega arith) ∙ sym (none_at (rank xs) a ys other)
      by (Some x) found on =
          let facts = find_some (λ x. rank xs x == a) xs x found in
          let here = one_at (rank xs) xs (λ u v lt h. rank_lt xs u v lt h) a x ys rises inside (same x ∙ facts.1) (eqb-true (rank xs x) a facts.0) in
          ap (λ (l : List ℕ). x ∷ l) (on ∙ ap (λ n. from (rank xs) n ys) (omega arith)) ∙ sym here

  pub in_order_is : in_order nat_lt xs ≡ ys
  in_order_is = read_off 0 xs (omega arith) ∙ all_from (rank xs) ys
