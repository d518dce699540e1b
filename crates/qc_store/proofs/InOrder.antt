-- A list that is sorted strictly, and holds the items of another, is those items in order.
use Rattle.std.proofs.Common.{◌≡◌, ◌∙◌, ℕ, ◌+◌, ◌<◌, ◌==◌, zero, suc, List, [], ◌∷◌, Bool, true, false, cond, Option, Some, All, Contains, length, get_or, filter_map, find, count_by, refl, sym, ap, arith, true≢false, eq-eqb}
use Rattle.std.specs.List.{enumerate_from, cons_option}
use Rattle.std.specs.List.Sorted.{IsPermutation}
use Rattle.std.proofs.lemmas.List.Sorted.{sum_by-IsPermutation, IsPermutation-sym, All-permutation, Contains-permutation, length_permutation}
use Rattle.std.proofs.lemmas.List.{get_or_default}
use Rattle.std.proofs.lemmas.List.Sums.{sum_by-cons}
use Rattle.std.proofs.lemmas.List.Elements.{All-head, All-tail, Contains-get_or}
use Rattle.std.proofs.lemmas.Bool.{eqb-true}
use Rattle.qc_base.specs.Messages.{in_order}

module _ {A : Type 0} (before : A → A → Bool) where
  -- each item comes before those behind it, and none of those before it
  abbrev pub IsStrictlyOrdered : List A → Type 0
  IsStrictlyOrdered ys = (i j : ℕ) (d : A) → i < j → j < length ys → (before (get_or ys i d) (get_or ys j d) ≡ true) × (before (get_or ys j d) (get_or ys i d) ≡ false)

  ordered_tail : (y : A) (ys : List A) → IsStrictlyOrdered (y ∷ ys) → IsStrictlyOrdered ys
  ordered_tail y ys h = λ i j d p q. h (suc i) (suc j) d (omega arith) (omega arith)

  -- how many items come before x
  abbrev rank : List A → A → ℕ
  rank xs x = count_by (λ y. before y x) xs

  rank-cons : (y : A) (ys : List A) (x : A) (b : Bool) → before y x ≡ b → rank (y ∷ ys) x ≡ cond b 1 0 + rank ys x
  rank-cons y ys x b e = sum_by-cons (λ z. cond (before z x) 1 0) y ys ∙ ap (λ (t : Bool). cond t 1 0 + rank ys x) e

  rank_none : (ys : List A) (x : A) → All (λ y. before y x ≡ false) ys → rank ys x ≡ 0
  rank_none [] x h = refl
  rank_none (y ∷ ys) x h =
      rank-cons y ys x false (All-head (λ z. before z x ≡ false) y ys h) ∙ omega (arith, rank_none ys x (All-tail (λ z. before z x ≡ false) y ys h))

  module _ (irreflexive : (x : A) → before x x ≡ false) where
    -- an item has the rank of its place
    rank_at : (ys : List A) (k : ℕ) (d : A) → IsStrictlyOrdered ys → k < length ys → rank ys (get_or ys k d) ≡ k
    rank_at [] k d h lt = absurd (omega arith)
    rank_at (y ∷ ys) zero d h lt =
        let behind : All (λ z. before z y ≡ false) ys = λ j e q. (h zero (suc j) e (omega arith) (omega arith)).1 in
        rank-cons y ys y false (irreflexive y) ∙ omega (arith, rank_none ys y behind)
    rank_at (y ∷ ys) (suc k) d h lt =
        let x = get_or ys k d in
        let one : before y x ≡ true = (h zero (suc k) d (omega arith) lt).0 in
        rank-cons y ys x true one ∙ omega (arith, rank_at ys k d (ordered_tail y ys h) (omega arith))

    -- what has the rank k is the item at k
    at_rank : (ys : List A) (k : ℕ) (d : A) → IsStrictlyOrdered ys → k < length ys → All (λ z. (rank ys z == k) ≡ true → z ≡ get_or ys k d) ys
    at_rank ys k d h lt = λ j e q t.
        let here : rank ys (get_or ys j e) ≡ j = rank_at ys j e h q in
        let same : rank ys (get_or ys j e) ≡ k = eqb-true _ _ t in
        let jk : j ≡ k = omega arith in
        ap (λ n. get_or ys n e) jk ∙ get_or_default ys k e d lt

  -- the first item that passes is the only one that passes
  pub find_only : (p : A → Bool) (y : A) (xs : List A) → Contains xs y → p y ≡ true → All (λ z. p z ≡ true → z ≡ y) xs → find p xs ≡ Some y
  find_only p y [] c t h = absurd (omega (arith, c.1))
  find_only p y (x ∷ xs) c t h = by (p x) refl (λ d. find_only p y xs d t (All-tail (λ z. p z ≡ true → z ≡ y) x xs h))
    where
      only : p x ≡ true → x ≡ y
      only = All-head (λ z. p z ≡ true → z ≡ y) x xs h

      rest : p x ≡ false → (k : ℕ) → k < length (x ∷ xs) → get_or (x ∷ xs) k y ≡ y → Contains xs y
      rest f zero lt is = absurd (true≢false (sym t ∙ ap p (sym is) ∙ f))
      rest f (suc k) lt is = (k, omega arith, is)

      by : (b : Bool) → p x ≡ b → (Contains xs y → find p xs ≡ Some y) → cond b (Some x) (find p xs) ≡ Some y
      by true e on = ap Some (only e)
      by false e on = on (rest e c.0 c.1 c.2)

  -- a function of the places that gives the items of ys
  read_off : (g : ℕ → Option A) (a : ℕ) (xs ys : List A) → length xs ≡ length ys → ((k : ℕ) (d : A) → k < length ys → g (a + k) ≡ Some (get_or ys k d)) → filter_map (λ (p : ℕ × A). g p.0) (enumerate_from a xs) ≡ ys
  read_off g a [] [] e h = refl
  read_off g a [] (y ∷ ys) e h = absurd (omega arith)
  read_off g a (x ∷ xs) [] e h = absurd (omega arith)
  read_off g a (x ∷ xs) (y ∷ ys) e h =
      let first : g a ≡ Some y = ap g (omega arith) ∙ h zero y (omega arith) in
      let rest : filter_map (λ (p : ℕ × A). g p.0) (enumerate_from (a + 1) xs) ≡ ys =
      read_off g (a + 1) xs ys (omega arith) (λ k d lt. ap g (omega arith) ∙ h (suc k) d (omega arith)) in
      ap (λ o. cons_option o (filter_map (λ (p : ℕ × A). g p.0) (enumerate_from (a + 1) xs))) first ∙ ap (λ l. y ∷ l) rest

  pub in_order_is : (xs ys : List A) → ((x : A) → before x x ≡ false) → IsPermutation xs ys → IsStrictlyOrdered ys → in_order before xs ≡ ys
  in_order_is xs ys irreflexive same up =
      let ranks : (x : A) → rank ys x ≡ rank xs x = λ x. sum_by-IsPermutation (λ y. cond (before y x) 1 0) xs ys same in
      let back : IsPermutation ys xs = IsPermutation-sym xs ys same in
      read_off (λ k. find (λ x. rank xs x == k) xs) 0 xs ys (sym (length_permutation xs ys same)) (λ k d lt.
      let y = get_or ys k d in
      let at : (rank xs y == (0 + k)) ≡ true = eq-eqb _ _ (sym (ranks y) ∙ rank_at irreflexive ys k d up lt ∙ omega arith) in
      let only : All (λ z. (rank ys z == k) ≡ true → z ≡ y) xs = All-permutation (λ z. (rank ys z == k) ≡ true → z ≡ y) ys xs back (at_rank irreflexive ys k d up lt) in
      find_only (λ x. rank xs x == (0 + k)) y xs (Contains-permutation ys xs y back (Contains-get_or ys k d lt)) at (λ j e q t. only j e q (ap (λ n. n == k) (ranks _) ∙ ap (λ n. rank xs (get_or xs j e) == n) (omega arith) ∙ t)))
