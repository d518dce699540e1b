-- The rows of a table with another amount at a key.
use Rattle.std.proofs.Common.{◌≡◌, ◌∙◌, List, ℕ, ◌+◌, ◌==◌, [], ◌∷◌, ◌++◌, filter, Bool, true, false, cond, not, Some, refl, sym, ap, Ordering, Less, Equal, Greater, append-nil, arith}
use Rattle.std.specs.List.{list_all}
use Rattle.std.specs.Option.{option_map_or}
use Rattle.std.specs.Ordering.{match_ordering}
use Rattle.std.specs.Prelude.{find}
use Rattle.std.specs.Str.{bytes_eq}
use Rattle.std.proofs.lemmas.Bool.{and_parts, and_from, eqb-true}
use Rattle.std.proofs.lemmas.List.Sums.{sum_by-cons}
use Rattle.std.proofs.lemmas.Slice.Eq.{bytes_eq-Decides}
use Rattle.qc_catalogue.specs.Laws.{keys_ascend}
use Rattle.qc_rows.specs.Tables.{is_set, amount_at, sum_of}
use Rattle.qc_rows.specs.Settling.{row_if_set, with_amount}
use Rattle.qc_rows.proofs.Ascending.{order, Before, less-differs, greater-differs, equal-same, flip, itself, turned, earlier, before, behind, first-before}

abbrev Rows : Type 0
Rows = List (List ℕ × ℕ)

-- the amount at a key by whether the first row has it
abbrev first_or : Bool → List ℕ × ℕ → List ℕ → Rows → ℕ
first_or b r k rows = option_map_or (λ (r : List ℕ × ℕ). r.1) (cond b (Some r) (find (λ (r : List ℕ × ℕ). bytes_eq r.0 k) rows)) 0

pub amount-first : (k : List ℕ) (r : List ℕ × ℕ) (rows : Rows) → bytes_eq r.0 k ≡ true → amount_at k (r ∷ rows) ≡ r.1
amount-first k r rows e = ap (λ b. first_or b r k rows) e

pub amount-later : (k : List ℕ) (r : List ℕ × ℕ) (rows : Rows) → bytes_eq r.0 k ≡ false → amount_at k (r ∷ rows) ≡ amount_at k rows
amount-later k r rows e = ap (λ b. first_or b r k rows) e

-- no row behind a key has it
pub amount-none : (k : List ℕ) (rows : Rows) → Before k rows → amount_at k rows ≡ 0
amount-none k [] h = refl
amount-none k (r ∷ rows) h = amount-later k r rows (flip k r.0 false (less-differs k r.0 h.0)) ∙ amount-none k rows h.1

-- in front of rows behind the key
module _ (key : List ℕ) (amount : ℕ) where
  abbrev front : (b : Bool) → Rows
  front b = cond b [] ((key, amount) ∷ [])

  front-here : (rows : Rows) → Before key rows → amount_at key (row_if_set key amount ++ rows) ≡ amount
  front-here rows h = by (amount == 0) refl
    where
      by : (b : Bool) → (amount == 0) ≡ b → amount_at key (front b ++ rows) ≡ amount
      by true e = amount-none key rows h ∙ sym (eqb-true amount 0 e)
      by false e = amount-first key (key, amount) rows (itself key)

  front-there : (k : List ℕ) (rows : Rows) → bytes_eq key k ≡ false → amount_at k (row_if_set key amount ++ rows) ≡ amount_at k rows
  front-there k rows other = by (amount == 0)
    where
      by : (b : Bool) → amount_at k (front b ++ rows) ≡ amount_at k rows
      by true = refl
      by false = amount-later k (key, amount) rows other

  front-sum : (rows : Rows) → sum_of (row_if_set key amount ++ rows) ≡ amount + sum_of rows
  front-sum rows = by (amount == 0) refl
    where
      by : (b : Bool) → (amount == 0) ≡ b → sum_of (front b ++ rows) ≡ amount + sum_of rows
      by true e = omega (arith, eqb-true amount 0 e)
      by false e = sum_by-cons (λ (r : List ℕ × ℕ). r.1) (key, amount) rows

  front-ascends : (rows : Rows) → Before key rows → keys_ascend rows ≡ true → keys_ascend (row_if_set key amount ++ rows) ≡ true
  front-ascends rows h all = by (amount == 0)
    where
      by : (b : Bool) → keys_ascend (front b ++ rows) ≡ true
      by true = all
      by false = first-before (key, amount) rows h all

  front-set : (rows : Rows) → list_all is_set rows ≡ true → list_all is_set (row_if_set key amount ++ rows) ≡ true
  front-set rows all = by (amount == 0) refl
    where
      by : (b : Bool) → (amount == 0) ≡ b → list_all is_set (front b ++ rows) ≡ true
      by true e = all
      by false e = and_from (not (amount == 0)) (list_all is_set rows) (ap not e) all

  front-before : (k : List ℕ) (rows : Rows) → order k key ≡ Less → Before k rows → Before k (row_if_set key amount ++ rows)
  front-before k rows less h = by (amount == 0)
    where
      by : (b : Bool) → Before k (front b ++ rows)
      by true = h
      by false = (less, h)

  -- the rows with the amount, by where the key stands to the first one's
  abbrev turn : Ordering → List ℕ × ℕ → Rows → Rows
  turn o r rows = match_ordering o (row_if_set key amount ++ r ∷ rows) (row_if_set key amount ++ rows) (r ∷ with_amount key amount rows)

  pub with-before : (rows : Rows) → Before key rows → with_amount key amount rows ≡ row_if_set key amount ++ rows
  with-before [] h = sym (append-nil (row_if_set key amount))
  with-before (r ∷ rows) h = ap (λ o. turn o r rows) h.0

  pub with-at : (r : List ℕ × ℕ) (rows : Rows) → order key r.0 ≡ Equal → with_amount key amount (r ∷ rows) ≡ row_if_set key amount ++ rows
  with-at r rows e = ap (λ o. turn o r rows) e

  pub with-behind : (r : List ℕ × ℕ) (rows : Rows) → order key r.0 ≡ Greater → with_amount key amount (r ∷ rows) ≡ r ∷ with_amount key amount rows
  with-behind r rows e = ap (λ o. turn o r rows) e

  -- the key has the amount
  pub amount-here : (rows : Rows) → keys_ascend rows ≡ true → amount_at key (with_amount key amount rows) ≡ amount
  amount-here [] h = ap (amount_at key) (with-before [] tt) ∙ front-here [] tt
  amount-here (r ∷ rows) h = by (order key r.0) refl (amount-here rows (behind r rows h))
    where
      by : (o : Ordering) → order key r.0 ≡ o → amount_at key (with_amount key amount rows) ≡ amount → amount_at key (turn o r rows) ≡ amount
      by Less e rest = front-here (r ∷ rows) (e, earlier key r.0 rows e (before r rows h))
      by Equal e rest = front-here rows (rw (equal-same key r.0 e) (before r rows h))
      by Greater e rest = amount-later key r (with_amount key amount rows) (flip key r.0 false (greater-differs key r.0 e)) ∙ rest

  -- any other has what it had
  pub amount-there : (k : List ℕ) (rows : Rows) → bytes_eq key k ≡ false → amount_at k (with_amount key amount rows) ≡ amount_at k rows
  amount-there k [] other = ap (amount_at k) (with-before [] tt) ∙ front-there k [] other
  amount-there k (r ∷ rows) other = by (order key r.0) refl (amount-there k rows other)
    where
      same : (b : Bool) → amount_at k (with_amount key amount rows) ≡ amount_at k rows → first_or b r k (with_amount key amount rows) ≡ first_or b r k rows
      same true rest = refl
      same false rest = rest

      by : (o : Ordering) → order key r.0 ≡ o → amount_at k (with_amount key amount rows) ≡ amount_at k rows → amount_at k (turn o r rows) ≡ amount_at k (r ∷ rows)
      by Less e rest = front-there k (r ∷ rows) other
      by Equal e rest = front-there k rows other ∙ sym (amount-later k r rows (rw (← equal-same key r.0 e) other))
      by Greater e rest = same (bytes_eq r.0 k) rest

  -- and the sum changes by as much as the amount at the key
  pub sum-with : (rows : Rows) → keys_ascend rows ≡ true → sum_of (with_amount key amount rows) + amount_at key rows ≡ sum_of rows + amount
  sum-with [] h = omega (arith, ap sum_of (with-before [] tt), front-sum [])
  sum-with (r ∷ rows) h = by (order key r.0) refl (sum-with rows (behind r rows h))
    where
      first : sum_of (r ∷ rows) ≡ r.1 + sum_of rows
      first = sum_by-cons (λ (r : List ℕ × ℕ). r.1) r rows

      by : (o : Ordering) → order key r.0 ≡ o → sum_of (with_amount key amount rows) + amount_at key rows ≡ sum_of rows + amount
          → sum_of (turn o r rows) + amount_at key (r ∷ rows) ≡ sum_of (r ∷ rows) + amount
      by Less e rest =
          let none = amount-none key (r ∷ rows) (e, earlier key r.0 rows e (before r rows h)) in
          omega (arith, none, front-sum (r ∷ rows))
      by Equal e rest =
          let here = amount-first key r rows (rw (equal-same key r.0 e) (itself r.0)) in
          omega (arith, here, first, front-sum rows)
      by Greater e rest =
          let later = amount-later key r rows (flip key r.0 false (greater-differs key r.0 e)) in
          let more = sum_by-cons (λ (r : List ℕ × ℕ). r.1) r (with_amount key amount rows) in
          omega (arith, later, first, more, rest)

  with-later : (k : List ℕ) (rows : Rows) → order k key ≡ Less → Before k rows → Before k (with_amount key amount rows)
  with-later k [] less h = rw (with-before [] tt) (front-before k [] less tt)
  with-later k (r ∷ rows) less h = by (order key r.0) (with-later k rows less h.1)
    where
      by : (o : Ordering) → Before k (with_amount key amount rows) → Before k (turn o r rows)
      by Less rest = front-before k (r ∷ rows) less h
      by Equal rest = front-before k rows less h.1
      by Greater rest = (h.0, rest)

  -- the rows stay in order
  pub with-ascends : (rows : Rows) → keys_ascend rows ≡ true → keys_ascend (with_amount key amount rows) ≡ true
  with-ascends [] h = ap keys_ascend (with-before [] tt) ∙ front-ascends [] tt refl
  with-ascends (r ∷ rows) h = by (order key r.0) refl (with-ascends rows (behind r rows h))
    where
      by : (o : Ordering) → order key r.0 ≡ o → keys_ascend (with_amount key amount rows) ≡ true → keys_ascend (turn o r rows) ≡ true
      by Less e rest = front-ascends (r ∷ rows) (e, earlier key r.0 rows e (before r rows h)) h
      by Equal e rest = front-ascends rows (rw (equal-same key r.0 e) (before r rows h)) (behind r rows h)
      by Greater e rest = first-before r (with_amount key amount rows) (with-later r.0 rows (turned key r.0 e) (before r rows h)) rest

  -- and none has 0
  pub with-set : (rows : Rows) → list_all is_set rows ≡ true → list_all is_set (with_amount key amount rows) ≡ true
  with-set [] h = ap (list_all is_set) (with-before [] tt) ∙ front-set [] refl
  with-set (r ∷ rows) h =
      let both = and_parts (is_set r) (list_all is_set rows) h in
      by (order key r.0) both.0 both.1 (with-set rows both.1)
    where
      by : (o : Ordering) → is_set r ≡ true → list_all is_set rows ≡ true → list_all is_set (with_amount key amount rows) ≡ true → list_all is_set (turn o r rows) ≡ true
      by Less first all rest = front-set (r ∷ rows) h
      by Equal first all rest = front-set rows all
      by Greater first all rest = and_from (is_set r) (list_all is_set (with_amount key amount rows)) first rest

-- the rows without those that have 0

pub set-amount : (k : List ℕ) (rows : Rows) → keys_ascend rows ≡ true → amount_at k (filter is_set rows) ≡ amount_at k rows
set-amount k [] h = refl
set-amount k (r ∷ rows) h = by (r.1 == 0) refl (set-amount k rows (behind r rows h))
  where
    kept : Rows
    kept = filter is_set rows

    same : (b : Bool) → amount_at k kept ≡ amount_at k rows → first_or b r k kept ≡ first_or b r k rows
    same true rest = refl
    same false rest = rest

    gone : (b : Bool) → bytes_eq r.0 k ≡ b → (r.1 == 0) ≡ true → amount_at k kept ≡ amount_at k rows → amount_at k kept ≡ first_or b r k rows
    gone true e zero rest = rest ∙ amount-none k rows (rw (← (bytes_eq-Decides r.0 k).0 e) (before r rows h)) ∙ sym (eqb-true r.1 0 zero)
    gone false e zero rest = rest

    by : (b : Bool) → (r.1 == 0) ≡ b → amount_at k kept ≡ amount_at k rows → amount_at k (cond (not b) (r ∷ kept) kept) ≡ amount_at k (r ∷ rows)
    by true e rest = gone (bytes_eq r.0 k) refl e rest
    by false e rest = same (bytes_eq r.0 k) rest

pub set-sum : (rows : Rows) → sum_of (filter is_set rows) ≡ sum_of rows
set-sum [] = refl
set-sum (r ∷ rows) = by (r.1 == 0) refl (set-sum rows)
  where
    first : (rows : Rows) → sum_of (r ∷ rows) ≡ r.1 + sum_of rows
    first rows = sum_by-cons (λ (r : List ℕ × ℕ). r.1) r rows

    by : (b : Bool) → (r.1 == 0) ≡ b → sum_of (filter is_set rows) ≡ sum_of rows → sum_of (cond (not b) (r ∷ filter is_set rows) (filter is_set rows)) ≡ sum_of (r ∷ rows)
    by true e rest = omega (arith, eqb-true r.1 0 e, first rows, rest)
    by false e rest = omega (arith, first rows, first (filter is_set rows), rest)

pub set-all : (rows : Rows) → list_all is_set (filter is_set rows) ≡ true
set-all [] = refl
set-all (r ∷ rows) = by (is_set r) refl (set-all rows)
  where
    by : (b : Bool) → is_set r ≡ b → list_all is_set (filter is_set rows) ≡ true → list_all is_set (cond b (r ∷ filter is_set rows) (filter is_set rows)) ≡ true
    by true e rest = and_from (is_set r) (list_all is_set (filter is_set rows)) e rest
    by false e rest = rest
