-- What is held, as the attempts in the slots change.
use Rattle.std.proofs.Common.{◌≡◌, ◌∙◌, ℕ, zero, suc, List, [], ◌∷◌, ◌++◌, Bool, true, false, not, cond, ◌||◌, ◌&&◌, ◌==◌, filter, slice_get, slice_set, replicate, refl, sym, ap, Option, Some, None}
use Rattle.std.specs.List.{list_any}
use Rattle.std.proofs.lemmas.Bool.{ne_eqb, eq-eqb, eqb-false, or_parts, or_from}
use Rattle.std.proofs.lemmas.List.Folds.{list_any-append}
use Rattle.qc_base.specs.declared.recording.Row.{Row}
use Rattle.qc_base.specs.Rows.{row_eq}
use Rattle.qc_txn.specs.Attempt.{AttemptView}
use Rattle.qc_rows.specs.Holdings.{Holding, are_free, released}
use Rattle.qc_machine.specs.Attempts.{holding_of}
use Rattle.qc_players.specs.Players.{NumbersDiffer, SameHoldings, has_number, held_of, holdings_in, players_of}

-- the message and the rows of an attempt
abbrev pub holding : AttemptView → Holding
holding a = holding_of (held_of a)

abbrev pub holdings_at : List (Option AttemptView) → List Holding
holdings_at slots = holdings_in (players_of slots)

-- no slot holds anything

pub none-held : (k : ℕ) → holdings_at (replicate k None) ≡ []
none-held zero = refl
none-held (suc k) = none-held k

pub none-differ : (k : ℕ) → NumbersDiffer (replicate k None)
none-differ zero = tt
none-differ (suc k) = none-differ k

-- an attempt in the slot of another with the same number, message and rows

pub kept-held : (slots : List (Option AttemptView)) (i : ℕ) (a b : AttemptView) → slice_get slots i ≡ Some (Some a) → holding b ≡ holding a → holdings_at (slice_set slots i (Some b)) ≡ holdings_at slots
kept-held [] i a b at e = refl
kept-held (None ∷ slots) zero a b at e = cc
kept-held (Some c ∷ slots) zero a b at e = let same : a ≡ c = cc in ap (λ h. h ∷ holdings_at slots) (e ∙ ap holding same)
kept-held (None ∷ slots) (suc i) a b at e = kept-held slots i a b at e
kept-held (Some c ∷ slots) (suc i) a b at e = ap (λ hs. holding c ∷ hs) (kept-held slots i a b at e)

pub kept-differ : (slots : List (Option AttemptView)) (i : ℕ) (a b : AttemptView) → slice_get slots i ≡ Some (Some a) → holding b ≡ holding a → NumbersDiffer slots → NumbersDiffer (slice_set slots i (Some b))
kept-differ [] i a b at e d = d
kept-differ (None ∷ slots) zero a b at e d = cc
kept-differ (Some c ∷ slots) zero a b at e d =
    let same : a ≡ c = cc in
    let number : b.number ≡ c.number = ap (λ (h : Holding). h.attempt) (e ∙ ap holding same) in
    (ap (λ n. has_number n (holdings_at slots)) number ∙ d.0, d.1)
kept-differ (None ∷ slots) (suc i) a b at e d = kept-differ slots i a b at e d
kept-differ (Some c ∷ slots) (suc i) a b at e d = (ap (has_number c.number) (kept-held slots i a b at e) ∙ d.0, kept-differ slots i a b at e d.1)

-- an attempt more, in a free slot

or-last : (x y : Bool) → (x || y) ≡ (y || x)
or-last true true = refl
or-last true false = refl
or-last false true = refl
or-last false false = refl

or-assoc : (x y z : Bool) → (x || (y || z)) ≡ ((x || y) || z)
or-assoc true y z = refl
or-assoc false y z = refl

pub more-held : (p : Holding → Bool) (slots : List (Option AttemptView)) (i : ℕ) (a : AttemptView) → slice_get slots i ≡ Some None
    → list_any p (holdings_at (slice_set slots i (Some a))) ≡ (list_any p (holdings_at slots) || p (holding a))
more-held p [] i a at = cc
more-held p (None ∷ slots) zero a at = or-last (p (holding a)) (list_any p (holdings_at slots))
more-held p (Some c ∷ slots) zero a at = cc
more-held p (None ∷ slots) (suc i) a at = more-held p slots i a at
more-held p (Some c ∷ slots) (suc i) a at = ap (λ b. p (holding c) || b) (more-held p slots i a at) ∙ or-assoc (p (holding c)) (list_any p (holdings_at slots)) (p (holding a))

not-same : (m n : ℕ) → (m == n) ≡ false → (n == m) ≡ false
not-same m n e = ne_eqb n m (λ same. eqb-false m n e (sym same))

pub more-differ : (slots : List (Option AttemptView)) (i : ℕ) (a : AttemptView) → slice_get slots i ≡ Some None → has_number a.number (holdings_at slots) ≡ false → NumbersDiffer slots → NumbersDiffer (slice_set slots i (Some a))
more-differ [] i a at new d = d
more-differ (None ∷ slots) zero a at new d = (new, d)
more-differ (Some c ∷ slots) zero a at new d = cc
more-differ (None ∷ slots) (suc i) a at new d = more-differ slots i a at new d
more-differ (Some c ∷ slots) (suc i) a at new d =
    let parts = or_parts (c.number == a.number) (has_number a.number (holdings_at slots)) new in
    let other = or_from (has_number c.number (holdings_at slots)) (a.number == c.number) d.0 (not-same c.number a.number parts.0) in
    (more-held (λ (h : Holding). h.attempt == c.number) slots i a at ∙ other, more-differ slots i a at parts.1 d.1)

or-none : (x : Bool) → (x || false) ≡ x
or-none true = refl
or-none false = refl

pub more-same : (held : List Holding) (slots : List (Option AttemptView)) (i : ℕ) (a : AttemptView) → slice_get slots i ≡ Some None → SameHoldings held (holdings_at slots)
    → SameHoldings (held ++ holding a ∷ []) (holdings_at (slice_set slots i (Some a)))
more-same held slots i a at same p =
    list_any-append p held (holding a ∷ [])
    ∙ ap (λ b. list_any p held || b) (or-none (p (holding a)))
    ∙ ap (λ b. b || p (holding a)) (same p)
    ∙ sym (more-held p slots i a at)

-- rows that are free by the one list are so by the other
pub free-same : (xs ys : List Holding) (rows : List Row) → SameHoldings xs ys → are_free xs rows ≡ are_free ys rows
free-same xs ys rows same = λ i. not (list_any (λ row. same (λ (h : Holding). list_any (row_eq row) h.rows) i) rows)

-- rows that are free by the slots are so by what is kept beside them
pub free-in : (held : List Holding) (slots old : List (Option AttemptView)) (rows : List Row) → SameHoldings held (holdings_at slots) → slots ≡ old → are_free (holdings_at old) rows ≡ true
    → (given : List Row) → given ≡ rows → are_free held given ≡ true
free-in held slots old rows same is free given all =
    ap (are_free held) all ∙ free-same held (holdings_at slots) rows same ∙ ap (λ (s : List (Option AttemptView)). are_free (holdings_at s) rows) is ∙ free

-- a slot that gets free

any-kept : (p q : Holding → Bool) (xs : List Holding) → list_any p (filter q xs) ≡ list_any (λ h. q h && p h) xs
any-kept p q [] = refl
any-kept p q (x ∷ xs) = by (q x) (any-kept p q xs)
  where
    by : (b : Bool) → list_any p (filter q xs) ≡ list_any (λ h. q h && p h) xs → list_any p (cond b (x ∷ filter q xs) (filter q xs)) ≡ ((b && p x) || list_any (λ h. q h && p h) xs)
    by true e = ap (λ b. p x || b) e
    by false e = e

pub released-same : (n : ℕ) (xs ys : List Holding) → SameHoldings xs ys → SameHoldings (released n xs) (released n ys)
released-same n xs ys same p =
    let left : Holding → Bool = λ (h : Holding). not (h.attempt == n) in
    any-kept p left xs ∙ same (λ h. left h && p h) ∙ sym (any-kept p left ys)

none-released : (n : ℕ) (xs : List Holding) → has_number n xs ≡ false → released n xs ≡ xs
none-released n [] none = refl
none-released n (x ∷ xs) none =
    let parts = or_parts (x.attempt == n) (has_number n xs) none in
    ap (λ b. cond (not b) (x ∷ released n xs) (released n xs)) parts.0 ∙ ap (λ hs. x ∷ hs) (none-released n xs parts.1)

-- the number of an attempt in a slot is among the numbers that are held
other-number : (slots : List (Option AttemptView)) (i : ℕ) (a : AttemptView) (n : ℕ) → slice_get slots i ≡ Some (Some a) → has_number n (holdings_at slots) ≡ false → (a.number == n) ≡ false
other-number [] i a n at none = cc
other-number (None ∷ slots) zero a n at none = cc
other-number (Some c ∷ slots) zero a n at none =
    let same : a ≡ c = cc in
    ap (λ (x : AttemptView). x.number == n) same ∙ (or_parts (c.number == n) (has_number n (holdings_at slots)) none).0
other-number (None ∷ slots) (suc i) a n at none = other-number slots i a n at none
other-number (Some c ∷ slots) (suc i) a n at none = other-number slots i a n at (or_parts (c.number == n) (has_number n (holdings_at slots)) none).1

pub freed-held : (slots : List (Option AttemptView)) (i : ℕ) (a : AttemptView) → slice_get slots i ≡ Some (Some a) → NumbersDiffer slots → released a.number (holdings_at slots) ≡ holdings_at (slice_set slots i None)
freed-held [] i a at d = refl
freed-held (None ∷ slots) zero a at d = cc
freed-held (Some c ∷ slots) zero a at d =
    let same : a ≡ c = cc in
    let number : c.number ≡ a.number = ap (λ (x : AttemptView). x.number) (sym same) in
    let none : has_number a.number (holdings_at slots) ≡ false = ap (λ n. has_number n (holdings_at slots)) (sym number) ∙ d.0 in
    ap (λ b. cond (not b) (holding c ∷ released a.number (holdings_at slots)) (released a.number (holdings_at slots))) (eq-eqb c.number a.number number)
    ∙ none-released a.number (holdings_at slots) none
freed-held (None ∷ slots) (suc i) a at d = freed-held slots i a at d
freed-held (Some c ∷ slots) (suc i) a at d =
    let other = not-same a.number c.number (other-number slots i a c.number at d.0) in
    ap (λ b. cond (not b) (holding c ∷ released a.number (holdings_at slots)) (released a.number (holdings_at slots))) other
    ∙ ap (λ hs. holding c ∷ hs) (freed-held slots i a at d.1)

none-more : (p : Holding → Bool) (slots : List (Option AttemptView)) (i : ℕ) → list_any p (holdings_at slots) ≡ false → list_any p (holdings_at (slice_set slots i None)) ≡ false
none-more p [] i none = none
none-more p (None ∷ slots) zero none = none
none-more p (Some c ∷ slots) zero none = (or_parts (p (holding c)) (list_any p (holdings_at slots)) none).1
none-more p (None ∷ slots) (suc i) none = none-more p slots i none
none-more p (Some c ∷ slots) (suc i) none =
    let parts = or_parts (p (holding c)) (list_any p (holdings_at slots)) none in
    or_from (p (holding c)) _ parts.0 (none-more p slots i parts.1)

pub freed-differ : (slots : List (Option AttemptView)) (i : ℕ) → NumbersDiffer slots → NumbersDiffer (slice_set slots i None)
freed-differ [] i d = d
freed-differ (None ∷ slots) zero d = d
freed-differ (Some c ∷ slots) zero d = d.1
freed-differ (None ∷ slots) (suc i) d = freed-differ slots i d
freed-differ (Some c ∷ slots) (suc i) d = (none-more (λ (h : Holding). h.attempt == c.number) slots i d.0, freed-differ slots i d.1)
