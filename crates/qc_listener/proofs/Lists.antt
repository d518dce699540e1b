-- Tests and counts on lists, and messages whose ids rise.
use Rattle.std.proofs.Common.{◌≡◌, ◌∙◌, ℕ, ◌+◌, ◌<◌, ◌==◌, zero, suc, List, [], ◌∷◌, Bool, true, false, cond, All, Contains, length, get_or, map, filter, count_by, refl, sym, ap, arith, true≢false, ◌⊎◌, inl, inr}
use Rattle.std.proofs.lemmas.Bool.{ne_eqb}
use Rattle.std.proofs.lemmas.List.Elements.{All-head, All-tail, All-nil, All-cons, All-filter}
use Rattle.std.proofs.lemmas.List.Sums.{sum_by-cons}
use Rattle.qc_base.specs.declared.message.Message.{Message}
use Rattle.qc_store.specs.Stored.{IdsRise}

-- tests on lists

pub filter_none : {A : Type 0} (test : A → Bool) (xs : List A) → All (λ x. test x ≡ false) xs → filter test xs ≡ []
filter_none test [] h = refl
filter_none test (x ∷ xs) h =
    ap (λ b. cond b (x ∷ filter test xs) (filter test xs)) (All-head (λ y. test y ≡ false) x xs h) ∙ filter_none test xs (All-tail (λ y. test y ≡ false) x xs h)

pub filter_has : {A : Type 0} (test : A → Bool) (xs : List A) (y : A) → Contains xs y → test y ≡ true → Contains (filter test xs) y
filter_has test [] y c t = absurd (omega (arith, c.1))
filter_has test (x ∷ xs) y c t = by (test x) refl c.0 c.1 c.2 (λ k lt is. filter_has test xs y (k, lt, is) t)
  where
    by : (b : Bool) → test x ≡ b → (i : ℕ) → i < length (x ∷ xs) → get_or (x ∷ xs) i y ≡ y → ((k : ℕ) → k < length xs → get_or xs k y ≡ y → Contains (filter test xs) y) → Contains (cond b (x ∷ filter test xs) (filter test xs)) y
    by true e zero lt is rest = (zero, omega arith, is)
    by false e zero lt is rest = absurd (true≢false (sym t ∙ ap test (sym is) ∙ e))
    by true e (suc i) lt is rest = let found = rest i (omega arith) is in (suc found.0, omega (arith, found.1), found.2)
    by false e (suc i) lt is rest = rest i (omega arith) is

pub map_has : {A B : Type 0} (f : A → B) (xs : List A) (y : A) → Contains xs y → Contains (map f xs) (f y)
map_has f [] y c = absurd (omega (arith, c.1))
map_has f (x ∷ xs) y c = by c.0 c.1 c.2 (λ k lt is. map_has f xs y (k, lt, is))
  where
    by : (i : ℕ) → i < length (x ∷ xs) → get_or (x ∷ xs) i y ≡ y → ((k : ℕ) → k < length xs → get_or xs k y ≡ y → Contains (map f xs) (f y)) → Contains (map f (x ∷ xs)) (f y)
    by zero lt is rest = (zero, omega arith, ap f is)
    by (suc i) lt is rest = let found = rest i (omega arith) is in (suc found.0, omega (arith, found.1), found.2)

-- counts

abbrev pub one_if : Bool → ℕ
one_if b = cond b 1 0

count-cons : {A : Type 0} (p : A → Bool) (x : A) (xs : List A) → count_by p (x ∷ xs) ≡ one_if (p x) + count_by p xs
count-cons p x xs = sum_by-cons (λ y. one_if (p y)) x xs

pub agree : {A : Type 0} (p q : A → Bool) (xs : List A) → All (λ x. p x ≡ q x) xs → count_by p xs ≡ count_by q xs
agree p q [] h = refl
agree p q (x ∷ xs) h =
    let one = ap one_if (All-head (λ y. p y ≡ q y) x xs h) in
    omega (arith, count-cons p x xs, count-cons q x xs, one, agree p q xs (All-tail (λ y. p y ≡ q y) x xs h))

pub count_none : {A : Type 0} (p : A → Bool) (xs : List A) → All (λ x. p x ≡ false) xs → count_by p xs ≡ 0
count_none p [] h = refl
count_none p (x ∷ xs) h =
    let one = ap one_if (All-head (λ y. p y ≡ false) x xs h) in
    omega (arith, count-cons p x xs, one, count_none p xs (All-tail (λ y. p y ≡ false) x xs h))

pub none_counted : {A : Type 0} (p : A → Bool) (xs : List A) → count_by p xs ≡ 0 → All (λ x. p x ≡ false) xs
none_counted p [] e = All-nil (λ x. p x ≡ false)
none_counted p (x ∷ xs) e = All-cons (λ y. p y ≡ false) x xs (by (p x) (omega (arith, e, count-cons p x xs))) (none_counted p xs (omega (arith, e, count-cons p x xs)))
  where
    by : (b : Bool) → one_if b ≡ 0 → b ≡ false
    by true e = absurd (omega (arith, e))
    by false e = refl

-- messages whose ids rise

pub rises_filter : (test : Message → Bool) (ms : List Message) → IdsRise ms → IdsRise (filter test ms)
rises_filter test [] up = tt
rises_filter test (m ∷ ms) up = by (test m) (rises_filter test ms up.1)
  where
    by : (b : Bool) → IdsRise (filter test ms) → IdsRise (cond b (m ∷ filter test ms) (filter test ms))
    by true rest = (All-filter test (λ (x : Message). m.id < x.id) ms up.0, rest)
    by false rest = rest

-- each is this message or has another id
pub apart : (ms : List Message) (m : Message) → IdsRise ms → Contains ms m → All (λ (x : Message). (x ≡ m) ⊎ ((x.id == m.id) ≡ false)) ms
apart [] m up c = absurd (omega (arith, c.1))
apart (x ∷ ms) m up c = by c.0 c.1 c.2 (λ k lt is. apart ms m up.1 (k, lt, is))
  where
    by : (k : ℕ) → k < length (x ∷ ms) → get_or (x ∷ ms) k m ≡ m → ((j : ℕ) → j < length ms → get_or ms j m ≡ m → All (λ (y : Message). (y ≡ m) ⊎ ((y.id == m.id) ≡ false)) ms) → All (λ (y : Message). (y ≡ m) ⊎ ((y.id == m.id) ≡ false)) (x ∷ ms)
    by zero lt is rest =
        let others : All (λ (y : Message). (y ≡ m) ⊎ ((y.id == m.id) ≡ false)) ms = λ j d l. inr (ne_eqb _ _ (λ e. omega (arith, up.0 j d l, e, ap (λ (y : Message). y.id) is))) in
        All-cons (λ (y : Message). (y ≡ m) ⊎ ((y.id == m.id) ≡ false)) x ms (inl is) others
    by (suc k) lt is rest =
        let above : x.id < (get_or ms k m).id = up.0 k m (omega arith) in
        let other : (x.id == m.id) ≡ false = ne_eqb _ _ (λ e. omega (arith, above, e, ap (λ (y : Message). y.id) is)) in
        All-cons (λ (y : Message). (y ≡ m) ⊎ ((y.id == m.id) ≡ false)) x ms (inr other) (rest k (omega arith) is)

-- counts that differ at one message alone
pub one_differs : (p q : Message → Bool) (ms : List Message) (m : Message) → IdsRise ms → Contains ms m → All (λ (x : Message). (x.id == m.id) ≡ false → q x ≡ p x) ms → p m ≡ false → count_by q ms ≡ count_by p ms + one_if (q m)
one_differs p q [] m up c same none = absurd (omega (arith, c.1))
one_differs p q (x ∷ ms) m up c same none = by c.0 c.1 c.2 (λ k lt is. one_differs p q ms m up.1 (k, lt, is) (All-tail (λ (y : Message). (y.id == m.id) ≡ false → q y ≡ p y) x ms same) none)
  where
    by : (k : ℕ) → k < length (x ∷ ms) → get_or (x ∷ ms) k m ≡ m → ((j : ℕ) → j < length ms → get_or ms j m ≡ m → count_by q ms ≡ count_by p ms + one_if (q m)) → count_by q (x ∷ ms) ≡ count_by p (x ∷ ms) + one_if (q m)
    by zero lt is rest =
        let others : count_by q ms ≡ count_by p ms = agree q p ms (λ j d l. All-tail (λ (y : Message). (y.id == m.id) ≡ false → q y ≡ p y) x ms same j d l (ne_eqb _ _ (λ e. omega (arith, up.0 j d l, e, ap (λ (y : Message). y.id) is)))) in
        omega (arith, count-cons q x ms, count-cons p x ms, others, ap (λ (y : Message). one_if (q y)) is, ap one_if (ap p is ∙ none))
    by (suc k) lt is rest =
        let above : x.id < (get_or ms k m).id = up.0 k m (omega arith) in
        let other : q x ≡ p x = All-head (λ (y : Message). (y.id == m.id) ≡ false → q y ≡ p y) x ms same (ne_eqb _ _ (λ e. omega (arith, above, e, ap (λ (y : Message). y.id) is))) in
        omega (arith, count-cons q x ms, count-cons p x ms, rest k (omega arith) is, ap one_if other)
