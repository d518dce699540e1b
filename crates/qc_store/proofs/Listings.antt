-- What a sort by due moment and then by id makes of messages whose ids differ.
use Rattle.std.proofs.Common.{◌≡◌, ◌∙◌, ℕ, ◌+◌, ◌<◌, ◌≤◌, ◌==◌, nat_lt, zero, suc, List, [], ◌∷◌, Bool, true, false, cond, ◌&&◌, ◌||◌, All, length, get_or, map, filter, count_by, refl, sym, ap, subst, arith, eq-eqb}
use Rattle.std.specs.Ordering.{nat_cmp, ordering_then, is_lt}
use Rattle.std.specs.declared.cmp.Ordering.{Ordering}
use Rattle.std.specs.declared.cmp.Ordering.TheVariants.{Less, Equal, Greater}
use Rattle.std.specs.Fn.{Called}
use Rattle.std.specs.Str.{bytes_eq}
use Rattle.std.specs.List.Sorted.{IsPermutation, IsSortedByKey, IsSortedByKeyClosure}
use Rattle.std.proofs.lemmas.Cmp.{nat_cmp_total, on_total, then_total}
use Rattle.std.proofs.lemmas.Fn.{always_returns_same}
use Rattle.std.proofs.lemmas.Bool.{eqb-true, ne_eqb}
use Rattle.std.proofs.lemmas.Bool.Decides.{nat_tests}
use Rattle.std.proofs.lemmas.List.{length-map}
use Rattle.std.proofs.lemmas.List.Sorted.{sorted_far, ranks_by, sum_by-IsPermutation}
use Rattle.std.proofs.lemmas.List.Sums.{sum_by-cons, get_or-le-sum_by, length-filter}
use Rattle.std.proofs.lemmas.List.Elements.{All-head, All-tail}
use denote.Ref.{Bor}
use denote.Param.Members.{Mut}
use Rattle.qc_base.specs.declared.fact.Place.{Place}
use Rattle.qc_base.specs.declared.fact.Place.TheVariants.{Queue, Dead, Consumed}
use Rattle.qc_base.specs.declared.message.Message.{Message}
use Rattle.qc_base.specs.declared.queue.Waiting.{Waiting}
use Rattle.qc_base.specs.Messages.{comes_before, in_queue, waiting_as, of_app, listing, is_consumed, consumed_ids}
use Rattle.qc_store.specs.Stored.{IdsRise}
use Rattle.qc_store.proofs.InOrder.{IsStrictlyOrdered, in_order_is}

-- ids that come once

abbrev one_if : Bool → ℕ
one_if b = cond b 1 0

pub count-cons : {A : Type 0} (p : A → Bool) (x : A) (xs : List A) → count_by p (x ∷ xs) ≡ cond (p x) 1 0 + count_by p xs
count-cons p x xs = sum_by-cons (λ y. cond (p y) 1 0) x xs

pub count_map : {A B : Type 0} (p : B → Bool) (f : A → B) (xs : List A) → count_by p (map f xs) ≡ count_by (λ x. p (f x)) xs
count_map p f [] = refl
count_map p f (x ∷ xs) = count-cons p (f x) (map f xs) ∙ ap (λ n. cond (p (f x)) 1 0 + n) (count_map p f xs) ∙ sym (count-cons (λ y. p (f y)) x xs)

count_filter : {A : Type 0} (p q : A → Bool) (xs : List A) → count_by p (filter q xs) ≤ count_by p xs
count_filter p q [] = omega arith
count_filter p q (x ∷ xs) = by (q x) (count_filter p q xs)
  where
    by : (b : Bool) → count_by p (filter q xs) ≤ count_by p xs → count_by p (cond b (x ∷ filter q xs) (filter q xs)) ≤ count_by p (x ∷ xs)
    by true rest = omega (arith, count-cons p x (filter q xs), count-cons p x xs)
    by false rest = omega (arith, count-cons p x xs)

count_both : {A : Type 0} (p q : A → Bool) (xs : List A) → count_by (λ x. p x && q x) xs ≡ count_by q (filter p xs)
count_both p q [] = refl
count_both p q (x ∷ xs) = count-cons (λ y. p y && q y) x xs ∙ by (p x) (count_both p q xs)
  where
    by : (b : Bool) → count_by (λ y. p y && q y) xs ≡ count_by q (filter p xs) → one_if (b && q x) + count_by (λ y. p y && q y) xs ≡ count_by q (cond b (x ∷ filter p xs) (filter p xs))
    by true rest = ap (λ n. one_if (q x) + n) rest ∙ sym (count-cons q x (filter p xs))
    by false rest = omega arith ∙ rest

-- what passes at i is counted
counted : {A : Type 0} (p : A → Bool) (xs : List A) (i : ℕ) (d : A) → i < length xs → p (get_or xs i d) ≡ true → 1 ≤ count_by p xs
counted p xs i d lt e = omega (arith, ap one_if e, get_or-le-sum_by (λ x. one_if (p x)) xs i d lt)

abbrev has_id : ℕ → Message → Bool
has_id n m = m.id == n

none_has : (n : ℕ) (ms : List Message) → All (λ (x : Message). n < x.id) ms → count_by (has_id n) ms ≡ 0
none_has n [] h = refl
none_has n (m ∷ ms) h =
    let above : n < m.id = All-head (λ (x : Message). n < x.id) m ms h in
    let other : (m.id == n) ≡ false = ne_eqb _ _ (omega arith) in
    count-cons (has_id n) m ms ∙ omega (arith, ap one_if other, none_has n ms (All-tail (λ (x : Message). n < x.id) m ms h))

once : (n : ℕ) (ms : List Message) → IdsRise ms → count_by (has_id n) ms ≤ 1
once n [] up = omega arith
once n (m ∷ ms) up = by (m.id == n) refl (once n ms up.1)
  where
    by : (b : Bool) → (m.id == n) ≡ b → count_by (has_id n) ms ≤ 1 → count_by (has_id n) (m ∷ ms) ≤ 1
    by true e rest =
        let same : m.id ≡ n = eqb-true _ _ e in
        let none : count_by (has_id n) ms ≡ 0 = none_has n ms (subst (λ k. All (λ (x : Message). k < x.id) ms) same up.0) in
        omega (arith, count-cons (has_id n) m ms, ap one_if e)
    by false e rest = omega (arith, count-cons (has_id n) m ms, ap one_if e)

abbrev shows : ℕ → Waiting → Bool
shows n w = w.id == n

same_id : (id : ℕ) (place : Place) → (waiting_as id place).id ≡ id
same_id id (Queue q tries due) = refl
same_id id Dead = refl
same_id id (Consumed a) = refl

-- the messages of an application that stand in a queue, in order of ids
abbrev pub gathered : List ℕ → ℕ → List Message → List Waiting
gathered app queue ms = map (λ (m : Message). waiting_as m.id m.place) (filter (λ (m : Message). in_queue queue m.place) (of_app app ms))

shown_once : (app : List ℕ) (queue n : ℕ) (ms : List Message) → IdsRise ms → count_by (shows n) (gathered app queue ms) ≤ 1
shown_once app queue n ms up =
    let q : Message → Bool = λ m. in_queue queue m.place in
    let own : Message → Bool = λ m. bytes_eq m.recording.app app in
    let mapped : count_by (shows n) (gathered app queue ms) ≡ count_by (λ (m : Message). (waiting_as m.id m.place).id == n) (filter q (filter own ms)) =
    count_map (shows n) (λ (m : Message). waiting_as m.id m.place) (filter q (filter own ms)) in
    let ids : count_by (λ (m : Message). (waiting_as m.id m.place).id == n) (filter q (filter own ms)) ≡ count_by (has_id n) (filter q (filter own ms)) =
    λ i. count_by (λ (m : Message). same_id m.id m.place i == n) (filter q (filter own ms)) in
    omega (arith, count_filter (has_id n) q (filter own ms), count_filter (has_id n) own ms, once n ms up)

-- items that show different ids
differ : (ys : List Waiting) → ((n : ℕ) → count_by (shows n) ys ≤ 1) → (i j : ℕ) (d : Waiting) → i < j → j < length ys → (get_or ys i d).id ≡ (get_or ys j d).id → ⊥
differ [] h i j d lt lj e = absurd (omega arith)
differ (y ∷ ys) h i zero d lt lj e = absurd (omega arith)
differ (y ∷ ys) h zero (suc j) d lt lj e =
    let itself : (y.id == y.id) ≡ true = eq-eqb _ _ refl in
    let other : shows y.id (get_or ys j d) ≡ true = eq-eqb _ _ (sym e) in
    absurd (omega (arith, h y.id, count-cons (shows y.id) y ys, ap one_if itself, counted (shows y.id) ys j d (omega arith) other))
differ (y ∷ ys) h (suc i) (suc j) d lt lj e = differ ys (λ n. omega (arith, h n, count-cons (shows n) y ys)) i j d (omega arith) (omega arith) e

-- by due moment and then by id

abbrev key : Waiting → ℕ × ℕ
key w = (w.due, w.id)

abbrev pub pair_cmp : ℕ × ℕ → ℕ × ℕ → Ordering
pair_cmp x y = ordering_then (nat_cmp x.0 y.0) (nat_cmp x.1 y.1)

lexical : (p q r s : Bool) → is_lt (ordering_then (cond p Less (cond q Equal Greater)) (cond r Less (cond s Equal Greater))) ≡ (p || (q && r))
lexical true q r s = refl
lexical false false r s = refl
lexical false true true s = refl
lexical false true false true = refl
lexical false true false false = refl

compared : (a b : Waiting) → is_lt (pair_cmp (key a) (key b)) ≡ comes_before a b
compared a b = lexical (nat_lt a.due b.due) (a.due == b.due) (nat_lt a.id b.id) (a.id == b.id)

not_before_itself : (w : Waiting) → comes_before w w ≡ false
not_before_itself w = grind (arith, nat_tests)

one_first : (a b : Waiting) → comes_before b a ≡ false → (a.id ≡ b.id → ⊥) → comes_before a b ≡ true
one_first a b behind other = grind (arith, nat_tests)

ordered : (ys : List Waiting) → IsSortedByKey key pair_cmp ys → ((n : ℕ) → count_by (shows n) ys ≤ 1) → IsStrictlyOrdered comes_before ys
ordered ys up h = λ i j d lt lj.
    let total = then_total (on_total (λ (p : ℕ × ℕ). p.0) nat_cmp_total) (on_total (λ (p : ℕ × ℕ). p.1) nat_cmp_total) in
    let behind : comes_before (get_or ys j d) (get_or ys i d) ≡ false = sym (compared (get_or ys j d) (get_or ys i d)) ∙ sorted_far (λ x y. is_lt (pair_cmp (key x) (key y))) (ranks_by total key) ys up i j d (omega arith) lj in
    (one_first (get_or ys i d) (get_or ys j d) behind (differ ys h i j d lt lj), behind)

-- what a sort by the keys leaves is the listing
pub listed : {F : Type 0} {g : Mut F (Bor Waiting × Unit {0}) (ℕ × ℕ)} {f : F} (app : List ℕ) (queue : ℕ) (ms : List Message) (ys : List Waiting)
    → IdsRise ms → IsPermutation (gathered app queue ms) ys → IsSortedByKeyClosure g pair_cmp f ys
    → ((a : Bor Waiting × Unit {0}) (r : ℕ × ℕ) (f' : F) → Called g f a r f' → (r ≡ key a.0.now) × (f' ≡ f)) → ys ≡ listing app queue ms
listed {g = g} {f = f} app queue ms ys up same sorted called =
    let by_key : IsSortedByKey key pair_cmp ys = sorted key (always_returns_same g (λ a r. r ≡ key a.0.now) f called) in
    let each : (n : ℕ) → count_by (shows n) ys ≤ 1 = λ n. omega (arith, sum_by-IsPermutation (λ w. cond (shows n w) 1 0) (gathered app queue ms) ys same, shown_once app queue n ms up) in
    sym (in_order_is comes_before (gathered app queue ms) ys not_before_itself same (ordered ys by_key each))

-- consumed messages

abbrev consumes : Message → Bool
consumes m = is_consumed m.place

ids_counted : (app : List ℕ) (ms : List Message) → count_by consumes (of_app app ms) ≡ length (consumed_ids app ms)
ids_counted app ms = sym (length-filter consumes (of_app app ms)) ∙ sym (length-map (filter consumes (of_app app ms)) (λ (m : Message). m.id))

pub consumed_counted : (app : List ℕ) (ms : List Message) → count_by (λ (m : Message). bytes_eq m.recording.app app && is_consumed m.place) ms ≡ length (consumed_ids app ms)
consumed_counted app ms = count_both (λ (m : Message). bytes_eq m.recording.app app) consumes ms ∙ ids_counted app ms
