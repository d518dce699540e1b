-- Messages whose ids are numbers in order.
use Rattle.std.proofs.Common.{◌≡◌, ◌∙◌, ℕ, ◌+◌, ◌-◌, ◌≤◌, ◌<◌, ◌==◌, zero, suc, List, [], ◌∷◌, ◌++◌, All, Bool, true, false, cond, length, get_or, map, count_by, slice_get, refl, sym, ap, subst, arith, Option, Some, None, find, eq-eqb, ne_eqb, eqb-true}
use Rattle.std.proofs.lemmas.Bool.{cond-true, cond-false, eqb-false}
use Rattle.std.proofs.lemmas.List.Elements.{All-head, All-tail}
use Rattle.std.proofs.lemmas.Option.{none-some, same_Some, slice_get-get_or}
use Rattle.qc_base.specs.declared.message.Message.{Message}
use Rattle.qc_base.specs.Messages.{message_of}
use Rattle.qc_store.specs.Stored.{IdsRise}
use Rattle.qc_store.proofs.Listings.{count-cons}
use Rattle.qc_store.proofs.Tallying.{one_if}
use Rattle.qc_machine.specs.Orderly.{IsNumberedFrom}

abbrev pub has_id : ℕ → Message → Bool
has_id n m = m.id == n

-- what is found passes, and has what each has
pub found-is : {A : Type 0} (P : A → Type 0) (p : A → Bool) (xs : List A) (x : A) → All P xs → find p xs ≡ Some x → P x × (p x ≡ true)
found-is P p [] x all e = absurd (none-some x e)
found-is P p (y ∷ ys) x all e = by (p y) refl (found-is P p ys x (All-tail P y ys all)) e
  where
    by : (b : Bool) → p y ≡ b → (find p ys ≡ Some x → P x × (p x ≡ true)) → cond b (Some y) (find p ys) ≡ Some x → P x × (p x ≡ true)
    by true t on e = let same : y ≡ x = same_Some y x e in (subst P same (All-head P y ys all), ap p (sym same) ∙ t)
    by false t on e = on e

-- they stay numbered

pub numbered-map : (f : Message → Message) → ((m : Message) → (f m).id ≡ m.id) → (n : ℕ) (ms : List Message) → IsNumberedFrom n ms → IsNumberedFrom n (map f ms)
numbered-map f h n [] all = tt
numbered-map f h n (m ∷ ms) all = (h m ∙ all.0, numbered-map f h (n + 1) ms all.1)

pub numbered-push : (n : ℕ) (ms : List Message) (m : Message) → IsNumberedFrom n ms → m.id ≡ n + length ms → IsNumberedFrom n (ms ++ m ∷ [])
numbered-push n [] m all e = (omega (arith, e), tt)
numbered-push n (x ∷ ms) m all e = (all.0, numbered-push (n + 1) ms m all.1 (omega (arith, e)))

-- what stands at a place

pub id-at : (n : ℕ) (ms : List Message) (k : ℕ) (d : Message) → IsNumberedFrom n ms → k < length ms → (get_or ms k d).id ≡ n + k
id-at n [] k d all lt = absurd (omega arith)
id-at n (m ∷ ms) zero d all lt = omega (arith, all.0)
id-at n (m ∷ ms) (suc k) d all lt = omega (arith, id-at (n + 1) ms k d all.1 (omega arith))

pub message-at : (n : ℕ) (ms : List Message) (k : ℕ) → IsNumberedFrom n ms → message_of (n + k) ms ≡ slice_get ms k
message-at n [] k all = refl
message-at n (m ∷ ms) zero all = cond-true (m.id == n + 0) (Some m) (message_of (n + 0) ms) (eq-eqb _ _ (omega (arith, all.0)))
message-at n (m ∷ ms) (suc k) all =
    cond-false (m.id == n + suc k) (Some m) (message_of (n + suc k) ms) (ne_eqb _ _ (omega (arith, all.0)))
    ∙ ap (λ id. message_of id ms) (omega arith) ∙ message-at (n + 1) ms k all.1

pub rises : (n : ℕ) (ms : List Message) → IsNumberedFrom n ms → IdsRise ms
rises n [] all = tt
rises n (m ∷ ms) all = (λ k d lt. omega (arith, all.0, id-at (n + 1) ms k d all.1 lt), rises (n + 1) ms all.1)

-- the message of an id

pub is-there : (id : ℕ) (ms : List Message) → IsNumberedFrom 1 ms → 1 ≤ id → id ≤ length ms → (m : Message) × (message_of id ms ≡ Some m)
is-there id ms all low high = by (slice_get ms (id - 1)) found (λ d. slice_get-get_or ms (id - 1) d (omega (arith, low, high)))
  where
    found : message_of id ms ≡ slice_get ms (id - 1)
    found = ap (λ i. message_of i ms) (omega (arith, low)) ∙ message-at 1 ms (id - 1) all

    by : (o : Option Message) → message_of id ms ≡ o → ((d : Message) → o ≡ Some (get_or ms (id - 1) d)) → (m : Message) × (message_of id ms ≡ Some m)
    by None e h = none-of ms (omega (arith, low, high)) h
      where
        none-of : (xs : List Message) → 1 ≤ length xs → ((d : Message) → None ≡ Some (get_or ms (id - 1) d)) → (m : Message) × (message_of id ms ≡ Some m)
        none-of [] some h = absurd (omega (arith, some))
        none-of (x ∷ xs) some h = absurd (none-some (get_or ms (id - 1) x) (h x))
    by (Some m) e h = (m, e)

pub each-found : (n : ℕ) (ms : List Message) → IsNumberedFrom n ms → All (λ (m : Message). message_of m.id ms ≡ Some m) ms
each-found n ms all = λ k d lt. ap (λ id. message_of id ms) (id-at n ms k d all lt) ∙ message-at n ms k all ∙ slice_get-get_or ms k d lt

-- how many have an id

below : (id n : ℕ) (ms : List Message) → IsNumberedFrom n ms → id < n → count_by (has_id id) ms ≡ 0
below id n [] all lt = refl
below id n (m ∷ ms) all lt =
    let other : (m.id == id) ≡ false = ne_eqb _ _ (omega (arith, all.0)) in
    count-cons (has_id id) m ms ∙ omega (arith, ap one_if other, below id (n + 1) ms all.1 (omega arith))

pub numbered-once : (id n : ℕ) (ms : List Message) → IsNumberedFrom n ms → n ≤ id → id < n + length ms → count_by (has_id id) ms ≡ 1
numbered-once id n [] all le lt = absurd (omega arith)
numbered-once id n (m ∷ ms) all le lt = by (m.id == id) refl (numbered-once id (n + 1) ms all.1)
  where
    by : (b : Bool) → (m.id == id) ≡ b → (n + 1 ≤ id → id < n + 1 + length ms → count_by (has_id id) ms ≡ 1) → count_by (has_id id) (m ∷ ms) ≡ 1
    by true e on =
        let same : m.id ≡ id = eqb-true _ _ e in
        count-cons (has_id id) m ms ∙ omega (arith, ap one_if e, below id (n + 1) ms all.1 (omega (arith, all.0)))
    by false e on =
        let other : m.id ≡ id → ⊥ = eqb-false _ _ e in
        count-cons (has_id id) m ms ∙ omega (arith, ap one_if e, on (omega (arith, other, all.0)) (omega arith))

pub numbered-within : (id n : ℕ) (ms : List Message) → IsNumberedFrom n ms → 1 ≤ count_by (has_id id) ms → (n ≤ id) × (id < n + length ms)
numbered-within id n [] all some = absurd (omega (arith, some))
numbered-within id n (m ∷ ms) all some = by (m.id == id) refl (numbered-within id (n + 1) ms all.1)
  where
    by : (b : Bool) → (m.id == id) ≡ b → (1 ≤ count_by (has_id id) ms → (n + 1 ≤ id) × (id < n + 1 + length ms)) → (n ≤ id) × (id < n + length (m ∷ ms))
    by true e on = let same : m.id ≡ id = eqb-true _ _ e in (omega (arith, same, all.0), omega (arith, same, all.0))
    by false e on = let later = on (omega (arith, some, count-cons (has_id id) m ms, ap one_if e)) in (omega (arith, later.0), omega (arith, later.1))

pub found-within : (id n : ℕ) (ms : List Message) (m : Message) → IsNumberedFrom n ms → message_of id ms ≡ Some m → (n ≤ id) × (id < n + length ms)
found-within id n [] m all e = absurd (none-some m e)
found-within id n (x ∷ ms) m all e = by (x.id == id) refl (found-within id (n + 1) ms m all.1) e
  where
    by : (b : Bool) → (x.id == id) ≡ b → (message_of id ms ≡ Some m → (n + 1 ≤ id) × (id < n + 1 + length ms)) → cond b (Some x) (message_of id ms) ≡ Some m → (n ≤ id) × (id < n + length (x ∷ ms))
    by true t on e = let same : x.id ≡ id = eqb-true _ _ t in (omega (arith, same, all.0), omega (arith, same, all.0))
    by false t on e = let later = on e in (omega (arith, later.0), omega (arith, later.1))

pub found-once : (id n : ℕ) (ms : List Message) (m : Message) → IsNumberedFrom n ms → message_of id ms ≡ Some m → count_by (has_id id) ms ≡ 1
found-once id n ms m all e = let within = found-within id n ms m all e in numbered-once id n ms all within.0 within.1
