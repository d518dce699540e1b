-- The slots of players, and what is asked of all that is held.
use Rattle.std.proofs.Common.{◌≡◌, ◌∙◌, ◌⊎◌, inl, inr, ⊎_elim, ℕ, ◌<◌, ◌==◌, max, zero, suc, List, [], ◌∷◌, ◌++◌, Bool, false, ◌||◌, length, map, filter_map, slice_get, slice_set, refl, sym, ap, arith, Option, Some, None, ne_eqb}
use Rattle.std.specs.List.{list_any}
use Rattle.std.proofs.lemmas.Bool.{or_parts, or_from}
use Rattle.qc_base.specs.declared.recording.Row.{Row}
use Rattle.qc_base.specs.Rows.{row_eq}
use Rattle.qc_play.specs.Play.{rows_in}
use Rattle.qc_rows.specs.Holdings.{Holding, is_held, is_row_held}
use Rattle.qc_machine.specs.Attempts.{greatest, holding_of, holdings}
use Rattle.qc_machine.specs.Holding.{has_row, Holds}
use Rattle.qc_machine.specs.State.{State, HeldAttempt, held_attempts}

-- what stands in a slot after one was set
pub got-set : {A : Type 0} (xs : List A) (i j : ℕ) (v x : A) → slice_get (slice_set xs i v) j ≡ Some x → ((j ≡ i) × (x ≡ v)) ⊎ ((j ≡ i → ⊥) × (slice_get xs j ≡ Some x))
got-set [] i j v x e = cc
got-set (y ∷ ys) zero zero v x e = inl (refl, let same : v ≡ x = cc in sym same)
got-set (y ∷ ys) zero (suc j) v x e = inr ((λ h. omega (arith, h)), e)
got-set (y ∷ ys) (suc i) zero v x e = inr ((λ h. omega (arith, h)), e)
got-set (y ∷ ys) (suc i) (suc j) v x e =
    ⊎_elim (λ (h : (j ≡ i) × (x ≡ v)). inl (omega (arith, h.0), h.1))
    (λ (h : (j ≡ i → ⊥) × (slice_get ys j ≡ Some x)). inr ((λ k. h.0 (omega (arith, k))), h.1))
    (got-set ys i j v x e)

pub set-length : {A : Type 0} (xs : List A) (i : ℕ) (v : A) → length (slice_set xs i v) ≡ length xs
set-length [] i v = refl
set-length (x ∷ xs) zero v = refl
set-length (x ∷ xs) (suc i) v = ap suc (set-length xs i v)

pub any-map : {A B : Type 0} (p : B → Bool) (f : A → B) (xs : List A) → list_any p (map f xs) ≡ list_any (λ x. p (f x)) xs
any-map p f [] = refl
any-map p f (x ∷ xs) = ap (λ b. p (f x) || b) (any-map p f xs)

-- what holds of none that is held

none-in : (q : HeldAttempt → Bool) (slots : List (Option HeldAttempt)) → list_any q (filter_map (λ o. o) slots) ≡ false → (i : ℕ) (a : HeldAttempt) → slice_get slots i ≡ Some (Some a) → q a ≡ false
none-in q [] none i a e = cc
none-in q (None ∷ slots) none zero a e = cc
none-in q (None ∷ slots) none (suc i) a e = none-in q slots none i a e
none-in q (Some b ∷ slots) none zero a e = let same : b ≡ a = cc in ap q (sym same) ∙ (or_parts (q b) _ none).0
none-in q (Some b ∷ slots) none (suc i) a e = none-in q slots (or_parts (q b) _ none).1 i a e

pub none-held : (s : State) (q : HeldAttempt → Bool) → list_any q (held_attempts s) ≡ false → (i : ℕ) (a : HeldAttempt) → Holds s i a → q a ≡ false
none-held s q none i a h = none-in q s.players none i a h

-- rows and messages that no attempt holds

pub row-free : (s : State) (r : Row) → is_row_held (holdings s) r ≡ false → (i : ℕ) (a : HeldAttempt) → Holds s i a → has_row (rows_in a.play.view) r ≡ false
row-free s r free i a h =
    none-held s (λ (a : HeldAttempt). has_row (rows_in a.play.view) r) (sym (any-map (λ (h : Holding). list_any (row_eq r) h.rows) holding_of (held_attempts s)) ∙ free) i a h

pub id-free : (s : State) (id : ℕ) → is_held (holdings s) id ≡ false → (i : ℕ) (a : HeldAttempt) → Holds s i a → (a.id == id) ≡ false
id-free s id free i a h = none-held s (λ (a : HeldAttempt). a.id == id) (sym (any-map (λ (h : Holding). h.id == id) holding_of (held_attempts s)) ∙ free) i a h

-- a number past the greatest

pub past-greatest : (n : ℕ) (ns : List ℕ) → greatest ns < n → list_any (λ k. k == n) ns ≡ false
past-greatest n [] lt = refl
past-greatest n (k ∷ ns) lt = or_from (k == n) _ (ne_eqb _ _ (omega (arith, lt))) (past-greatest n ns (omega (arith, lt)))

pub greatest-append : (xs ys : List ℕ) → greatest (xs ++ ys) ≡ max (greatest xs) (greatest ys)
greatest-append [] ys = omega arith
greatest-append (x ∷ xs) ys = omega (arith, greatest-append xs ys)
