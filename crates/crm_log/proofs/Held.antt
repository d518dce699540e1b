-- Attempts that lines open and don't call done, gathered in a set.
use Rattle.std.proofs.Common.{◌≡◌, ◌∙◌, ℕ, ◌<◌, ◌==◌, nat_lt, List, [], ◌∷◌, Bool, true, false, cond, not, ◌&&◌, ◌||◌, filter, filter_map, refl, sym, ap, subst, arith, true≢false, eq-eqb}
use Rattle.std.specs.List.{list_any, AllByRecursion}
use Rattle.std.specs.List.Sorted.{IsStrictlySortedBy}
use Rattle.std.specs.Ordering.{nat_cmp, is_eq}
use Rattle.std.specs.declared.cmp.Ordering.TheVariants.{Less, Equal, Greater}
use Rattle.std.specs.BTreeMap.{is_at}
use Rattle.std.proofs.lemmas.Map.Keys.{sorted_head, sorted_tail}
use Rattle.std.proofs.lemmas.Bool.{eqb-true, ltb-true, ne_eqb}
use Rattle.qc_base.specs.LogLines.{opened_by, is_done, unfinished}
use Rattle.qc_base.specs.declared.log_line.LogLine.{LogLine}
use Rattle.crm_log.proofs.Rising.{has, Rises, in_order_is}

-- the order of numbers

at_is : (a n : ℕ) → is_at (nat_cmp a) n ≡ (a == n)
at_is a n = by (nat_lt a n) refl
  where
    equal : (b : Bool) → is_eq (cond b Equal Greater) ≡ b
    equal true = refl
    equal false = refl

    by : (b : Bool) → nat_lt a n ≡ b → is_eq (cond b Less (cond (a == n) Equal Greater)) ≡ (a == n)
    by true lt = sym (ne_eqb a n (λ e. omega (arith, ltb-true a n lt, e)))
    by false e = equal (a == n)

less : (a n : ℕ) → nat_cmp a n ≡ Less → a < n
less a n e = by (nat_lt a n) refl e
  where
    not_less : (b : Bool) → cond b Equal Greater ≡ Less → ⊥
    not_less true e = cc
    not_less false e = cc

    by : (b : Bool) → nat_lt a n ≡ b → cond b Less (cond (a == n) Equal Greater) ≡ Less → a < n
    by true lt e = ltb-true a n lt
    by false ge e = absurd (not_less (a == n) e)

turned : (a b : ℕ) → (a == b) ≡ (b == a)
turned a b = by (a == b) refl
  where
    by : (t : Bool) → (a == b) ≡ t → t ≡ (b == a)
    by true e = sym (eq-eqb b a (sym (eqb-true a b e)))
    by false e = sym (ne_eqb b a (λ same. true≢false (sym (eq-eqb a b (sym same)) ∙ e)))

-- what a set of numbers holds

pub held : (keys : List ℕ) (n : ℕ) → list_any (is_at (nat_cmp n)) keys ≡ has keys n
held [] n = refl
held (k ∷ keys) n = (λ i. (at_is n k ∙ turned n k) i || held keys n i)

among : (P : ℕ → Type 0) (keys : List ℕ) (z : ℕ) → AllByRecursion P keys → has keys z ≡ true → P z
among P [] z all h = absurd (true≢false (sym h))
among P (k ∷ keys) z all h = by (k == z) refl h (λ g. among P keys z all.1 g)
  where
    by : (b : Bool) → (k == z) ≡ b → b || has keys z ≡ true → (has keys z ≡ true → P z) → P z
    by true e g on = subst P (eqb-true k z e) all.0
    by false e g on = on g

pub rises : (keys : List ℕ) → IsStrictlySortedBy nat_cmp keys → Rises keys
rises [] s = refl
rises (k ∷ keys) s = (λ z h. less k z (among (λ y. nat_cmp k y ≡ Less) keys z (sorted_head nat_cmp k keys s) h), rises keys (sorted_tail nat_cmp k keys s))

-- one number more, and one less

pub with_one : (a n : ℕ) (held rest : Bool) → cond (is_at (nat_cmp a) n) true held || rest ≡ held || ((a == n) || rest)
with_one a n held rest = ap (λ b. cond b true held || rest) (at_is a n) ∙ by (a == n) held
  where
    by : (b held : Bool) → cond b true held || rest ≡ held || (b || rest)
    by true true = refl
    by true false = refl
    by false true = refl
    by false false = refl

pub without_one : (a n : ℕ) (held rest : Bool) → cond (is_at (nat_cmp a) n) false held && not rest ≡ held && not ((a == n) || rest)
without_one a n held rest = ap (λ b. cond b false held && not rest) (at_is a n) ∙ by (a == n) held
  where
    by : (b held : Bool) → cond b false held && not rest ≡ held && not (b || rest)
    by true true = refl
    by true false = refl
    by false true = refl
    by false false = refl

-- the end

kept : (p : ℕ → Bool) (xs : List ℕ) (n : ℕ) → has (filter p xs) n ≡ has xs n && p n
kept p [] n = refl
kept p (x ∷ xs) n = by (p x) refl (x == n) refl (kept p xs n)
  where
    here : (b : Bool) → p x ≡ b → (x == n) ≡ true → p n ≡ b
    here b e same = ap p (sym (eqb-true x n same)) ∙ e

    none : (t : Bool) → t && false ≡ false
    none true = refl
    none false = refl

    by : (b : Bool) → p x ≡ b → (c : Bool) → (x == n) ≡ c → has (filter p xs) n ≡ has xs n && p n → has (cond b (x ∷ filter p xs) (filter p xs)) n ≡ (c || has xs n) && p n
    by true e true f on = ap (λ t. t || has (filter p xs) n) f ∙ sym (here true e f)
    by true e false f on = ap (λ t. t || has (filter p xs) n) f ∙ on
    by false e true f on = on ∙ ap (λ t. has xs n && t) (here false e f) ∙ none (has xs n) ∙ sym (here false e f)
    by false e false f on = on

pub unfinished_are : (lines left : List LogLine) (keys : List ℕ) → left ≡ [] → IsStrictlySortedBy nat_cmp keys → ((n : ℕ) → list_any (is_at (nat_cmp n)) keys && not (is_done left n) ≡ has (filter_map opened_by lines) n && not (is_done lines n)) → keys ≡ unfinished lines
unfinished_are lines left keys none sorted same =
    sym (in_order_is (filter (λ a. not (is_done lines a)) (filter_map opened_by lines)) keys (rises keys sorted) (λ n. sym (held keys n) ∙ all n ∙ sym (kept (λ a. not (is_done lines a)) (filter_map opened_by lines) n)))
  where
    alone : (b : Bool) → b && true ≡ b
    alone true = refl
    alone false = refl

    all : (n : ℕ) → list_any (is_at (nat_cmp n)) keys ≡ has (filter_map opened_by lines) n && not (is_done lines n)
    all n = sym (alone (list_any (is_at (nat_cmp n)) keys)) ∙ ap (λ (l : List LogLine). list_any (is_at (nat_cmp n)) keys && not (is_done l n)) (sym none) ∙ same n
