-- Counts of consumed messages, entry by entry.
use Rattle.std.proofs.Common.{◌≡◌, ◌∙◌, ℕ, ◌+◌, ◌<◌, zero, suc, Bool, true, false, cond, List, [], ◌∷◌, ◌++◌, length, get_or, set, take, find, Option, None, Some, refl, sym, ap, subst, arith, true≢false, ◌||◌}
use Rattle.std.specs.Option.{option_map_or, option_or}
use Rattle.std.specs.Str.{bytes_eq}
use Rattle.std.proofs.lemmas.Slice.Eq.{bytes_eq-Decides}
use Rattle.std.proofs.lemmas.List.Folds.{find-append, list_any-append}
use Rattle.std.proofs.lemmas.List.{set-get_or, get_or_default}
use Rattle.qc_store.specs.declared.tally.Tally.{Tally}
use Rattle.qc_store.specs.Tallies.{is_tallied, tally_of, with_app, with_one}
use Rattle.qc_store.proofs.Placing.{not_yet}

abbrev pub one_if : Bool → ℕ
one_if b = cond b 1 0

abbrev pub is_of : List ℕ → Tally → Bool
is_of app t = bytes_eq t.app app

-- one more of an application: what is counted of another one, or of itself
pub tally_with_one : (app other : List ℕ) (ts : List Tally) → is_tallied app ts ≡ true → tally_of other (with_one app ts) ≡ tally_of other ts + one_if (bytes_eq app other)
tally_with_one app other [] h = absurd (true≢false (sym h))
tally_with_one app other (t ∷ ts) h = by (bytes_eq t.app app) refl (bytes_eq t.app other) refl (tally_with_one app other ts) h
  where
    -- the same application has the same answer
    there : bytes_eq t.app app ≡ true → bytes_eq app other ≡ bytes_eq t.app other
    there e = ap (λ (a : List ℕ). bytes_eq a other) (sym ((bytes_eq-Decides t.app app).0 e))

    -- two applications aren't both of the entry, where one isn't
    apart : (d : Bool) → bytes_eq app other ≡ d → bytes_eq t.app app ≡ false → bytes_eq t.app other ≡ true → bytes_eq app other ≡ false
    apart true x e f = absurd (true≢false (sym ((bytes_eq-Decides t.app app).1 ((bytes_eq-Decides t.app other).0 f ∙ sym ((bytes_eq-Decides app other).0 x))) ∙ e))
    apart false x e f = x

    by : (b : Bool) → bytes_eq t.app app ≡ b → (d : Bool) → bytes_eq t.app other ≡ d → (is_tallied app ts ≡ true → tally_of other (with_one app ts) ≡ tally_of other ts + one_if (bytes_eq app other)) → (b || is_tallied app ts) ≡ true
        → option_map_or (λ (x : Tally). x.consumed) (find (is_of other) (cond b (record t { consumed = t.consumed + 1 } ∷ ts) (t ∷ with_one app ts))) 0 ≡ option_map_or (λ (x : Tally). x.consumed) (cond d (Some t) (find (is_of other) ts)) 0 + one_if (bytes_eq app other)
    by true e true f rest h =
        ap (λ (d : Bool). option_map_or (λ (x : Tally). x.consumed) (cond d (Some (record t { consumed = t.consumed + 1 })) (find (is_of other) ts)) 0) f ∙ ap (λ (d : Bool). t.consumed + one_if d) (sym (there e ∙ f))
    by true e false f rest h =
        ap (λ (d : Bool). option_map_or (λ (x : Tally). x.consumed) (cond d (Some (record t { consumed = t.consumed + 1 })) (find (is_of other) ts)) 0) f ∙ omega (arith, ap one_if (there e ∙ f))
    by false e true f rest h =
        ap (λ (d : Bool). option_map_or (λ (x : Tally). x.consumed) (cond d (Some t) (find (is_of other) (with_one app ts))) 0) f ∙ omega (arith, ap one_if (apart (bytes_eq app other) refl e f))
    by false e false f rest h =
        ap (λ (d : Bool). option_map_or (λ (x : Tally). x.consumed) (cond d (Some t) (find (is_of other) (with_one app ts))) 0) f ∙ rest h

pub tallied_with_one : (app other : List ℕ) (ts : List Tally) → is_tallied other ts ≡ true → is_tallied other (with_one app ts) ≡ true
tallied_with_one app other [] h = h
tallied_with_one app other (t ∷ ts) h = by (bytes_eq t.app app) (bytes_eq t.app other) refl (tallied_with_one app other ts) h
  where
    by : (b d : Bool) → bytes_eq t.app other ≡ d → (is_tallied other ts ≡ true → is_tallied other (with_one app ts) ≡ true) → (d || is_tallied other ts) ≡ true → is_tallied other (cond b (record t { consumed = t.consumed + 1 } ∷ ts) (t ∷ with_one app ts)) ≡ true
    by true d f rest h = ap (λ (x : Bool). x || is_tallied other ts) f ∙ h
    by false true f rest h = ap (λ (x : Bool). x || is_tallied other (with_one app ts)) f
    by false false f rest h = ap (λ (x : Bool). x || is_tallied other (with_one app ts)) f ∙ rest h

-- an application more

pub tally_with_app : (app other : List ℕ) (ts : List Tally) → tally_of other (with_app app ts) ≡ tally_of other ts
tally_with_app app other ts = by (is_tallied app ts)
  where
    none : (o : Option Tally) (b : Bool) → option_map_or (λ (x : Tally). x.consumed) (option_or o (cond b (Some (record { app = app; consumed = 0 })) None)) 0 ≡ option_map_or (λ (x : Tally). x.consumed) o 0
    none None true = refl
    none None false = refl
    none (Some t) b = refl

    by : (b : Bool) → tally_of other (cond b ts (ts ++ record { app = app; consumed = 0 } ∷ [])) ≡ tally_of other ts
    by true = refl
    by false = ap (λ (o : Option Tally). option_map_or (λ (x : Tally). x.consumed) o 0) (find-append (is_of other) ts (record { app = app; consumed = 0 } ∷ [])) ∙ none (find (is_of other) ts) (bytes_eq app other)

or_true : (b : Bool) → (b || true) ≡ true
or_true true = refl
or_true false = refl

pub tallied_with_app : (app other : List ℕ) (ts : List Tally) → is_tallied other ts ≡ true → is_tallied other (with_app app ts) ≡ true
tallied_with_app app other ts h = by (is_tallied app ts)
  where
    by : (b : Bool) → is_tallied other (cond b ts (ts ++ record { app = app; consumed = 0 } ∷ [])) ≡ true
    by true = h
    by false = list_any-append (is_of other) ts (record { app = app; consumed = 0 } ∷ []) ∙ ap (λ (b : Bool). b || is_tallied other (record { app = app; consumed = 0 } ∷ [])) h

pub tallied_itself : (app : List ℕ) (ts : List Tally) → is_tallied app (with_app app ts) ≡ true
tallied_itself app ts = by (is_tallied app ts) refl
  where
    by : (b : Bool) → is_tallied app ts ≡ b → is_tallied app (cond b ts (ts ++ record { app = app; consumed = 0 } ∷ [])) ≡ true
    by true e = e
    by false e =
        list_any-append (is_of app) ts (record { app = app; consumed = 0 } ∷ []) ∙ ap (λ (b : Bool). is_tallied app ts || (b || false)) ((bytes_eq-Decides app app).1 refl) ∙ or_true (is_tallied app ts)

-- the loop that adds one

abbrev pub more : Tally → Tally
more t = record t { consumed = t.consumed + 1 }

module _ (app : List ℕ) where
  pub with_one_here : (xs : List Tally) (i : ℕ) (d : Tally) → i < length xs → find (is_of app) (take i xs) ≡ None → is_of app (get_or xs i d) ≡ true → set xs i (more (get_or xs i d)) ≡ with_one app xs
  with_one_here [] i d lt none t = absurd (omega arith)
  with_one_here (x ∷ xs) zero d lt none t = sym (ap (λ (b : Bool). cond b (more x ∷ xs) (x ∷ with_one app xs)) t)
  with_one_here (x ∷ xs) (suc i) d lt none t = by (is_of app x) none (λ n. with_one_here xs i d (omega arith) n t)
    where
      by : (b : Bool) → cond b (Some x) (find (is_of app) (take i xs)) ≡ None → (find (is_of app) (take i xs) ≡ None → set xs i (more (get_or xs i d)) ≡ with_one app xs) → x ∷ set xs i (more (get_or xs i d)) ≡ cond b (more x ∷ xs) (x ∷ with_one app xs)
      by true n rest = cc
      by false n rest = ap (λ l. x ∷ l) (rest n)

  pub tally_here : (xs : List Tally) (i : ℕ) (d : Tally) → i < length xs → find (is_of app) (take i xs) ≡ None → is_of app (get_or xs i d) ≡ true → tally_of app xs ≡ (get_or xs i d).consumed
  tally_here [] i d lt none t = absurd (omega arith)
  tally_here (x ∷ xs) zero d lt none t = ap (λ (b : Bool). option_map_or (λ (y : Tally). y.consumed) (cond b (Some x) (find (is_of app) xs)) 0) t
  tally_here (x ∷ xs) (suc i) d lt none t = by (is_of app x) none (λ n. tally_here xs i d (omega arith) n t)
    where
      by : (b : Bool) → cond b (Some x) (find (is_of app) (take i xs)) ≡ None → (find (is_of app) (take i xs) ≡ None → tally_of app xs ≡ (get_or xs i d).consumed) → option_map_or (λ (y : Tally). y.consumed) (cond b (Some x) (find (is_of app) xs)) 0 ≡ (get_or xs i d).consumed
      by true n rest = cc
      by false n rest = rest n

  pub with_one_none : (xs : List Tally) → find (is_of app) xs ≡ None → with_one app xs ≡ xs
  with_one_none [] n = refl
  with_one_none (x ∷ xs) n = by (is_of app x) n (with_one_none xs)
    where
      by : (b : Bool) → cond b (Some x) (find (is_of app) xs) ≡ None → (find (is_of app) xs ≡ None → with_one app xs ≡ xs) → cond b (more x ∷ xs) (x ∷ with_one app xs) ≡ x ∷ xs
      by true n rest = cc
      by false n rest = ap (λ l. x ∷ l) (rest n)

module _ (app : List ℕ) (xs ys : List Tally) (i : ℕ) (d : Tally) (lt : i < length xs) (same : ys ≡ xs) (none : find (is_of app) (take i xs) ≡ None) where
  pub adds_here : is_of app (get_or ys i d) ≡ true → set ys i (more (get_or ys i d)) ≡ with_one app xs
  adds_here = subst (λ (l : List Tally). is_of app (get_or l i d) ≡ true → set l i (more (get_or l i d)) ≡ with_one app xs) (sym same) (with_one_here app xs i d lt none)

  pub counts_here : is_of app (get_or ys i d) ≡ true → (get_or ys i d).consumed ≡ tally_of app xs
  counts_here = subst (λ (l : List Tally). is_of app (get_or l i d) ≡ true → (get_or l i d).consumed ≡ tally_of app xs) (sym same) (λ t. sym (tally_here app xs i d lt none t))

  pub keeps_here : set ys i (get_or ys i d) ≡ xs
  keeps_here = set-get_or ys i d ∙ same

  pub none_here : is_of app (get_or ys i d) ≡ false → find (is_of app) (take (i + 1) xs) ≡ None
  none_here f = not_yet (is_of app) xs i (get_or xs i d) lt (get_or_default xs i d (get_or xs i d) lt) none (ap (λ (l : List Tally). is_of app (get_or l i d)) (sym same) ∙ f)
