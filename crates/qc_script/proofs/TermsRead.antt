-- What reading a term more says of all terms.
use Rattle.std.proofs.Common.{◌≡◌, ◌∙◌, ℕ, ◌<◌, List, [], ◌∷◌, ◌++◌, length, Bool, true, false, Option, Some, None, option_map, refl, sym, ap, subst, arith, append_assoc}
use Rattle.qc_script.specs.declared.names.Param.{Param}
use Rattle.qc_script.specs.declared.step.SignedTerm.{SignedTerm}
use Rattle.qc_script.specs.declared.step.Term.{Term}
use Rattle.qc_script.specs.Words.{Front, by_word, made}
use Rattle.qc_script.specs.Terms.{term_of, sign_of}
use Rattle.qc_script.specs.Sums.{sign_front, with_term, terms_front, prefixed}

-- a front is there or not
none-front : {A : Type 0} (x : A) (left : List (List ℕ)) → ◌≡◌ {A = Front A} None (Some (x, left)) → ⊥
none-front x left e = cc

-- what a word gives, with the words behind it
abbrev paired : {A : Type 0} → List (List ℕ) → Option A → Front A
paired ws o = option_map (λ y. (y, ws)) o

-- what a word gives, by what its front is
some-word : {A : Type 0} (o : Option A) (ws : List (List ℕ)) (x : A) (left : List (List ℕ)) → ◌≡◌ {A = Front A} (paired ws o) (Some (x, left)) → (o ≡ Some x) × (ws ≡ left)
some-word None ws x left e = absurd (none-front x left e)
some-word {A = A} (Some y) ws x left e =
    let first : Front A → A = λ front. elim front [ Some p ↦ p.0 | None ↦ y ] in
    let behind : Front A → List (List ℕ) = λ front. elim front [ Some p ↦ p.1 | None ↦ ws ] in
    (ap (λ z. Some (first z)) e, ap behind e)

no-word : {A : Type 0} (o : Option A) (ws : List (List ℕ)) → ◌≡◌ {A = Front A} (paired ws o) None → o ≡ None
no-word None ws e = refl
no-word (Some y) ws e = absurd (none-front y ws (sym e))

module _ (tables : List (List ℕ)) (params : List Param) (minus : Bool) where
  abbrev pub signed : Term → SignedTerm
  signed t = record { minus = minus; term = t }

  -- no term stands in front
  pub term_missing : (ws : List (List ℕ)) → by_word (term_of tables params) ws ≡ None → terms_front tables params minus ws ≡ None
  term_missing [] e = refl
  term_missing (w ∷ []) e = ap (λ (o : Option Term). with_term o None minus [] (λ sign. None)) (no-word (term_of tables params w) [] e)
  term_missing (w ∷ x ∷ ws) e = ap (λ (o : Option Term). with_term o (sign_of x) minus (x ∷ ws) (λ sign. terms_front tables params sign ws)) (no-word (term_of tables params w) (x ∷ ws) e)

  -- a term behind which a sign stands
  pub term_then : (ws mid left : List (List ℕ)) (terms more : List SignedTerm) (term : Term) (sign : Bool)
      → by_word (term_of tables params) ws ≡ Some (term, mid) → more ≡ terms ++ signed term ∷ [] → sign_front mid ≡ Some (sign, left)
      → (prefixed terms (terms_front tables params minus ws) ≡ prefixed more (terms_front tables params sign left)) × (length left < length ws)
  term_then [] mid left terms more term sign e put f = absurd (none-front term mid e)
  term_then (w ∷ []) mid left terms more term sign e put f = absurd (none-front sign left (ap sign_front (some-word (term_of tables params w) [] term mid e).1 ∙ f))
  term_then (w ∷ x ∷ ws) mid left terms more term sign e put f =
      let word = some-word (term_of tables params w) (x ∷ ws) term mid e in
      let behind = some-word (sign_of x) ws sign left (ap sign_front word.1 ∙ f) in
      let next : Bool → Front (List SignedTerm) = λ s. terms_front tables params s ws in
      let front : terms_front tables params minus (w ∷ x ∷ ws) ≡ made (λ (more : List SignedTerm). signed term ∷ more) (terms_front tables params sign ws) =
      ap (λ (o : Option Term). with_term o (sign_of x) minus (x ∷ ws) next) word.0 ∙ ap (λ (o : Option Bool). with_term (Some term) o minus (x ∷ ws) next) behind.0 in
      (ap (prefixed terms) front ∙ moved (terms_front tables params sign ws) ∙ (λ i. prefixed (sym put i) (terms_front tables params sign (behind.1 i))), omega (arith, ap length behind.1))
    where
      moved : (front : Front (List SignedTerm)) → prefixed terms (made (λ (more : List SignedTerm). signed term ∷ more) front) ≡ prefixed (terms ++ signed term ∷ []) front
      moved None = refl
      moved (Some p) = ap (λ (l : List SignedTerm). Some (l, p.1)) (sym (append_assoc terms (signed term ∷ []) p.0))

  -- a term behind which none stands
  pub term_last : (ws mid left : List (List ℕ)) (terms more : List SignedTerm) (term : Term)
      → by_word (term_of tables params) ws ≡ Some (term, mid) → more ≡ terms ++ signed term ∷ [] → sign_front mid ≡ None → left ≡ mid
      → prefixed terms (terms_front tables params minus ws) ≡ Some (more, left)
  term_last [] mid left terms more term e put f same = absurd (none-front term mid e)
  term_last (w ∷ []) mid left terms more term e put f same =
      let word = some-word (term_of tables params w) [] term mid e in
      ap (λ (o : Option Term). prefixed terms (with_term o None minus [] (λ sign. None))) word.0 ∙ ends [] (word.1 ∙ sym same)
    where
      ends : (rest : List (List ℕ)) → rest ≡ left → ◌≡◌ {A = Front (List SignedTerm)} (Some (terms ++ signed term ∷ [], rest)) (Some (more, left))
      ends rest is = λ i. Some (sym put i, is i)
  term_last (w ∷ x ∷ ws) mid left terms more term e put f same =
      let word = some-word (term_of tables params w) (x ∷ ws) term mid e in
      let behind : sign_of x ≡ None = no-word (sign_of x) ws (ap sign_front word.1 ∙ f) in
      let next : Bool → Front (List SignedTerm) = λ s. terms_front tables params s ws in
      ap (λ (o : Option Term). prefixed terms (with_term o (sign_of x) minus (x ∷ ws) next)) word.0
      ∙ ap (λ (o : Option Bool). prefixed terms (with_term (Some term) o minus (x ∷ ws) next)) behind ∙ ends (x ∷ ws) (word.1 ∙ sym same)
    where
      ends : (rest : List (List ℕ)) → rest ≡ left → ◌≡◌ {A = Front (List SignedTerm)} (Some (terms ++ signed term ∷ [], rest)) (Some (more, left))
      ends rest is = λ i. Some (sym put i, is i)
