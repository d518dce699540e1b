-- Records that have the numbers from one on, and those of them that are left.
use Rattle.std.proofs.Common.{◌≡◌, ◌∙◌, ℕ, ◌+◌, ◌<◌, ◌==◌, List, [], ◌∷◌, ◌++◌, length, filter, Bool, true, false, not, cond, ◌||◌, refl, sym, ap, arith, eqb-true, eq-eqb, ne_eqb, true≢false}
use Rattle.std.specs.List.{list_any}
use Rattle.std.proofs.lemmas.Bool.{and_parts, and_from}
use Rattle.qc_base.specs.declared.log_line.LogRecord.{LogRecord}
use Rattle.crm_clerk.specs.Accounts.{without_seq}
use Rattle.crm_clerk.specs.Keeps.{are_numbered}

pub same-number : (n : ℕ) → (n == n) ≡ true
same-number n = eq-eqb n n refl

-- one more
pub numbered-more : (k : ℕ) (ws : List LogRecord) (r : LogRecord) → are_numbered k ws ≡ true → r.seq ≡ k + length ws → are_numbered k (ws ++ r ∷ []) ≡ true
numbered-more k [] r e is = and_from (r.seq == k) true (eq-eqb r.seq k (omega (arith, is))) refl
numbered-more k (w ∷ ws) r e is =
    let both = and_parts (w.seq == k) (are_numbered (k + 1) ws) e in
    and_from (w.seq == k) (are_numbered (k + 1) (ws ++ r ∷ [])) both.0 (numbered-more (k + 1) ws r both.1 (omega (arith, is)))

-- the last, and those before it
pub numbered-parts : (k : ℕ) (ws : List LogRecord) (r : LogRecord) → are_numbered k (ws ++ r ∷ []) ≡ true → (are_numbered k ws ≡ true) × (r.seq ≡ k + length ws)
numbered-parts k [] r e = (refl, omega (arith, eqb-true r.seq k (and_parts (r.seq == k) true e).0))
numbered-parts k (w ∷ ws) r e =
    let both = and_parts (w.seq == k) (are_numbered (k + 1) (ws ++ r ∷ [])) e in
    let rest = numbered-parts (k + 1) ws r both.1 in
    (and_from (w.seq == k) (are_numbered (k + 1) ws) both.0 rest.0, omega (arith, rest.1))

-- those that aren't among these numbers
abbrev pub those : (ℕ → Bool) → List LogRecord → List LogRecord
those gone ws = filter (λ (r : LogRecord). not (gone r.seq)) ws

-- and not this number
abbrev pub others : ℕ → List LogRecord → List LogRecord
others n ws = filter (λ (r : LogRecord). not (n == r.seq)) ws

-- numbers below the first aren't there
pub none-below : (gone : ℕ → Bool) (k n : ℕ) (ws : List LogRecord) → are_numbered k ws ≡ true → n < k → others n (those gone ws) ≡ those gone ws
none-below gone k n [] e lt = refl
none-below gone k n (w ∷ ws) e lt =
    let both = and_parts (w.seq == k) (are_numbered (k + 1) ws) e in
    let seq : w.seq ≡ k = eqb-true w.seq k both.0 in
    by (gone w.seq) refl (none-below gone (k + 1) n ws both.1 (omega (arith, lt))) (ne_eqb n w.seq (λ (is : n ≡ w.seq). absurd (omega (arith, is, seq, lt))))
  where
    by : (b : Bool) → gone w.seq ≡ b → others n (those gone ws) ≡ those gone ws → (n == w.seq) ≡ false
        → others n (cond (not (gone w.seq)) (w ∷ those gone ws) (those gone ws)) ≡ cond (not (gone w.seq)) (w ∷ those gone ws) (those gone ws)
    by true is rest ne =
        ap (λ (b : Bool). others n (cond (not b) (w ∷ those gone ws) (those gone ws))) is ∙ rest ∙ sym (ap (λ (b : Bool). cond (not b) (w ∷ those gone ws) (those gone ws)) is)
    by false is rest ne =
        ap (λ (b : Bool). others n (cond (not b) (w ∷ those gone ws) (those gone ws))) is
        ∙ ap (λ (b : Bool). cond (not b) (w ∷ others n (those gone ws)) (others n (those gone ws))) ne
        ∙ ap (λ (l : List LogRecord). w ∷ l) rest
        ∙ sym (ap (λ (b : Bool). cond (not b) (w ∷ those gone ws) (those gone ws)) is)

-- no number is there twice
pub others-without : (gone : ℕ → Bool) (k n : ℕ) (ws : List LogRecord) → are_numbered k ws ≡ true → others n (those gone ws) ≡ without_seq n (those gone ws)
others-without gone k n [] e = refl
others-without gone k n (w ∷ ws) e =
    let both = and_parts (w.seq == k) (are_numbered (k + 1) ws) e in
    let seq : w.seq ≡ k = eqb-true w.seq k both.0 in
    by (gone w.seq) refl (n == w.seq) refl (others-without gone (k + 1) n ws both.1)
    (λ (is : (n == w.seq) ≡ true). none-below gone (k + 1) n ws both.1 (omega (arith, eqb-true n w.seq is, seq)))
  where
    left : List LogRecord
    left = those gone ws

    by : (b : Bool) → gone w.seq ≡ b → (d : Bool) → (n == w.seq) ≡ d → others n left ≡ without_seq n left → ((n == w.seq) ≡ true → others n left ≡ left)
        → others n (cond (not (gone w.seq)) (w ∷ left) left) ≡ without_seq n (cond (not (gone w.seq)) (w ∷ left) left)
    by true is d here rest none =
        ap (λ (b : Bool). others n (cond (not b) (w ∷ left) left)) is ∙ rest ∙ sym (ap (λ (b : Bool). without_seq n (cond (not b) (w ∷ left) left)) is)
    by false is true here rest none =
        ap (λ (b : Bool). others n (cond (not b) (w ∷ left) left)) is
        ∙ ap (λ (b : Bool). cond (not b) (w ∷ others n left) (others n left)) here
        ∙ none here
        ∙ sym (ap (λ (b : Bool). cond b left (w ∷ without_seq n left)) here)
        ∙ sym (ap (λ (b : Bool). without_seq n (cond (not b) (w ∷ left) left)) is)
    by false is false here rest none =
        ap (λ (b : Bool). others n (cond (not b) (w ∷ left) left)) is
        ∙ ap (λ (b : Bool). cond (not b) (w ∷ others n left) (others n left)) here
        ∙ ap (λ (l : List LogRecord). w ∷ l) rest
        ∙ sym (ap (λ (b : Bool). cond b left (w ∷ without_seq n left)) here)
        ∙ sym (ap (λ (b : Bool). without_seq n (cond (not b) (w ∷ left) left)) is)

-- a number more is gone
pub those-less : (gone : ℕ → Bool) (n : ℕ) (ws : List LogRecord) → those (λ s. gone s || (n == s)) ws ≡ others n (those gone ws)
those-less gone n [] = refl
those-less gone n (w ∷ ws) = by (gone w.seq) refl (n == w.seq) refl (those-less gone n ws)
  where
    now : List LogRecord
    now = those (λ s. gone s || (n == s)) ws

    left : List LogRecord
    left = those gone ws

    by : (b : Bool) → gone w.seq ≡ b → (d : Bool) → (n == w.seq) ≡ d → now ≡ others n left → cond (not (gone w.seq || (n == w.seq))) (w ∷ now) now ≡ others n (cond (not (gone w.seq)) (w ∷ left) left)
    by true is d here rest =
        ap (λ (b : Bool). cond (not (b || (n == w.seq))) (w ∷ now) now) is ∙ rest ∙ sym (ap (λ (b : Bool). others n (cond (not b) (w ∷ left) left)) is)
    by false is true here rest =
        (λ i. cond (not (is i || here i)) (w ∷ now) now) ∙ rest
        ∙ sym (ap (λ (b : Bool). cond (not b) (w ∷ others n left) (others n left)) here)
        ∙ sym (ap (λ (b : Bool). others n (cond (not b) (w ∷ left) left)) is)
    by false is false here rest =
        (λ i. cond (not (is i || here i)) (w ∷ now) now) ∙ ap (λ (l : List LogRecord). w ∷ l) rest
        ∙ sym (ap (λ (b : Bool). cond (not b) (w ∷ others n left) (others n left)) here)
        ∙ sym (ap (λ (b : Bool). others n (cond (not b) (w ∷ left) left)) is)

-- a number that is there is one of them
pub there-below : (gone : ℕ → Bool) (k n : ℕ) (ws : List LogRecord) → are_numbered k ws ≡ true → list_any (λ (r : LogRecord). r.seq == n) (those gone ws) ≡ true → n < k + length ws
there-below gone k n [] e there = absurd (true≢false (sym there))
there-below gone k n (w ∷ ws) e there =
    let both = and_parts (w.seq == k) (are_numbered (k + 1) ws) e in
    let seq : w.seq ≡ k = eqb-true w.seq k both.0 in
    by (gone w.seq) refl (w.seq == n) refl there (λ h. omega (arith, there-below gone (k + 1) n ws both.1 h)) (λ (is : (w.seq == n) ≡ true). omega (arith, eqb-true w.seq n is, seq))
  where
    left : List LogRecord
    left = those gone ws

    by : (b : Bool) → gone w.seq ≡ b → (d : Bool) → (w.seq == n) ≡ d → list_any (λ (r : LogRecord). r.seq == n) (cond (not (gone w.seq)) (w ∷ left) left) ≡ true
        → (list_any (λ (r : LogRecord). r.seq == n) left ≡ true → n < k + length (w ∷ ws)) → ((w.seq == n) ≡ true → n < k + length (w ∷ ws)) → n < k + length (w ∷ ws)
    by true is d here found rest this = rest (sym (ap (λ (b : Bool). list_any (λ (r : LogRecord). r.seq == n) (cond (not b) (w ∷ left) left)) is) ∙ found)
    by false is true here found rest this = this here
    by false is false here found rest this =
        rest (sym (ap (λ (b : Bool). b || list_any (λ (r : LogRecord). r.seq == n) left) here) ∙ sym (ap (λ (b : Bool). list_any (λ (r : LogRecord). r.seq == n) (cond (not b) (w ∷ left) left)) is) ∙ found)
