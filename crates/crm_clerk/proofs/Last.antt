-- The last record of a resource, and the last of those that are left.
use Rattle.std.proofs.Common.{◌≡◌, ◌∙◌, ℕ, zero, suc, ◌+◌, ◌-◌, ◌<◌, ◌==◌, List, [], ◌∷◌, ◌++◌, length, reverse, slice_get, Bool, true, false, not, cond, ◌||◌, Option, Some, None, refl, sym, ap, arith, append-nil, eq-eqb, ne_eqb, eqb-true}
use Rattle.std.specs.List.{list_any}
use Rattle.std.proofs.Math.Bool.{or-true}
use Rattle.std.proofs.lemmas.Bool.{and_parts}
use Rattle.std.proofs.lemmas.List.{reverse-reverse, reverse-append, length_push}
use Rattle.std.proofs.lemmas.List.Elements.{filter-append}
use Rattle.qc_base.specs.declared.log_line.LogRecord.{LogRecord}
use Rattle.qc_base.specs.declared.log_line.LogLine.{LogLine}
use Rattle.qc_base.specs.LogLines.{unforgotten}
use Rattle.crm_clerk.specs.Clerk.{records_in, unless_forgotten, last_kept}
use Rattle.crm_clerk.specs.Keeps.{are_numbered}
use Rattle.crm_clerk.proofs.Numbered.{those, numbered-parts}
use Rattle.crm_clerk.proofs.Said.{is_named, unforgotten-those}

abbrev pub last_of : List LogRecord → Option LogRecord
last_of rs = slice_get rs (length rs - 1)

get-push : (rs : List LogRecord) (w : LogRecord) → slice_get (rs ++ w ∷ []) (length rs) ≡ Some w
get-push [] w = refl
get-push (r ∷ rs) w = get-push rs w

last-push : (rs : List LogRecord) (w : LogRecord) → last_of (rs ++ w ∷ []) ≡ Some w
last-push rs w =
    let back : length (rs ++ w ∷ []) - 1 ≡ length rs = omega (arith, length_push rs w) in
    ap (slice_get (rs ++ w ∷ [])) back ∙ get-push rs w

-- a record of a list has the number of one
pub among : (rs : List LogRecord) (i : ℕ) (r : LogRecord) → slice_get rs i ≡ Some r → list_any (λ (e : LogRecord). e.seq == r.seq) rs ≡ true
among [] i r at = absurd cc
among (w ∷ rs) zero r at =
    let is : w ≡ r = cc in
    ap (λ (b : Bool). b || list_any (λ (e : LogRecord). e.seq == r.seq) rs) (eq-eqb w.seq r.seq (ap (λ (x : LogRecord). x.seq) is))
among (w ∷ rs) (suc i) r at = ap (λ (b : Bool). (w.seq == r.seq) || b) (among rs i r at) ∙ or-true (w.seq == r.seq)

-- all that are left have numbers of those that were written
below : (gone : ℕ → Bool) (k : ℕ) (ws : List LogRecord) (i : ℕ) (r : LogRecord) → are_numbered k ws ≡ true → slice_get (those gone ws) i ≡ Some r → r.seq < k + length ws
below gone k [] i r e at = absurd cc
below gone k (w ∷ ws) i r e at =
    let both = and_parts (w.seq == k) (are_numbered (k + 1) ws) e in
    let seq : w.seq ≡ k = eqb-true w.seq k both.0 in
    by (gone w.seq) refl i at (λ (j : ℕ) (h : slice_get (those gone ws) j ≡ Some r). omega (arith, below gone (k + 1) ws j r both.1 h)) (λ (is : w ≡ r). omega (arith, seq, ap (λ (x : LogRecord). x.seq) is))
  where
    by : (b : Bool) → gone w.seq ≡ b → (i : ℕ) → slice_get (cond (not (gone w.seq)) (w ∷ those gone ws) (those gone ws)) i ≡ Some r → ((j : ℕ) → slice_get (those gone ws) j ≡ Some r → r.seq < k + length (w ∷ ws)) → (w ≡ r → r.seq < k + length (w ∷ ws))
        → r.seq < k + length (w ∷ ws)
    by true is i at rest this = rest i (sym (ap (λ (b : Bool). slice_get (cond (not b) (w ∷ those gone ws) (those gone ws)) i) is) ∙ at)
    by false is zero at rest this =
        let here : Some w ≡ Some r = sym (ap (λ (b : Bool). slice_get (cond (not b) (w ∷ those gone ws) (those gone ws)) zero) is) ∙ at in
        this cc
    by false is (suc j) at rest this = rest j (sym (ap (λ (b : Bool). slice_get (cond (not b) (w ∷ those gone ws) (those gone ws)) (suc j)) is) ∙ at)

-- the record, where its number is the last
abbrev pub if-last : ℕ → Option LogRecord → Option LogRecord
if-last n None = None
if-last n (Some r) = cond (r.seq == n) (Some r) None

-- the last record is left exactly where the last that is left has the last number
pub last-kept : (lines : List LogLine) (attempt : ℕ) (resource : List ℕ) → are_numbered 1 (records_in lines attempt resource) ≡ true
    → last_kept lines attempt resource ≡ if-last (length (records_in lines attempt resource)) (last_of (unforgotten lines attempt resource))
last-kept lines attempt resource numbered = by (reverse (records_in lines attempt resource)) refl
  where
    ws : List LogRecord
    ws = records_in lines attempt resource

    gone : ℕ → Bool
    gone = is_named lines attempt resource

    within : (rest : List LogRecord) (w : LogRecord) → ws ≡ reverse rest ++ w ∷ [] → (b : Bool) → gone w.seq ≡ b → cond (gone w.seq) None (Some w) ≡ if-last (length ws) (last_of (unforgotten lines attempt resource))
    within rest w is true forgot =
        let parts = numbered-parts 1 (reverse rest) w (sym (ap (are_numbered 1) is) ∙ numbered) in
        let left : unforgotten lines attempt resource ≡ those gone (reverse rest) =
        unforgotten-those lines attempt resource ∙ ap (those gone) is ∙ filter-append (λ (r : LogRecord). not (gone r.seq)) (reverse rest) (w ∷ [])
        ∙ ap (λ (b : Bool). those gone (reverse rest) ++ cond (not b) (w ∷ []) []) forgot ∙ append-nil (those gone (reverse rest)) in
        ap (λ (b : Bool). cond b None (Some w)) forgot
        ∙ other (last_of (those gone (reverse rest))) refl parts.0
        ∙ sym (ap (λ (l : List LogRecord). if-last (length ws) (last_of l)) left)
      where
        other : (o : Option LogRecord) → last_of (those gone (reverse rest)) ≡ o → are_numbered 1 (reverse rest) ≡ true → None ≡ if-last (length ws) (last_of (those gone (reverse rest)))
        other None at numbers = sym (ap (if-last (length ws)) at)
        other (Some r) at numbers =
            let fewer = below gone 1 (reverse rest) (length (those gone (reverse rest)) - 1) r numbers at in
            let apart : (r.seq == length ws) ≡ false = ne_eqb r.seq (length ws) (λ (same : r.seq ≡ length ws). absurd (omega (arith, same, fewer, ap length is, length_push (reverse rest) w))) in
            sym (ap (if-last (length ws)) at ∙ ap (λ (b : Bool). cond b (Some r) None) apart)
    within rest w is false kept =
        let parts = numbered-parts 1 (reverse rest) w (sym (ap (are_numbered 1) is) ∙ numbered) in
        let left : unforgotten lines attempt resource ≡ those gone (reverse rest) ++ w ∷ [] =
        unforgotten-those lines attempt resource ∙ ap (those gone) is ∙ filter-append (λ (r : LogRecord). not (gone r.seq)) (reverse rest) (w ∷ [])
        ∙ ap (λ (b : Bool). those gone (reverse rest) ++ cond (not b) (w ∷ []) []) kept in
        let same : (w.seq == length ws) ≡ true = eq-eqb w.seq (length ws) (omega (arith, parts.1, ap length is, length_push (reverse rest) w)) in
        ap (λ (b : Bool). cond b None (Some w)) kept
        ∙ sym (ap (λ (l : List LogRecord). if-last (length ws) (last_of l)) left ∙ ap (if-last (length ws)) (last-push (those gone (reverse rest)) w) ∙ ap (λ (b : Bool). cond b (Some w) None) same)

    by : (rs : List LogRecord) → reverse ws ≡ rs → unless_forgotten lines attempt resource (reverse ws) ≡ if-last (length ws) (last_of (unforgotten lines attempt resource))
    by [] e =
        let none : ws ≡ [] = sym (reverse-reverse ws) ∙ ap reverse e in
        let left : unforgotten lines attempt resource ≡ [] = unforgotten-those lines attempt resource ∙ ap (those gone) none in
        ap (unless_forgotten lines attempt resource) e ∙ sym (ap (λ (l : List LogRecord). if-last (length ws) (last_of l)) left)
    by (w ∷ rest) e =
        let is : ws ≡ reverse rest ++ w ∷ [] = sym (reverse-reverse ws) ∙ ap reverse e ∙ reverse-append (w ∷ []) rest in
        ap (unless_forgotten lines attempt resource) e ∙ within rest w is (gone w.seq) refl
