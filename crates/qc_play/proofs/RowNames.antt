-- Rows that are equal, and the amounts of a view.
use Rattle.std.proofs.Common.{◌≡◌, ◌∙◌, ℕ, List, [], ◌∷◌, Bool, true, false, cond, find, refl, sym, ap, true≢false, Option, Some, option_and_then}
use Rattle.std.specs.Str.{bytes_eq}
use Rattle.std.proofs.lemmas.Bool.{and_parts, and_from, cond-true, cond-false, false_from_ne_true}
use Rattle.std.proofs.lemmas.Slice.Eq.{bytes_eq-Decides}
use Rattle.qc_base.specs.declared.recording.Row.{Row}
use Rattle.qc_base.specs.declared.recording.Space.{Space}
use Rattle.qc_base.specs.declared.recording.Space.TheVariants.{Inside, Outside}
use Rattle.qc_base.specs.Rows.{space_eq, row_eq}
use Rattle.qc_play.specs.Play.{Seen, amount_of, with_amount, rows_in}

space-same : (a b : Space) → space_eq a b ≡ true → a ≡ b
space-same Inside Inside e = refl
space-same Outside Outside e = refl
space-same Inside Outside e = absurd (true≢false (sym e))
space-same Outside Inside e = absurd (true≢false (sym e))

space-itself : (a : Space) → space_eq a a ≡ true
space-itself Inside = refl
space-itself Outside = refl

pub row-same : (a b : Row) → row_eq a b ≡ true → a ≡ b
row-same a b e =
    let parts = and_parts (space_eq a.space b.space) _ e in
    let words = and_parts (bytes_eq a.name b.name) _ parts.1 in
    let s : a.space ≡ b.space = space-same a.space b.space parts.0 in
    let n : a.name ≡ b.name = (bytes_eq-Decides a.name b.name).0 words.0 in
    let k : a.key ≡ b.key = (bytes_eq-Decides a.key b.key).0 words.1 in
    λ i. record { space = s i; name = n i; key = k i }

pub row-itself : (a : Row) → row_eq a a ≡ true
row-itself a = and_from (space_eq a.space a.space) _ (space-itself a.space) (and_from (bytes_eq a.name a.name) _ ((bytes_eq-Decides a.name a.name).1 refl) ((bytes_eq-Decides a.key a.key).1 refl))

pub row-flip : (a b : Row) (t : Bool) → row_eq a b ≡ t → row_eq b a ≡ t
row-flip a b true e = ap (λ (r : Row). row_eq r a) (sym (row-same a b e)) ∙ row-itself a
row-flip a b false e = false_from_ne_true (row_eq b a) (λ t. true≢false (sym (ap (λ (r : Row). row_eq r b) (sym (row-same b a t)) ∙ row-itself b) ∙ e))

pub rows-kept : (r : Row) (n : ℕ) (view : List Seen) → rows_in (with_amount r n view) ≡ rows_in view
rows-kept r n [] = refl
rows-kept r n (s ∷ view) = λ i. same (row_eq s.0 r) i ∷ rows-kept r n view i
  where
    same : (b : Bool) → (cond b ((s.0, Some n)) s).0 ≡ s.0
    same true = refl
    same false = refl

-- the amount of a row that another row's doesn't touch
pub amount-other : (r x : Row) (n : ℕ) (view : List Seen) → row_eq x r ≡ false → amount_of x (with_amount r n view) ≡ amount_of x view
amount-other r x n [] other = refl
amount-other r x n (s ∷ view) other = by (row_eq s.0 r) refl (row_eq s.0 x) refl (amount-other r x n view other)
  where
    by : (b : Bool) → row_eq s.0 r ≡ b → (d : Bool) → row_eq s.0 x ≡ d → amount_of x (with_amount r n view) ≡ amount_of x view → amount_of x (cond b ((s.0, Some n)) s ∷ with_amount r n view) ≡ amount_of x (s ∷ view)
    by true e true f rest = absurd (true≢false (sym (ap (λ (a : Row). row_eq a r) (sym (row-same s.0 x f)) ∙ e) ∙ other))
    by true e false f rest = ap (λ (o : Option Seen). option_and_then (λ (s : Seen). s.1) o) (cond-false (row_eq s.0 x) (Some ((s.0, Some n))) (find (λ (s : Seen). row_eq s.0 x) (with_amount r n view)) f) ∙ rest ∙ sym (ap (λ (o : Option Seen). option_and_then (λ (s : Seen). s.1) o) (cond-false (row_eq s.0 x) (Some s) (find (λ (s : Seen). row_eq s.0 x) view) f))
    by false e true f rest = ap (λ (o : Option Seen). option_and_then (λ (s : Seen). s.1) o) (cond-true (row_eq s.0 x) (Some s) (find (λ (s : Seen). row_eq s.0 x) (with_amount r n view)) f ∙ sym (cond-true (row_eq s.0 x) (Some s) (find (λ (s : Seen). row_eq s.0 x) view) f))
    by false e false f rest = ap (λ (o : Option Seen). option_and_then (λ (s : Seen). s.1) o) (cond-false (row_eq s.0 x) (Some s) (find (λ (s : Seen). row_eq s.0 x) (with_amount r n view)) f) ∙ rest ∙ sym (ap (λ (o : Option Seen). option_and_then (λ (s : Seen). s.1) o) (cond-false (row_eq s.0 x) (Some s) (find (λ (s : Seen). row_eq s.0 x) view) f))
