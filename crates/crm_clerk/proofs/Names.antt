-- Names that are the same.
use Rattle.std.proofs.Common.{◌≡◌, ◌∙◌, ℕ, List, Bool, true, false, bytes_eq, refl, sym, true≢false}
use Rattle.std.proofs.lemmas.Bool.{false_from_ne_true}
use Rattle.std.proofs.lemmas.Slice.Eq.{bytes_eq-Decides}

pub bytes-same : (a b : List ℕ) → bytes_eq a b ≡ true → a ≡ b
bytes-same a b e = (bytes_eq-Decides a b).0 e

pub bytes-itself : (a : List ℕ) → bytes_eq a a ≡ true
bytes-itself a = (bytes_eq-Decides a a).1 refl

pub bytes-flip : (a b : List ℕ) (t : Bool) → bytes_eq a b ≡ t → bytes_eq b a ≡ t
bytes-flip a b true e = (bytes_eq-Decides b a).1 (sym (bytes-same a b e))
bytes-flip a b false e = false_from_ne_true (bytes_eq b a) (λ t. true≢false (sym ((bytes_eq-Decides a b).1 (sym (bytes-same b a t))) ∙ e))
