use Rattle.std.proofs.Common.{◌≡◌, List, ℕ, Bool, true, false, refl, sym, Result, Ok, Err, is_ok, MatchResult}
use Rattle.std.specs.Str.{is_utf8, IsUtf8}
use Rattle.std.proofs.lemmas.Str.{IsUtf8-from_is_utf8, is_utf8-from_IsUtf8}
use Rattle.qc_base.proofs.name.is_utf8.Goals as goal

-- a test that fails whenever it would hold
is_false : (b : Bool) → ¬ (b ≡ true) → false ≡ b
is_false true never = absurd (never refl)
is_false false never = refl

by_cases : {S E : Type 0} (bs : List ℕ) (P : S → Type 0) (Q : E → Type 0) (r : Result S E)
    → MatchResult r (λ s. P s × IsUtf8 bs) (λ e. ¬ (IsUtf8 bs) × Q e) → is_ok r ≡ is_utf8 bs
by_cases bs P Q (Ok s) h = sym (is_utf8-from_IsUtf8 bs h.1)
by_cases bs P Q (Err e) h = is_false (is_utf8 bs) (λ t. h.0 (IsUtf8-from_is_utf8 bs t))

pub returns : goal.returns
returns c = rw c.is_ok.ensures.value (by_cases _ _ _ _ c.from_utf8.ensures.cases)
