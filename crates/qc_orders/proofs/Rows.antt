-- Words that have no row.
use Rattle.std.proofs.Common.{◌≡◌, List, ℕ, Bool, true, false, refl}
use Rattle.std.specs.Bool.{Decides}
use Rattle.std.specs.Str.{bytes_eq}
use Rattle.std.proofs.lemmas.Slice.Eq.{bytes_eq-Decides}

pub differs : (word other : List ℕ) → ¬ (word ≡ other) → bytes_eq word other ≡ false
differs word other ne = by_test (bytes_eq word other) (bytes_eq-Decides word other)
  where
    by_test : (b : Bool) → Decides b (word ≡ other) → b ≡ false
    by_test false d = refl
    by_test true d = absurd (ne (d.0 refl))
