-- What the calls of a file do, where it tells its bytes.
use Rattle.std.specs.Prelude.{◌≡◌, ◌≤◌, ◌<◌, ℕ, List, length, take, drop, Option, Some}
use Rattle.qc_site.specs.Disk.{written}

-- a read of some bytes from `at` on; none is the end, or nothing was asked for
pub record GivesSome (at n : ℕ) (into bytes : List ℕ) : Type 0 where
  pub there : n ≤ length (drop at bytes)
  pub given : take n into ≡ take n (drop at bytes)
  pub ended : n ≡ 0 → 0 < length into → length (drop at bytes) ≡ 0

-- a write of the first n bytes, at a place in the file or at its end
abbrev pub TakesSome : ℕ → ℕ → List ℕ → Option (List ℕ) → List ℕ → Type 0
TakesSome at n bytes now old = at ≤ length old → now ≡ Some (written old at (take n bytes))

-- a cut to a length that the file has
abbrev pub IsCut : ℕ → Option (List ℕ) → List ℕ → Type 0
IsCut n now old = n ≤ length old → now ≡ Some (take n old)

-- a sync that made sure of all that a read gives
pub record SyncsAll (now synced : Option (List ℕ)) (bytes : List ℕ) : Type 0 where
  pub same : now ≡ Some bytes
  pub sure : synced ≡ Some bytes
