-- What the calls of a site do to it, and what a crash may do between two syncs.
use Rattle.std.specs.Prelude.{◌<◌, ◌≡◌, ◌⊎◌, ℕ, ◌+◌, ◌≤◌, max, min, List, ◌++◌, length, take, drop}
use Rattle.qc_site.specs.declared.site.SiteFile.{SiteFile}
use Rattle.qc_site.specs.Image.{Image, bytes_of, with_bytes, with_row, with_put}

-- old with these bytes at this offset
abbrev pub written : List ℕ → ℕ → List ℕ → List ℕ
written old at bytes = take at old ++ bytes ++ drop (at + length bytes) old

-- after a write of n bytes that a crash cuts short: any bytes in the range and past the old end, the same elsewhere
pub record Torn (at n : ℕ) (old new : List ℕ) : Type 0 where
  pub before : take at new ≡ take at old
  pub after : drop (at + n) new ≡ drop (at + n) old
  pub no_shorter : length old ≤ length new
  pub no_longer : length new ≤ max (length old) (at + n)

-- a byte inside the file is the old one or the new one
abbrev pub OneStep : ℕ → List ℕ → List ℕ → List ℕ → Type 0
OneStep at bytes old new = (new ≡ old) ⊎ ((at < length old) × (new ≡ written old at bytes))

-- after a cut: some length between
pub record Cut (n : ℕ) (old new : List ℕ) : Type 0 where
  pub no_shorter : min n (length old) ≤ length new
  pub front : new ≡ take (length new) old

-- one file goes on by this step, and all else stays
pub record FileStep (file : SiteFile) (step : List ℕ → List ℕ → Type 0) (old new : Image) : Type 0 where
  pub bytes : List ℕ
  pub is : new ≡ with_bytes file bytes old
  pub by : step (bytes_of file old) bytes

-- one row has the old amount or the new one, and all else stays
abbrev pub RowStep : List ℕ → List ℕ → ℕ → Image → Image → Type 0
RowStep resource key amount old new = (new ≡ old) ⊎ (new ≡ with_row resource key amount old)

-- one row that is there has the old amount or the new one, and all else stays
abbrev pub PutStep : List ℕ → List ℕ → ℕ → Image → Image → Type 0
PutStep resource key amount old new = (new ≡ old) ⊎ (new ≡ with_put resource key amount old)

-- what a crash may leave
abbrev pub Images : Type 1
Images = Image → Type 0

-- each new image is an old image after a step
abbrev pub Follows : (Image → Image → Type 0) → Images → Images → Type 0
Follows step old new = (c : Image) → new c → (d : Image) × old d × step d c

-- no image is new
abbrev pub NoMore : Images → Images → Type 0
NoMore old new = (c : Image) → new c → old c

-- each image has these bytes in the file
abbrev pub Certain : SiteFile → List ℕ → Images → Type 0
Certain file bytes images = (c : Image) → images c → bytes_of file c ≡ bytes

-- Time goes on: a crash since t might have left what it might have left before, or what it may leave now.
pub record Elapses (before now : ℕ) (past since : ℕ → Images) (images : Images) : Type 0 where
  pub later : before ≤ now
  pub nothing_else : (t : ℕ) (c : Image) → t ≤ before → since t c → past t c ⊎ images c
  pub keeps : (t : ℕ) (c : Image) → t ≤ before → past t c → since t c

-- A crash at any moment since old leaves an image that has P.
pub record LeavesOnly {S : Type 0} (moment : S → ℕ) (left_since : S → ℕ → Images) (old new : S) (P : Images) : Type 0 where
  pub later : moment old ≤ moment new
  pub each : (c : Image) → left_since new (moment old) c → P c
  -- for a run that began earlier
  pub before : (t : ℕ) (c : Image) → t ≤ moment old → left_since new t c → left_since old t c ⊎ P c
