-- Why an object of the outside answers that it failed.
use Rattle.std.specs.Prelude.{ℕ, ◌+◌, ◌≤◌, min}

-- a count has risen, or stands at the end of a u64
abbrev pub Rose : ℕ → ℕ → Type 0
Rose before now = min (before + 1) 18446744073709551615 ≤ now

-- a failure is told only where the count rose
pub record HasCause (before now : ℕ) (failed : Type 0) : Type 0 where
  pub no_fewer : before ≤ now
  pub cause : failed → Rose before now
