-- Why a call of an object in memory failed.
use Rattle.std.specs.Prelude.{◌≡◌, ◌⊎◌, ℕ, Bool, true, false}
use Rattle.qc_site.specs.Causes.{Rose}

-- by the plan, which isn't counted as want of memory; or for want of memory, which is
abbrev pub FailedBy : Bool → ℕ → ℕ → Type 0
FailedBy planned before now = ((planned ≡ true) × (now ≡ before)) ⊎ ((planned ≡ false) × Rose before now)
