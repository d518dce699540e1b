-- Which calls of a fake are to fail, by their numbers from 1.
use Rattle.std.specs.Prelude.{◌≡◌, ℕ, ◌+◌, min, ◌==◌, Bool}
use Rattle.std.specs.List.{list_any}
use Rattle.qc_memsite.specs.declared.numbers.Numbers.{Numbers}

-- the number of the next call
abbrev pub next_number : Numbers → ℕ
next_number numbers = min (numbers.made + 1) 18446744073709551615

-- the plan names the next call
abbrev pub is_named : Numbers → Bool
is_named numbers = list_any (λ n. n == next_number numbers) numbers.plan.items

-- one call more was made
pub record Counted (old new : Numbers) : Type 0 where
  pub same : new.plan ≡ old.plan
  pub made : new.made ≡ next_number old
