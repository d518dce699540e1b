-- What a door gives, and how many links it then has left.
use Rattle.std.specs.Prelude.{◌≡◌, ℕ, ◌+◌, Option, Some}
use Rattle.qc_site.specs.declared.door.Next.{Next}
use Rattle.qc_site.specs.declared.door.Next.TheVariants.{Link, Closed}

-- of n links: one, and the others are left, or none, where there was none
abbrev pub Comes : {L : Type 0} → Next L → Option ℕ → ℕ → Type 0
Comes (Link link) left n = (m : ℕ) × (n ≡ m + 1) × (left ≡ Some m)
Comes Closed left n = (n ≡ 0) × (left ≡ Some 0)
