-- Refusals: each rule stands by itself, and the first by number is the answer.
use Rattle.std.specs.Prelude.{List, [], ◌∷◌, Bool, true, false, Option, Some, None, if◌then◌else◌}
use Rattle.qc_protocol.specs.declared.reply.Refusal.{Refusal}
use Rattle.qc_protocol.specs.declared.reply.Refusal.TheVariants.{LineTooLong, Malformed, NotBuilt}

abbrev pub refuse_if : Bool → Refusal → Option Refusal
refuse_if b refusal = if b then Some refusal else None

-- the first that is there
abbrev pub first_some : {A : Type 0} → List (Option A) → Option A
first_some [] = None
first_some (o ∷ os) = elim o [ Some a ↦ Some a | None ↦ first_some os ]

-- a refusal of the line as such leaves the last moment as it was
abbrev pub is_of_line : Refusal → Bool
is_of_line LineTooLong = true
is_of_line (Malformed member) = true
is_of_line NotBuilt = true
is_of_line _ = false
