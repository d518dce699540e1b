-- What a store holds.
use Rattle.std.specs.Prelude.{ℕ, ◌<◌, List, [], ◌∷◌, All}
use Rattle.qc_base.specs.declared.message.Message.{Message}

-- the messages, and how many more the store takes without memory
pub record Stored : Type 0 where
  pub messages : List Message
  pub room : ℕ

-- each id is below those of the messages behind it
abbrev pub IdsRise : List Message → Type 0
IdsRise [] = Unit {0}
IdsRise (m ∷ ms) = All (λ (x : Message). m.id < x.id) ms × IdsRise ms
