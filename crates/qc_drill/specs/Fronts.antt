-- Fronts of lists, and what is added to a sink and taken from a source, where they tell.
use Rattle.std.specs.Prelude.{◌≡◌, ◌⊎◌, ◌<◌, ℕ, List, [], ◌++◌, length, Option, Some}

pub record IsFrontOf {A : Type 0} (whole front : List A) : Type 0 where
  pub rest : List A
  pub is : whole ≡ front ++ rest

-- a front that isn't the whole, or nothing
pub record IsPartOf {A : Type 0} (whole part : List A) : Type 0 where
  pub front : IsFrontOf whole part
  pub short : (part ≡ []) ⊎ (length part < length whole)

-- this text was added to the sink
abbrev pub Wrote : List ℕ → Option (List ℕ) → Option (List ℕ) → Type 0
Wrote text before after = (held : List ℕ) → before ≡ Some held → after ≡ Some (held ++ text)

-- the source had these bytes, of which the first were taken, and the rest is left
pub record TookFrom (bytes taken : List ℕ) (after : Option (List ℕ)) : Type 0 where
  pub rest : List ℕ
  pub is : bytes ≡ taken ++ rest
  pub left : after ≡ Some rest

-- these bytes were taken from the front of the source
abbrev pub Took : List ℕ → Option (List ℕ) → Option (List ℕ) → Type 0
Took taken before after = (bytes : List ℕ) → before ≡ Some bytes → TookFrom bytes taken after
