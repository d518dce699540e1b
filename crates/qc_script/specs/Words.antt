-- The words of a line, and what they begin with.
use Rattle.std.specs.Prelude.{◌≡◌, ℕ, suc, List, [], ◌∷◌, filter, Bool, true, false, not, ◌&&◌, ◌==◌, Option, Some, None, option_map, if◌then◌else◌, Result, Ok, Err}
use Rattle.std.specs.Borrow.{Bor}
use Rattle.std.specs.List.{onto_first}
use Rattle.qc_base.specs.declared.number.NoMemory.{NoMemory}

-- a quote opens and closes a constant
abbrev pub in_constant : Bool → ℕ → Bool
in_constant inside b = if b == 34 then not inside else inside

-- a space parts words, but in a constant
abbrev pub is_gap : Bool → ℕ → Bool
is_gap inside b = (b == 32) && not inside

-- what stands between gaps, empty pieces among it
abbrev pub pieces : Bool → List ℕ → List (List ℕ)
pieces inside [] = [] ∷ []
pieces inside (b ∷ bs) =
    if is_gap inside b then [] ∷ pieces false bs else onto_first b (pieces (in_constant inside b) bs)

abbrev pub has_bytes : List ℕ → Bool
has_bytes [] = false
has_bytes (b ∷ bs) = true

-- the words of a line
unfoldable pub words : List ℕ → List (List ℕ)
words line = filter has_bytes (pieces false line)

-- the bytes before the first gap
abbrev pub word_length : Bool → List ℕ → ℕ
word_length inside [] = 0
word_length inside (b ∷ bs) = if is_gap inside b then 0 else suc (word_length (in_constant inside b) bs)

abbrev pub starts_gap : List ℕ → Bool
starts_gap [] = false
starts_gap (b ∷ bs) = b == 32

-- the next word is taken, where one is left
abbrev pub Next : List (List ℕ) → List (List ℕ) → Option (Bor (List ℕ)) → Type 0
Next old new (Some w) = old ≡ w.now ∷ new
Next old new None = (old ≡ []) × (new ≡ [])

-- what words begin with, and the words behind it
abbrev pub Front : Type 0 → Type 0
Front A = Option (A × List (List ℕ))

-- what one word says
abbrev pub by_word : {A : Type 0} → (List ℕ → Option A) → List (List ℕ) → Front A
by_word read [] = None
by_word read (w ∷ ws) = option_map (λ x. (x, ws)) (read w)

-- one behind the other
abbrev pub behind_it : {A B : Type 0} → Front A → (A → List (List ℕ) → Front B) → Front B
behind_it None next = None
behind_it (Some front) next = next front.0 front.1

-- the front of these words that is turned into something else
abbrev pub made : {A B : Type 0} → (A → B) → Front A → Front B
made make None = None
made make (Some front) = Some (make front.0, front.1)

-- nothing may stand behind it
abbrev pub whole : {A : Type 0} → Front A → Option A
whole None = None
whole (Some (x, [])) = Some x
whole (Some (x, w ∷ ws)) = None

-- What a reader of words takes: what they begin with, so that these are left, or nothing where they begin with nothing
-- such.
abbrev pub Takes : {A : Type 0} → Front A → List (List ℕ) → Option A → Type 0
Takes front left (Some x) = front ≡ Some (x, left)
Takes front left None = front ≡ None

-- The same of a reader that takes memory. Want of it tells nothing.
abbrev pub Tells : {A : Type 0} → Front A → List (List ℕ) → Result (Option A) NoMemory → Type 0
Tells front left (Ok found) = Takes front left found
Tells front left (Err e) = Unit
