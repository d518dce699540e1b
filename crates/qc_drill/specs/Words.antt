-- The words of the program.
use Rattle.std.specs.Prelude.{ℕ, List, [], ◌∷◌, map, Bool, false, codes, String}
use Rattle.std.specs.declared.alloc.Global.{Global}
use Rattle.std.specs.String.{string_bytes}
use Rattle.std.specs.Str.{bytes_eq}

-- the words are this one word
abbrev pub is_word : List ℕ → List (List ℕ) → Bool
is_word name [] = false
is_word name (word ∷ []) = bytes_eq word name
is_word name (word ∷ next ∷ words) = false

-- the words of a command line

abbrev pub is_drill : List (String Global) → Bool
is_drill words = is_word (codes "drill") (map (λ (w : String Global). string_bytes w) words)

abbrev pub is_init : List (String Global) → Bool
is_init words = is_word (codes "init") (map (λ (w : String Global). string_bytes w) words)
