-- What the words of a command line ask for.
use Rattle.std.specs.Prelude.{ℕ, List, [], ◌∷◌, Bool, false, ◌||◌, String}
use Rattle.std.specs.declared.alloc.Global.{Global}
use Rattle.std.specs.String.{string_bytes}
use Rattle.qc_drill.specs.Words.{is_drill, is_init}

abbrev pub is_command : List (String Global) → Bool
is_command words = is_drill words || is_init words

-- a command alone, or a folder and a command
abbrev pub is_request : List (String Global) → Bool
is_request [] = false
is_request (word ∷ []) = is_command (word ∷ [])
is_request (folder ∷ word ∷ []) = is_command (word ∷ [])
is_request (folder ∷ word ∷ next ∷ words) = false

-- the path that stands before a command
abbrev pub folder_of : List (String Global) → List ℕ
folder_of [] = []
folder_of (path ∷ words) = string_bytes path
