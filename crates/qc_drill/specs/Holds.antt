-- A line that is being read.
use Rattle.std.specs.Prelude.{◌≡◌, ◌≤◌, ◌<◌, ℕ, List, [], ◌∷◌, ◌++◌, length, Bool, true, false}
use Rattle.qc_protocol.specs.Texts.{Pieces, is_blank}
use Rattle.qc_drill.specs.declared.piece.Piece.{Piece}

abbrev pub is_empty : List ℕ → Bool
is_empty [] = true
is_empty (b ∷ line) = false

-- the piece holds this line: its bytes where they are few enough, and whether it is blank
pub record Holds (piece : Piece) (line : List ℕ) : Type 0 where
  pub kept : piece.long ≡ false → piece.bytes.items ≡ line
  pub fits : piece.long ≡ false → length line ≤ 65536
  pub long : piece.long ≡ true → 65536 < length line
  pub blank : piece.blank ≡ is_blank line

-- pieces whose first begins with these bytes
abbrev pub with_front : List ℕ → List (List ℕ) → List ℕ → Pieces
with_front line [] rest = record { ended = []; rest = line ++ rest }
with_front line (first ∷ others) rest = record { ended = (line ++ first) ∷ others; rest = rest }

-- the pieces of bytes that follow on this line
abbrev pub behind : List ℕ → Pieces → Pieces
behind line p = with_front line p.ended p.rest
