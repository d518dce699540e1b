-- How the lines of a byte string grow with it.
use Rattle.std.proofs.Common.{◌≡◌, ◌∙◌, ℕ, List, [], ◌∷◌, ◌++◌, Bool, true, false, cond, eqb, refl, sym, ap, append_assoc, append-nil, subst}
use Rattle.qc_protocol.specs.Texts.{Pieces, grow_first, before_pieces, pieces_of}

-- a byte behind the last piece
abbrev pub and_byte : Pieces → ℕ → Pieces
and_byte p b = cond (eqb b 10) (record { ended = p.ended ++ p.rest ∷ []; rest = [] }) (record { ended = p.ended; rest = p.rest ++ b ∷ [] })

grow-and : (b : ℕ) (newline : Bool) (ended : List (List ℕ)) (rest more : List ℕ)
    → grow_first b (cond newline (ended ++ rest ∷ []) ended) (cond newline [] (rest ++ more))
    ≡ (let p : Pieces = grow_first b ended rest in record { ended = cond newline (p.ended ++ p.rest ∷ []) p.ended; rest = cond newline [] (p.rest ++ more) })
grow-and b true [] rest more = refl
grow-and b true (line ∷ lines) rest more = refl
grow-and b false [] rest more = refl
grow-and b false (line ∷ lines) rest more = refl

before-and : (first newline : Bool) (b c : ℕ) (p : Pieces) →
    (let q : Pieces = cond newline (record { ended = p.ended ++ p.rest ∷ []; rest = [] }) (record { ended = p.ended; rest = p.rest ++ c ∷ [] }) in
    let r : Pieces = cond first (record { ended = [] ∷ p.ended; rest = p.rest }) (grow_first b p.ended p.rest) in
    let left : Pieces = cond first (record { ended = [] ∷ q.ended; rest = q.rest }) (grow_first b q.ended q.rest) in
    let right : Pieces = cond newline (record { ended = r.ended ++ r.rest ∷ []; rest = [] }) (record { ended = r.ended; rest = r.rest ++ c ∷ [] }) in
    left ≡ right)
before-and true true b c p = refl
before-and true false b c p = refl
before-and false true b c p = grow-and b true p.ended p.rest (c ∷ [])
before-and false false b c p = grow-and b false p.ended p.rest (c ∷ [])

pub pieces-push : (bytes : List ℕ) (c : ℕ) → pieces_of (bytes ++ c ∷ []) ≡ and_byte (pieces_of bytes) c
pieces-push [] c = by_test (eqb c 10)
  where
    by_test : (newline : Bool) → (let left : Pieces = cond newline (record { ended = [] ∷ []; rest = [] }) (record { ended = []; rest = c ∷ [] }) in let right : Pieces = cond newline (record { ended = [] ++ [] ∷ []; rest = [] }) (record { ended = []; rest = [] ++ c ∷ [] }) in left ≡ right)
    by_test true = refl
    by_test false = refl
pieces-push (b ∷ bytes) c = ap (before_pieces b) (pieces-push bytes c) ∙ before-and (eqb b 10) (eqb c 10) b c (pieces_of bytes)

-- more bytes add more lines behind those that end
pub record Longer (fewer more : List (List ℕ)) : Type 0 where
  pub added : List (List ℕ)
  pub is : more ≡ fewer ++ added

longer-refl : (lines : List (List ℕ)) → Longer lines lines
longer-refl lines = record { added = []; is = sym (append-nil lines) }

pub longer-trans : (a b c : List (List ℕ)) → Longer a b → Longer b c → Longer a c
longer-trans a b c x y = record { added = x.added ++ y.added; is = y.is ∙ ap (λ (l : List (List ℕ)). l ++ y.added) x.is ∙ append_assoc a x.added y.added }

longer-push : (p : Pieces) (b : ℕ) (newline : Bool) → Longer p.ended (let q : Pieces = cond newline (record { ended = p.ended ++ p.rest ∷ []; rest = [] }) (record { ended = p.ended; rest = p.rest ++ b ∷ [] }) in q.ended)
longer-push p b true = record { added = p.rest ∷ []; is = refl }
longer-push p b false = longer-refl p.ended

pub pieces-append : (bytes more : List ℕ) → Longer (pieces_of bytes).ended (pieces_of (bytes ++ more)).ended
pieces-append bytes [] = subst (λ (l : List ℕ). Longer (pieces_of bytes).ended (pieces_of l).ended) (sym (append-nil bytes)) (longer-refl (pieces_of bytes).ended)
pieces-append bytes (b ∷ more) =
    subst (λ (l : List ℕ). Longer (pieces_of bytes).ended (pieces_of l).ended) (append_assoc bytes (b ∷ []) more)
    (longer-trans (pieces_of bytes).ended (pieces_of (bytes ++ b ∷ [])).ended (pieces_of ((bytes ++ b ∷ []) ++ more)).ended
    (subst (λ (p : Pieces). Longer (pieces_of bytes).ended p.ended) (sym (pieces-push bytes b)) (longer-push (pieces_of bytes) b (eqb b 10)))
    (pieces-append (bytes ++ b ∷ []) more))
