-- The pieces of bytes that follow on others.
use Rattle.std.proofs.Common.{◌≡◌, ◌<◌, ℕ, zero, suc, ◌+◌, List, [], ◌∷◌, ◌++◌, length, take, drop, Bool, true, false, cond, eqb, slice_index, refl, sym, ap, ◌∙◌, subst, append_assoc, arith}
use Rattle.qc_protocol.specs.Texts.{Pieces, grow_first, before_pieces, pieces_of}
use Rattle.qc_drill.specs.Holds.{with_front, behind}

-- pieces behind these lines
abbrev pub and_lines : List (List ℕ) → Pieces → Pieces
and_lines lines p = record { ended = lines ++ p.ended; rest = p.rest }

pub front-nil : (ended : List (List ℕ)) (rest : List ℕ) → with_front [] ended rest ≡ record { ended = ended; rest = rest }
front-nil [] rest = refl
front-nil (line ∷ ended) rest = refl

abbrev before_by : Bool → ℕ → List (List ℕ) → List ℕ → Pieces
before_by t b ended rest = cond t (record { ended = [] ∷ ended; rest = rest }) (grow_first b ended rest)

before-front : (t : Bool) (b : ℕ) (ended : List (List ℕ)) (rest : List ℕ) (more : List (List ℕ)) (last : List ℕ)
    → (let p : Pieces = with_front rest more last in let q : Pieces = before_by t b ended rest in before_by t b (ended ++ p.ended) p.rest ≡ and_lines q.ended (with_front q.rest more last))
before-front true b ended rest more last = refl
before-front false b [] rest [] last = refl
before-front false b [] rest (line ∷ more) last = refl
before-front false b (line ∷ ended) rest more last = refl

-- the pieces of two parts: those that end in the first, and those of the second behind what stands there
pub pieces-split : (a b : List ℕ) → pieces_of (a ++ b) ≡ and_lines (pieces_of a).ended (behind (pieces_of a).rest (pieces_of b))
pieces-split [] b = sym (front-nil (pieces_of b).ended (pieces_of b).rest)
pieces-split (x ∷ a) b = ap (before_pieces x) (pieces-split a b) ∙ before-front (eqb x 10) x (pieces_of a).ended (pieces_of a).rest (pieces_of b).ended (pieces_of b).rest

-- bytes without a newline
pub no-newline : (bytes : List ℕ) → ((j : ℕ) → j < length bytes → eqb (slice_index bytes j) 10 ≡ false) → pieces_of bytes ≡ record { ended = []; rest = bytes }
no-newline [] none = refl
no-newline (b ∷ bytes) none =
    let rest : pieces_of bytes ≡ record { ended = []; rest = bytes } = no-newline bytes (λ j lt. none (suc j) (omega (arith, lt))) in
    ap (before_pieces b) rest ∙ ap (λ (t : Bool). before_by t b [] bytes) (none zero (omega arith))

-- bytes whose first newline stands at a place
pub first-newline : (bytes : List ℕ) (k : ℕ) → k < length bytes → ((j : ℕ) → j < k → eqb (slice_index bytes j) 10 ≡ false) → eqb (slice_index bytes k) 10 ≡ true
    → (let p : Pieces = pieces_of (drop (suc k) bytes) in pieces_of bytes ≡ record { ended = take k bytes ∷ p.ended; rest = p.rest })
first-newline [] k lt none here = absurd (omega (arith, lt))
first-newline (b ∷ bytes) zero lt none here = ap (λ (t : Bool). before_by t b (pieces_of bytes).ended (pieces_of bytes).rest) here
first-newline (b ∷ bytes) (suc k) lt none here =
    let p : Pieces = pieces_of (drop (suc k) bytes) in
    ap (before_pieces b) (first-newline bytes k (omega (arith, lt)) (λ j less. none (suc j) (omega (arith, less))) here)
    ∙ ap (λ (t : Bool). before_by t b (take k bytes ∷ p.ended) p.rest) (none zero (omega arith))

-- the same behind a line that is being read

pub behind-none : (line bytes : List ℕ) → ((j : ℕ) → j < length bytes → eqb (slice_index bytes j) 10 ≡ false) → behind line (pieces_of bytes) ≡ record { ended = []; rest = line ++ bytes }
behind-none line bytes none = ap (behind line) (no-newline bytes none)

pub behind-first : (line bytes : List ℕ) (k : ℕ) → k < length bytes → ((j : ℕ) → j < k → eqb (slice_index bytes j) 10 ≡ false) → eqb (slice_index bytes k) 10 ≡ true
    → behind line (pieces_of bytes) ≡ and_lines ((line ++ take k bytes) ∷ []) (behind [] (pieces_of (drop (k + 1) bytes)))
behind-first line bytes k lt none here =
    let p : Pieces = pieces_of (drop (suc k) bytes) in
    let next : suc k ≡ k + 1 = omega arith in
    subst (λ (n : ℕ). behind line (pieces_of bytes) ≡ and_lines ((line ++ take k bytes) ∷ []) (behind [] (pieces_of (drop n bytes)))) next
    (ap (behind line) (first-newline bytes k lt none here) ∙ ap (and_lines ((line ++ take k bytes) ∷ [])) (sym (front-nil p.ended p.rest)))

pub lines-joined : (a b : List (List ℕ)) (p : Pieces) → and_lines a (and_lines b p) ≡ and_lines (a ++ b) p
lines-joined a b p = ap (λ (ended : List (List ℕ)). record { ended = ended; rest = p.rest }) (sym (append_assoc a b p.ended))
