-- The first word of a line, and the words behind it.
use Rattle.std.proofs.Common.{◌≡◌, ◌∙◌, ℕ, suc, List, [], ◌∷◌, filter, take, drop, length, Bool, true, false, not, cond, ◌&&◌, ◌==◌, refl, sym, ap, true≢false, ◌-◌, ◌+◌, ◌<◌, arith, eqb-true, eq-eqb, get_or, add-one}
use Rattle.std.specs.List.{onto_first}
use Rattle.std.proofs.lemmas.List.{take_rest}
use Rattle.std.proofs.Math.Seq.{drop-cons}
use Rattle.std.proofs.lemmas.Bool.{and_parts, cond-true, cond-false}
use Rattle.qc_script.specs.Words.{words, pieces, in_constant, is_gap, has_bytes, word_length, starts_gap}

-- the pieces behind the first one
abbrev later : List ℕ → List (List ℕ)
later [] = []
later (b ∷ bs) = pieces false bs

first_piece : (inside : Bool) (bs : List ℕ) → pieces inside bs ≡ take (word_length inside bs) bs ∷ later (drop (word_length inside bs) bs)
first_piece inside [] = refl
first_piece inside (b ∷ bs) = by (is_gap inside b) (first_piece (in_constant inside b) bs)
  where
    n : ℕ
    n = word_length (in_constant inside b) bs

    by : (gap : Bool) → pieces (in_constant inside b) bs ≡ take n bs ∷ later (drop n bs)
        → cond gap ([] ∷ pieces false bs) (onto_first b (pieces (in_constant inside b) bs)) ≡ take (cond gap 0 (suc n)) (b ∷ bs) ∷ later (drop (cond gap 0 (suc n)) (b ∷ bs))
    by true e = refl
    by false e = ap (onto_first b) e

space-parts : (b : ℕ) (bs : List ℕ) → (b == 32) ≡ true → pieces false (b ∷ bs) ≡ [] ∷ pieces false bs
space-parts b bs e = cond-true (is_gap false b) _ _ (ap (λ t. t && true) e)

pub space_passed : (b : ℕ) (bs : List ℕ) → (b == 32) ≡ true → words (b ∷ bs) ≡ words bs
unfolding words
space_passed b bs e = ap (λ ps. filter has_bytes ps) (space-parts b bs e)

later-words : (inside : Bool) (bs : List ℕ) → filter has_bytes (later (drop (word_length inside bs) bs)) ≡ words (drop (word_length inside bs) bs)
unfolding words
later-words inside [] = refl
later-words inside (b ∷ bs) = by (is_gap inside b) refl (later-words (in_constant inside b) bs)
  where
    n : ℕ
    n = word_length (in_constant inside b) bs

    by : (gap : Bool) → is_gap inside b ≡ gap → filter has_bytes (later (drop n bs)) ≡ filter has_bytes (pieces false (drop n bs))
        → filter has_bytes (later (drop (cond gap 0 (suc n)) (b ∷ bs))) ≡ filter has_bytes (pieces false (drop (cond gap 0 (suc n)) (b ∷ bs)))
    by true e rest = sym (ap (λ ps. filter has_bytes ps) (space-parts b bs (and_parts (b == 32) _ e).0))
    by false e rest = rest

first-word : (bs : List ℕ) → starts_gap bs ≡ false → (length bs == 0) ≡ false → words bs ≡ take (word_length false bs) bs ∷ words (drop (word_length false bs) bs)
unfolding words
first-word [] e h = absurd (true≢false h)
first-word (b ∷ bs) e h = ap (λ ps. filter has_bytes ps) (first_piece false (b ∷ bs)) ∙ by (is_gap false b) (ap (λ t. t && true) e) ∙ ap (λ ws. take (word_length false (b ∷ bs)) (b ∷ bs) ∷ ws) (later-words false (b ∷ bs))
  where
    n : ℕ
    n = word_length (in_constant false b) bs

    rest : List (List ℕ)
    rest = later (drop (word_length false (b ∷ bs)) (b ∷ bs))

    by : (gap : Bool) → gap ≡ false → filter has_bytes (take (cond gap 0 (suc n)) (b ∷ bs) ∷ rest) ≡ take (cond gap 0 (suc n)) (b ∷ bs) ∷ filter has_bytes rest
    by true e = absurd (true≢false e)
    by false e = refl

-- a line that is cut behind its first word
pub first_word : (line bs : List ℕ) (end : ℕ) → words bs ≡ words line → starts_gap bs ≡ false → (length bs == 0) ≡ false → end ≡ word_length false bs
    → words line ≡ take end bs ∷ words (take (length bs - end) (drop end bs))
first_word line bs end same starts long at =
    sym same ∙ first-word bs starts long ∙ (λ i. take (sym at i) bs ∷ words (drop (sym at i) bs)) ∙ ap (λ (rest : List ℕ). take end bs ∷ words rest) (sym (take_rest bs end))

-- a line without a word
pub no_word : (line bs : List ℕ) → words bs ≡ words line → (length bs == 0) ≡ true → words line ≡ []
unfolding words
no_word line [] same e = sym same
no_word line (b ∷ bs) same e = let none : suc (length bs) ≡ 0 = eqb-true (suc (length bs)) 0 e in absurd (omega arith)

-- a line that begins with a space
pub space_behind : (line : List ℕ) (i : ℕ) → i < length line → words (drop i line) ≡ words line → get_or line i 0 ≡ 32 → words (drop (i + 1) line) ≡ words line
space_behind line i lt same e =
    let cut : drop i line ≡ get_or line i 0 ∷ drop (suc i) line = drop-cons line i 0 lt in
    let passed : words (get_or line i 0 ∷ drop (suc i) line) ≡ words (drop (suc i) line) = space_passed (get_or line i 0) (drop (suc i) line) (eq-eqb (get_or line i 0) 32 e) in
    rw add-one (sym passed ∙ sym (ap words cut) ∙ same)
