-- The first line of a text, and the lines behind it.
use Rattle.std.proofs.Common.{◌≡◌, ◌∙◌, ℕ, suc, ◌+◌, ◌-◌, ◌<◌, List, [], ◌∷◌, take, drop, length, get_or, Bool, true, false, cond, refl, sym, ap, arith, add-one}
use Rattle.std.specs.List.{slice_split, onto_first}
use Rattle.std.proofs.lemmas.List.{take_rest, take_all, drop_all}
use Rattle.std.proofs.Math.Seq.{drop-cons}
use Rattle.qc_script.specs.Reading.{line_length}
use Rattle.qc_script.specs.Scripts.{is_newline}

-- the lines behind the first one
abbrev later : List ℕ → List (List ℕ)
later [] = []
later (b ∷ bs) = slice_split is_newline bs

first-line : (bs : List ℕ) → slice_split is_newline bs ≡ take (line_length bs) bs ∷ later (drop (line_length bs) bs)
first-line [] = refl
first-line (b ∷ bs) = by (is_newline b) (first-line bs)
  where
    n : ℕ
    n = line_length bs

    by : (newline : Bool) → slice_split is_newline bs ≡ take n bs ∷ later (drop n bs)
        → cond newline ([] ∷ slice_split is_newline bs) (onto_first b (slice_split is_newline bs)) ≡ take (cond newline 0 (suc n)) (b ∷ bs) ∷ later (drop (cond newline 0 (suc n)) (b ∷ bs))
    by true e = refl
    by false e = ap (onto_first b) e

-- a text that is cut at its first newline
pub line_cut : (text : List ℕ) (end : ℕ) → end ≡ line_length text → end < length text
    → slice_split is_newline text ≡ take end text ∷ slice_split is_newline (take (length text - (end + 1)) (drop (end + 1) text))
line_cut text end at lt =
    let cut : drop end text ≡ get_or text end 0 ∷ drop (suc end) text = drop-cons text end 0 lt in
    let rest : drop (suc end) text ≡ take (length text - (end + 1)) (drop (end + 1) text) = rw (take_rest text (end + 1), add-one) in
    first-line text ∙ (λ i. take (sym at i) text ∷ later (drop (sym at i) text)) ∙ ap (λ (l : List ℕ). take end text ∷ later l) cut ∙ ap (λ (l : List ℕ). take end text ∷ slice_split is_newline l) rest

-- a text without one
pub line_whole : (text : List ℕ) (end : ℕ) → end ≡ line_length text → end ≡ length text → slice_split is_newline text ≡ text ∷ []
line_whole text end at all =
    let whole : line_length text ≡ length text = sym at ∙ all in
    let front : take (line_length text) text ≡ text = take_all (line_length text) text (omega arith) in
    let rest : drop (line_length text) text ≡ [] = drop_all (line_length text) text (omega arith) in
    first-line text ∙ (λ i. front i ∷ later (rest i))
