-- Numbers in two, four and eight bytes.
use Rattle.std.proofs.Common.{◌≡◌, ℕ, ◌<◌, List, ◌++◌, [], ◌∷◌, length, take, drop, Bool, refl, sym, ◌∙◌, ap, arith, take-append-drop, length-append}
use Rattle.qc_base.specs.Spelling.{two_bytes, four_bytes, eight_bytes, fits_two, fits_four, is_id, Begins, NoneBegins}

pub length-two_bytes : (n : ℕ) → length (two_bytes n) ≡ 2
unfolding two_bytes
length-two_bytes n = refl

pub length-four_bytes : (n : ℕ) → length (four_bytes n) ≡ 4
unfolding four_bytes
length-four_bytes n = refl

pub length-eight_bytes : (n : ℕ) → length (eight_bytes n) ≡ 8
unfolding eight_bytes
length-eight_bytes n = refl

-- for `using`, where a goal counts bytes
pub ruleset byte_counts = (length-two_bytes, length-four_bytes, length-eight_bytes)

-- two runs of one length in front are equal, and so is what follows
pub fronts_same : (a b x y : List ℕ) → length a ≡ length b → a ++ x ≡ b ++ y → (a ≡ b) × (x ≡ y)
fronts_same [] [] x y l e = (refl, e)
fronts_same [] (c ∷ b) x y l e = absurd (omega arith)
fronts_same (c ∷ a) [] x y l e = absurd (omega arith)
fronts_same (c ∷ a) (d ∷ b) x y l e =
    let tails : a ++ x ≡ b ++ y = cc in
    let heads : c ≡ d = cc in
    let rest = fronts_same a b x y (omega arith) tails in
    (cc, rest.1)

-- what is shorter than each spelling begins with none
pub none_short : {A : Type 0} (within : A → Bool) (spelled : A → List ℕ) (k : ℕ) → ((value : A) → length (spelled value) ≡ k) → (bytes : List ℕ) → length bytes < k → NoneBegins within spelled bytes
none_short within spelled k long bytes short value left limits e = absurd (omega (arith, long value, ap length e, length-append (spelled value) left))

pub two_bytes-taken : (old front left : List ℕ) (n : ℕ) → front ≡ take 2 old → left ≡ drop 2 old → n < 65536 → two_bytes n ≡ front → Begins fits_two two_bytes old n left
two_bytes-taken old front left n f l bound spelled =
    record { limits = grind (arith, bound); is = sym (take-append-drop 2 old) ∙ ap (λ (t : List ℕ). t ++ drop 2 old) (sym f ∙ sym spelled) ∙ ap (λ (t : List ℕ). two_bytes n ++ t) (sym l) }

pub four_bytes-taken : (old front left : List ℕ) (n : ℕ) → front ≡ take 4 old → left ≡ drop 4 old → n < 4294967296 → four_bytes n ≡ front → Begins fits_four four_bytes old n left
four_bytes-taken old front left n f l bound spelled =
    record { limits = grind (arith, bound); is = sym (take-append-drop 4 old) ∙ ap (λ (t : List ℕ). t ++ drop 4 old) (sym f ∙ sym spelled) ∙ ap (λ (t : List ℕ). four_bytes n ++ t) (sym l) }

pub eight_bytes-taken : (old front left : List ℕ) (n : ℕ) → front ≡ take 8 old → left ≡ drop 8 old → n < 18446744073709551616 → eight_bytes n ≡ front → Begins is_id eight_bytes old n left
eight_bytes-taken old front left n f l bound spelled =
    record { limits = grind (arith, bound); is = sym (take-append-drop 8 old) ∙ ap (λ (t : List ℕ). t ++ drop 8 old) (sym f ∙ sym spelled) ∙ ap (λ (t : List ℕ). eight_bytes n ++ t) (sym l) }
