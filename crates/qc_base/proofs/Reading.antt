-- What a reader has read.
use Rattle.std.proofs.Common.{◌≡◌, ℕ, ◌<◌, ◌≤◌, List, ◌++◌, ◌∷◌, length, nat_le, Bool, true, false, Option, Some, None, MatchOption, sym, ◌∙◌, ap, arith}
use Rattle.std.proofs.lemmas.Grind.{common_steps}
use Rattle.qc_base.specs.Spelling.{short_bytes, eight_bytes, is_id, Begins, Reads}
use Rattle.qc_base.proofs.PrefixFree.{short_bytes-free, eight_bytes-free}

-- a word behind its length, which a test takes or refuses
pub short_bytes-read : (within : List ℕ → Bool) (old middle front left : List ℕ) (len : ℕ) (found : Option (List ℕ)) → old ≡ len ∷ middle → middle ≡ front ++ left → length front ≡ len
    → MatchOption found (within front ≡ false) (λ word. (word ≡ front) × (within front ≡ true)) → Reads within short_bytes old left found
short_bytes-read within old middle front left len (Some word) o m l h = record { limits = ap within h.0 ∙ h.1; is = cc }
short_bytes-read within old middle front left len None o m l h = λ value rest limits e.
    let whole : short_bytes front ++ left ≡ short_bytes value ++ rest = cc in
    let same = (short_bytes-free front value left rest whole).0 in
    let no : false ≡ true = sym h ∙ ap within same ∙ limits in
    cc

-- a number in eight bytes, which a limit takes or refuses
pub eight_bytes-read : (limit : ℕ) (old left : List ℕ) (n : ℕ) (found : Option ℕ) → limit < 18446744073709551616 → Begins is_id eight_bytes old n left
    → MatchOption found (limit < n) (λ a. (a ≡ n) × (n ≤ limit)) → Reads (λ k. nat_le k limit) eight_bytes old left found
eight_bytes-read limit old left n (Some a) l b h = record { limits = grind (arith, common_steps, h); is = b.is ∙ ap (λ (k : ℕ). eight_bytes k ++ left) (sym h.0) }
eight_bytes-read limit old left n None l b h = λ value rest limits e.
    let within : value ≤ limit = grind (arith, limits) in
    let fits : n < 18446744073709551616 = grind (arith, b.limits) in
    let same = (eight_bytes-free n value left rest fits (omega arith) (sym b.is ∙ e)).0 in
    absurd (omega arith)
