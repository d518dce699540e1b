-- Expressions and comparisons, in front of words.
use Rattle.std.specs.Prelude.{◌≡◌, ℕ, ◌<◌, nat_le, List, [], ◌∷◌, ◌++◌, length, Result, Ok, Err, Bool, true, false, Option, Some, None, if◌then◌else◌}
use Rattle.qc_base.specs.declared.number.NoMemory.{NoMemory}
use Rattle.qc_script.specs.declared.found.Found.{Found}
use Rattle.qc_script.specs.declared.found.Found.TheVariants.{Nothing, Last, Signed}
use Rattle.qc_script.specs.declared.names.Param.{Param}
use Rattle.qc_script.specs.declared.step.SignedTerm.{SignedTerm}
use Rattle.qc_script.specs.declared.step.Term.{Term}
use Rattle.qc_script.specs.declared.step.Comparison.{Comparison}
use Rattle.qc_script.specs.Words.{Front, by_word, behind_it, made}
use Rattle.qc_script.specs.Terms.{term_of, sign_of, compare_of}

-- a sign in front, where one stands there
abbrev pub sign_front : List (List ℕ) → Front Bool
sign_front ws = by_word sign_of ws

-- a term, and with a sign behind it the terms that come next
abbrev pub with_term : Option Term → Option Bool → Bool → List (List ℕ) → (Bool → Front (List SignedTerm))
    → Front (List SignedTerm)
with_term None sign minus left next = None
with_term (Some t) None minus left next = Some (record { minus = minus; term = t } ∷ [], left)
with_term (Some t) (Some sign) minus left next = made (λ more. record { minus = minus; term = t } ∷ more) (next sign)

-- terms with signs between, the first with the sign that stood before it
abbrev pub terms_front : List (List ℕ) → List Param → Bool → List (List ℕ) → Front (List SignedTerm)
terms_front tables params minus [] = None
terms_front tables params minus (w ∷ []) = with_term (term_of tables params w) None minus [] (λ sign. None)
terms_front tables params minus (w ∷ x ∷ ws) =
    with_term (term_of tables params w) (sign_of x) minus (x ∷ ws) (λ sign. terms_front tables params sign ws)

-- at most 4
abbrev pub few : Front (List SignedTerm) → Front (List SignedTerm)
few None = None
few (Some front) = if nat_le (length front.0) 4 then Some front else None

-- an expression
abbrev pub sum_front : List (List ℕ) → List Param → List (List ℕ) → Front (List SignedTerm)
sum_front tables params ws = few (terms_front tables params false ws)

-- `E OP E`
abbrev pub comparison_front : List (List ℕ) → List Param → List (List ℕ) → Front Comparison
comparison_front tables params ws =
    behind_it (sum_front tables params ws) (λ left ws.
    behind_it (by_word compare_of ws) (λ compare ws.
    made (λ right. record { left = left; compare = compare; right = right }) (sum_front tables params ws)))

-- terms before those in front of words
abbrev pub prefixed : List SignedTerm → Front (List SignedTerm) → Front (List SignedTerm)
prefixed terms front = made (λ more. terms ++ more) front

-- What reading a term behind others tells: all terms are these where no sign follows it, and else those from the next on
-- come behind these.
abbrev pub TellsTerm : List (List ℕ) → List Param → Bool → List (List ℕ) → List SignedTerm → List (List ℕ)
    → List SignedTerm → Result Found NoMemory → Type 0
TellsTerm tables params minus ws terms left more (Ok (Signed sign)) =
    (prefixed terms (terms_front tables params minus ws) ≡ prefixed more (terms_front tables params sign left))
    × (length left < length ws)
TellsTerm tables params minus ws terms left more (Ok Last) =
    prefixed terms (terms_front tables params minus ws) ≡ Some (more, left)
TellsTerm tables params minus ws terms left more (Ok Nothing) = terms_front tables params minus ws ≡ None
TellsTerm tables params minus ws terms left more (Err e) = Unit
