-- Words of steps: numbers, parameters, rows, operators.
use Rattle.std.specs.Prelude.{ℕ, ◌+◌, ◌-◌, ◌*◌, nat_le, nat_lt, List, [], ◌∷◌, length, take, slice_index, codes, Bool, true, false, not, ◌&&◌, ◌||◌, ◌==◌, Option, Some, None, option_map, option_and_then, if◌then◌else◌}
use Rattle.std.specs.Str.{bytes_eq}
use Rattle.std.specs.List.{list_all, list_any, before_first, after_first}
use Rattle.qc_base.specs.Names.{is_digit, is_text}
use Rattle.qc_script.specs.declared.names.Names.{Names}
use Rattle.qc_script.specs.declared.names.Param.{Param}
use Rattle.qc_script.specs.declared.names.ParamKind.{ParamKind}
use Rattle.qc_script.specs.declared.names.ParamKind.TheVariants.{Text, Whole}
use Rattle.qc_script.specs.declared.step.Key.{Key}
use Rattle.qc_script.specs.declared.step.Key.TheVariants.{Param as KeyParam, Constant}
use Rattle.qc_script.specs.declared.step.Cell.{Cell}
use Rattle.qc_script.specs.declared.step.Term.{Term}
use Rattle.qc_script.specs.declared.step.Term.TheVariants.{Number, Param as TermParam, Row as AmountAt}
use Rattle.qc_script.specs.declared.step.Compare.{Compare}
use Rattle.qc_script.specs.declared.step.Compare.TheVariants.{Less, AtMost, Equal, NotEqual, AtLeast, More}

-- the first that is there
abbrev pub or_else : {A : Type 0} → Option A → Option A → Option A
or_else (Some x) other = Some x
or_else None other = other

-- a number: digits, of which the first of several isn't 0, and at most 10^15

abbrev pub value_from : ℕ → List ℕ → ℕ
value_from n [] = n
value_from n (d ∷ ds) = value_from (n * 10 + (d - 48)) ds

-- more digits behind a leading 0
abbrev pub has_leading_zero : List ℕ → Bool
has_leading_zero [] = false
has_leading_zero (d ∷ []) = false
has_leading_zero (d ∷ e ∷ ds) = d == 48

abbrev pub has_digits : List ℕ → Bool
has_digits [] = false
has_digits (d ∷ ds) = list_all is_digit (d ∷ ds)

abbrev pub is_numeral : List ℕ → Bool
is_numeral word = not (has_leading_zero word) && has_digits word

abbrev pub number_of : List ℕ → Option ℕ
number_of word =
    if is_numeral word && nat_le (value_from 0 word) 1000000000000000 then Some (value_from 0 word) else None

-- a parameter of a kind, by its place

abbrev pub is_kind : ParamKind → ParamKind → Bool
is_kind Text Text = true
is_kind Whole Whole = true
is_kind Text Whole = false
is_kind Whole Text = false

abbrev pub place_from : ℕ → ParamKind → List ℕ → List Param → Option ℕ
place_from n kind name [] = None
place_from n kind name (p ∷ ps) =
    if bytes_eq p.name name then (if is_kind kind p.kind then Some n else None) else place_from (n + 1) kind name ps

abbrev pub place_of : ParamKind → List ℕ → List Param → Option ℕ
place_of kind name params = place_from 0 kind name params

-- a table, or a resource
abbrev pub known : List (List ℕ) → List ℕ → Option (List ℕ)
known names word = if list_any (λ name. bytes_eq name word) names then Some word else None

-- a row: `T[K]`

abbrev pub behind : ℕ → List ℕ → Option (List ℕ)
behind first [] = None
behind first (b ∷ bs) = if b == first then Some bs else None

abbrev pub without_last : ℕ → List ℕ → Option (List ℕ)
without_last last bs =
    if nat_lt 0 (length bs) && (slice_index bs (length bs - 1) == last) then Some (take (length bs - 1) bs) else None

abbrev pub is_plain : ℕ → Bool
is_plain b = not (b == 34) && not (b == 92)

-- a text without quotes and backslashes, between two quotes
abbrev pub constant_of : List ℕ → Option (List ℕ)
constant_of key =
    option_and_then (λ t. if list_all is_plain t && is_text t then Some t else None)
    (option_and_then (λ bs. without_last 34 bs) (behind 34 key))

abbrev pub key_of : List Param → List ℕ → Option Key
key_of params key =
    or_else (option_map (λ t. Constant t) (constant_of key)) (option_map (λ i. KeyParam i) (place_of Text key params))

abbrev pub is_open : ℕ → Bool
is_open b = b == 91

abbrev pub cell_of : List (List ℕ) → List Param → List ℕ → Option Cell
cell_of names params word =
    option_and_then (λ name. option_map (λ key. record { name = name; key = key })
    (option_and_then (λ k. key_of params k) (without_last 93 (after_first is_open word))))
    (known names (before_first is_open word))

-- a number, a whole parameter, or the amount of a row of a table
abbrev pub term_of : List (List ℕ) → List Param → List ℕ → Option Term
term_of tables params word =
    or_else (option_map (λ n. Number n) (number_of word))
    (or_else (option_map (λ i. TermParam i) (place_of Whole word params))
    (option_map (λ (c : Cell). AmountAt c.name c.key) (cell_of tables params word)))

-- operators

abbrev pub compare_of : List ℕ → Option Compare
compare_of word = if bytes_eq word (codes "<") then Some Less
    else if bytes_eq word (codes "<=") then Some AtMost
    else if bytes_eq word (codes "=") then Some Equal
    else if bytes_eq word (codes "!=") then Some NotEqual
    else if bytes_eq word (codes ">=") then Some AtLeast
    else if bytes_eq word (codes ">") then Some More
    else None

-- whether a sign is a minus
abbrev pub sign_of : List ℕ → Option Bool
sign_of word = if bytes_eq word (codes "+") then Some false else if bytes_eq word (codes "-") then Some true else None

-- whether an outside change takes away
abbrev pub change_of : List ℕ → Option Bool
change_of word =
    if bytes_eq word (codes "+=") then Some false else if bytes_eq word (codes "-=") then Some true else None
