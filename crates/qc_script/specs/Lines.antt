-- The step of a line.
use Rattle.std.specs.Prelude.{ℕ, List, [], ◌∷◌, codes, Bool, true, false, ◌==◌, Option, Some, None, option_and_then, if◌then◌else◌}
use Rattle.std.specs.Str.{bytes_eq}
use Rattle.qc_script.specs.declared.names.Names.{Names}
use Rattle.qc_script.specs.declared.names.Param.{Param}
use Rattle.qc_script.specs.declared.step.Cell.{Cell}
use Rattle.qc_script.specs.declared.step.SignedTerm.{SignedTerm}
use Rattle.qc_script.specs.declared.step.Line.{Line}
use Rattle.qc_script.specs.declared.step.Line.TheVariants.{Blank as blank, Step as step, Bad as bad}
use Rattle.qc_script.specs.declared.step.Step.{Step}
use Rattle.qc_script.specs.declared.step.Step.TheVariants.{Need, When, Add, Sub, Set, Move, Grow, Shrink, Retract, Fail, Abort}
use Rattle.qc_script.specs.declared.verb.Verb.{Verb}
use Rattle.qc_script.specs.declared.verb.Verb.TheVariants.{Need as need, When as when, Add as add, Sub as sub, Set as set, Move as move, Out as out, Retract as retract, Fail as fail, Abort as abort}
use Rattle.qc_script.specs.Words.{words, Front, by_word, behind_it, made, whole}
use Rattle.qc_script.specs.Terms.{known, cell_of, change_of}
use Rattle.qc_script.specs.Sums.{sum_front, comparison_front}

abbrev pub verb_of : List ℕ → Option Verb
verb_of word = if bytes_eq word (codes "retract") then Some retract
    else if bytes_eq word (codes "need") then Some need
    else if bytes_eq word (codes "when") then Some when
    else if bytes_eq word (codes "add") then Some add
    else if bytes_eq word (codes "sub") then Some sub
    else if bytes_eq word (codes "set") then Some set
    else if bytes_eq word (codes "move") then Some move
    else if bytes_eq word (codes "out") then Some out
    else if bytes_eq word (codes "fail") then Some fail
    else if bytes_eq word (codes "abort") then Some abort
    else None

abbrev pub change_by : Bool → Cell → List SignedTerm → Step
change_by minus cell e = if minus then Shrink cell e else Grow cell e

-- `R[K] += E` or `R[K] -= E`
abbrev pub out_front : List (List ℕ) → List (List ℕ) → List Param → List (List ℕ) → Front Step
out_front tables resources params ws =
    behind_it (by_word (cell_of resources params) ws) (λ cell ws.
    behind_it (by_word change_of ws) (λ minus ws.
    made (λ e. change_by minus cell e) (sum_front tables params ws)))

-- `T[K] E`
abbrev pub change_front : List (List ℕ) → List Param → List (List ℕ) → Front (Cell × List SignedTerm)
change_front tables params ws =
    behind_it (by_word (cell_of tables params) ws) (λ cell ws. made (λ e. (cell, e)) (sum_front tables params ws))

-- `T[K] U[K] E`
abbrev pub move_front : List (List ℕ) → List Param → List (List ℕ) → Front Step
move_front tables params ws =
    behind_it (by_word (cell_of tables params) ws) (λ from ws.
    behind_it (by_word (cell_of tables params) ws) (λ to ws.
    made (λ e. Move from to e) (sum_front tables params ws)))

-- what stands behind the first word of a step
abbrev pub step_front : List (List ℕ) → List (List ℕ) → List Param → Verb → List (List ℕ) → Front Step
step_front tables resources params need ws = made (λ c. Need c) (comparison_front tables params ws)
step_front tables resources params when ws = made (λ c. When c) (comparison_front tables params ws)
step_front tables resources params add ws = made (λ p. Add p.0 p.1) (change_front tables params ws)
step_front tables resources params sub ws = made (λ p. Sub p.0 p.1) (change_front tables params ws)
step_front tables resources params set ws = made (λ p. Set p.0 p.1) (change_front tables params ws)
step_front tables resources params move ws = move_front tables params ws
step_front tables resources params out ws = out_front tables resources params ws
step_front tables resources params retract ws = made (λ r. Retract r) (by_word (known resources) ws)
step_front tables resources params fail ws = Some (Fail, ws)
step_front tables resources params abort ws = Some (Abort, ws)

-- the step that words are
abbrev pub step_of : List (List ℕ) → List (List ℕ) → List Param → List (List ℕ) → Option Step
step_of tables resources params [] = None
step_of tables resources params (w ∷ ws) =
    option_and_then (λ verb. whole (step_front tables resources params verb ws)) (verb_of w)

-- a comment begins with `#`
abbrev pub is_comment : List ℕ → Bool
is_comment [] = false
is_comment (b ∷ bs) = b == 35

abbrev pub step_or_bad : Option Step → Line
step_or_bad (Some s) = step s
step_or_bad None = bad

-- what a line is, by its words
abbrev pub line_by : List (List ℕ) → List (List ℕ) → List Param → List (List ℕ) → Line
line_by tables resources params [] = blank
line_by tables resources params (w ∷ ws) =
    if is_comment w then blank else step_or_bad (step_of tables resources params (w ∷ ws))

abbrev pub line_of : Names → List Param → List ℕ → Line
line_of names params bytes = line_by names.tables names.resources params (words bytes)
