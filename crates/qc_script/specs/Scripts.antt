-- The script that a text is, or the line at fault.
use Rattle.std.specs.Prelude.{ℕ, ◌+◌, nat_le, List, [], ◌∷◌, length, map, Bool, true, false, ◌&&◌, ◌||◌, ◌==◌, Option, Some, None, if◌then◌else◌, Result, Ok, Err}
use Rattle.std.specs.List.{slice_split}
use Rattle.qc_script.specs.declared.names.Names.{Names}
use Rattle.qc_script.specs.declared.names.Param.{Param}
use Rattle.qc_script.specs.declared.script.Script.{Script}
use Rattle.qc_script.specs.declared.step.Step.{Step}
use Rattle.qc_script.specs.declared.step.Step.TheVariants.{Need, When, Add, Sub, Set, Move, Grow, Shrink, Retract, Fail, Abort}
use Rattle.qc_script.specs.declared.step.Line.{Line}
use Rattle.qc_script.specs.declared.step.Line.TheVariants.{Blank as blank, Step as step, Bad as bad}
use Rattle.qc_script.specs.Lines.{line_of}

-- What stands between the bytes 10. Where the last line ends with one, an empty line stands behind it, and is no step.
abbrev pub is_newline : ℕ → Bool
is_newline b = b == 10

abbrev pub lines : Names → List Param → List ℕ → List Line
lines names params text = map (line_of names params) (slice_split is_newline text)

abbrev pub is_when : Step → Bool
is_when (Need c) = false
is_when (When c) = true
is_when (Add cell e) = false
is_when (Sub cell e) = false
is_when (Set cell e) = false
is_when (Move from to e) = false
is_when (Grow cell e) = false
is_when (Shrink cell e) = false
is_when (Retract resource) = false
is_when Fail = false
is_when Abort = false

-- Whether the next line that isn't blank is a `when`, or there is none: no `when` may stand before it. A bad line may be
-- a step.
abbrev pub bars_when : List Line → Bool
bars_when [] = true
bars_when (blank ∷ ls) = bars_when ls
bars_when (step s ∷ ls) = is_when s
bars_when (bad ∷ ls) = false

-- whether a line is at fault: so many steps stand before it, and these lines behind it
abbrev pub is_fault : ℕ → Line → List Line → Bool
is_fault count blank ls = false
is_fault count (step s) ls = nat_le 32 count || (is_when s && bars_when ls)
is_fault count bad ls = true

abbrev pub count_with : ℕ → Line → ℕ
count_with count blank = count
count_with count (step s) = count + 1
count_with count bad = count + 1

-- the number of the first line at fault, of lines that are numbered from n on
abbrev pub first_fault : ℕ → ℕ → List Line → Option ℕ
first_fault n count [] = None
first_fault n count (l ∷ ls) = if is_fault count l ls then Some n else first_fault (n + 1) (count_with count l) ls

-- the steps in order
abbrev pub steps_in : List Line → List Step
steps_in [] = []
steps_in (blank ∷ ls) = steps_in ls
steps_in (step s ∷ ls) = s ∷ steps_in ls
steps_in (bad ∷ ls) = steps_in ls

abbrev pub script_by : List Line → Option ℕ → Result (List Step) ℕ
script_by ls (Some line) = Err line
script_by ls None = Ok (steps_in ls)

-- the script that a text is, or the line at fault
unfoldable pub script_of : List ℕ → List Param → Names → Result Script ℕ
script_of text params names =
    if nat_le (length text) 4096 then script_by (lines names params text) (first_fault 1 0 (lines names params text)) else Err 1

-- what stands for a script where there is none
abbrev pub no_script : Script
no_script = []
