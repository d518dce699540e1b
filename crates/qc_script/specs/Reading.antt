-- A script that is being read, line by line.
use Rattle.std.specs.Prelude.{◌≡◌, ℕ, suc, ◌+◌, ◌<◌, List, [], ◌∷◌, ◌++◌, length, map, Bool, Option, Some, None, if◌then◌else◌, Result, Ok, Err}
use Rattle.std.specs.Borrow.{Bor}
use Rattle.std.specs.List.{slice_split}
use Rattle.qc_script.specs.declared.names.Names.{Names}
use Rattle.qc_script.specs.declared.names.Param.{Param}
use Rattle.qc_script.specs.declared.script.ScriptError.{ScriptError}
use Rattle.qc_script.specs.declared.script.ScriptError.TheVariants.{BadLine, NoMemory}
use Rattle.qc_script.specs.declared.step.Step.{Step}
use Rattle.qc_script.specs.declared.step.Line.{Line}
use Rattle.qc_script.specs.Scripts.{is_newline, lines, bars_when, first_fault, steps_in}

-- the bytes before the first newline
abbrev pub line_length : List ℕ → ℕ
line_length [] = 0
line_length (b ∷ bs) = if is_newline b then 0 else suc (line_length bs)

-- the lines of a text that is left, or none
abbrev pub split_rest : Option (Bor (List ℕ)) → List (List ℕ)
split_rest None = []
split_rest (Some text) = slice_split is_newline text.now

abbrev pub lines_left : Names → List Param → Option (Bor (List ℕ)) → List Line
lines_left names params None = []
lines_left names params (Some text) = lines names params text.now

-- how many lines it may have at most
abbrev pub rest_size : Option (Bor (List ℕ)) → ℕ
rest_size None = 0
rest_size (Some text) = length text.now + 1

-- a `when` that stands before these lines is the first at fault, where they bar it
abbrev pub blamed : Option ℕ → List Line → Option ℕ → Option ℕ
blamed None ls fault = fault
blamed (Some line) ls fault = if bars_when ls then Some line else fault

-- the first line at fault of those from line n on, behind these steps, or the `when` before them
abbrev pub fault_from : ℕ → List Step → Option ℕ → List Line → Option ℕ
fault_from n steps when ls = blamed when ls (first_fault n (length steps) ls)

-- What reading a line tells, whatever lines stand behind it.
abbrev pub Adds : ℕ → Line → List Step → Option ℕ → List Step → Option ℕ → List Line
    → Result (Unit {0}) ScriptError → Type 0
Adds n line steps when new_steps new_when ls (Ok x) =
    fault_from n steps when (line ∷ ls) ≡ fault_from (n + 1) new_steps new_when ls
Adds n line steps when new_steps new_when ls (Err (BadLine at)) = fault_from n steps when (line ∷ ls) ≡ Some at
Adds n line steps when new_steps new_when ls (Err NoMemory) = Unit

-- Whether the steps of lines were read, or which line is at fault.
abbrev pub HasRead : List Line → Result (List Step) ScriptError → Type 0
HasRead ls (Ok steps) = (first_fault 1 0 ls ≡ None) × (steps_in ls ≡ steps)
HasRead ls (Err (BadLine at)) = first_fault 1 0 ls ≡ Some at
HasRead ls (Err NoMemory) = Unit
