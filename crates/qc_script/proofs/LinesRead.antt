-- How far a script was read.
use Rattle.std.proofs.Common.{◌≡◌, ◌∙◌, ℕ, ◌+◌, ◌≤◌, List, [], ◌∷◌, ◌++◌, length, map, Option, Some, None, Ok, Err, ◌<◌, Bool, true, false, cond, leb, Bor, refl, sym, ap, subst, arith, append-nil}
use Rattle.std.specs.List.{slice_split}
use Rattle.std.proofs.lemmas.Bool.{cond-true, le-leb, leb-true}
use Rattle.qc_script.specs.declared.names.Names.{Names}
use Rattle.qc_script.specs.declared.names.Param.{Param}
use Rattle.qc_script.specs.declared.script.ScriptError.{ScriptError}
use Rattle.qc_script.specs.declared.script.ScriptError.TheVariants.{BadLine, NoMemory}
use Rattle.qc_script.specs.declared.step.Step.{Step}
use Rattle.qc_script.specs.declared.step.Line.{Line}
use Rattle.qc_script.specs.Lines.{line_of}
use Rattle.qc_script.specs.Reading.{Adds, HasRead, fault_from, lines_left, split_rest}
use Rattle.qc_script.specs.Scripts.{script_of, script_by, first_fault, steps_in, lines, is_newline}

-- Of these lines some are read: so many steps are there, the line of this number comes next, and these lines are left, which have at most so many bytes.
pub record IsRead (all : List Line) (number : ℕ) (read : List Step) (when : Option ℕ) (left : List Line) (size : ℕ) : Type 0 where
  pub fault : first_fault 1 0 all ≡ fault_from number read when left
  pub steps : steps_in all ≡ read ++ steps_in left
  pub few : length read ≤ 32
  pub bytes : number + size ≤ 4098

-- a line is taken off the text that is left
pub lines_cut : (names : Names) (params : List Param) (rest line : List ℕ) (behind : Option (Bor (List ℕ))) → slice_split is_newline rest ≡ line ∷ split_rest behind
    → lines names params rest ≡ line_of names params line ∷ lines_left names params behind
lines_cut names params rest line None e = ap (map (line_of names params)) e
lines_cut names params rest line (Some text) e = ap (map (line_of names params)) e

-- before the first line
pub read_none : (all : List Line) (size : ℕ) → size ≤ 4097 → IsRead all 1 [] None all size
read_none all size small = record { fault = refl; steps = refl; few = omega arith; bytes = omega arith }

-- a line was read
pub read_on : (all left ls : List Line) (line : Line) (number : ℕ) (read new : List Step) (when new_when : Option ℕ) (size less : ℕ)
    → IsRead all number read when left size → left ≡ line ∷ ls → fault_from number read when (line ∷ ls) ≡ fault_from (number + 1) new new_when ls
    → read ++ steps_in (line ∷ ls) ≡ new ++ steps_in ls → length new ≤ 32 → less < size → IsRead all (number + 1) new new_when ls less
read_on all left ls line number read new when new_when size less r cut fault steps few lt = record {
  fault = r.fault ∙ ap (fault_from number read when) cut ∙ fault;
  steps = r.steps ∙ ap (λ l. read ++ steps_in l) cut ∙ steps;
  few = few;
  bytes = omega (arith, r.bytes);
}

-- a line stops the reading
pub read_stopped : (all left ls : List Line) (line : Line) (number : ℕ) (read new : List Step) (when new_when : Option ℕ) (size : ℕ) (error : ScriptError)
    → IsRead all number read when left size → left ≡ line ∷ ls → Adds number line read when new new_when ls (Err error) → HasRead all (Err error)
read_stopped all left ls line number read new when new_when size (BadLine at) r cut told = r.fault ∙ ap (fault_from number read when) cut ∙ told
read_stopped all left ls line number read new when new_when size NoMemory r cut told = tt

-- all lines were read
pub read_all : (all left : List Line) (number : ℕ) (read : List Step) (size : ℕ) → IsRead all number read None left size → left ≡ [] → HasRead all (Ok read)
read_all all left number read size r none = (r.fault ∙ ap (fault_from number read None) none, r.steps ∙ ap (λ l. read ++ steps_in l) none ∙ append-nil read)

-- the last step is a `when`
pub read_when : (all left : List Line) (number at : ℕ) (read : List Step) (size : ℕ) → IsRead all number read (Some at) left size → left ≡ [] → HasRead all (Err (BadLine at))
read_when all left number at read size r none = r.fault ∙ ap (fault_from number read (Some at)) none

-- the script of a text

pub script_read : (text : List ℕ) (params : List Param) (names : Names) (steps : List Step) → length text ≤ 4096 → HasRead (lines names params text) (Ok steps) → script_of text params names ≡ Ok steps
unfolding script_of
script_read text params names steps small h =
    cond-true (leb (length text) 4096) (script_by (lines names params text) (first_fault 1 0 (lines names params text))) (Err 1) (le-leb (length text) 4096 small)
    ∙ ap (script_by (lines names params text)) h.0 ∙ ap (λ s. Ok s) h.1

pub script_refused : (text : List ℕ) (params : List Param) (names : Names) (at : ℕ) → length text ≤ 4096 → HasRead (lines names params text) (Err (BadLine at)) → script_of text params names ≡ Err at
unfolding script_of
script_refused text params names at small h =
    cond-true (leb (length text) 4096) (script_by (lines names params text) (first_fault 1 0 (lines names params text))) (Err 1) (le-leb (length text) 4096 small)
    ∙ ap (script_by (lines names params text)) h

pub script_long : (text : List ℕ) (params : List Param) (names : Names) → 4096 < length text → script_of text params names ≡ Err 1
unfolding script_of
script_long text params names long = by (leb (length text) 4096) refl
  where
    by : (b : Bool) → leb (length text) 4096 ≡ b → cond b (script_by (lines names params text) (first_fault 1 0 (lines names params text))) (Err 1) ≡ Err 1
    by true e = let small : length text ≤ 4096 = leb-true (length text) 4096 e in absurd (omega arith)
    by false e = refl

-- the line that an error tells
abbrev told-line : ScriptError → ℕ
told-line (BadLine at) = at
told-line NoMemory = 0

pub refused_by : (text : List ℕ) (params : List Param) (names : Names) (error : ScriptError) (line : ℕ) → length text ≤ 4096 → HasRead (lines names params text) (Err error) → error ≡ BadLine line
    → script_of text params names ≡ Err line
refused_by text params names error line small h is = script_refused text params names line small (subst (λ (e : ScriptError). HasRead (lines names params text) (Err e)) is h)

pub refused_long : (text : List ℕ) (params : List Param) (names : Names) (line : ℕ) → 4096 < length text → BadLine 1 ≡ BadLine line → script_of text params names ≡ Err line
refused_long text params names line long is = script_long text params names long ∙ ap (λ (e : ScriptError). Err (told-line e)) is
