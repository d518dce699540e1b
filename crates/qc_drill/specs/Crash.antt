-- What a crash in the midst of a drill leaves.
use Rattle.std.specs.Prelude.{◌≡◌, ◌⊎◌, ℕ, List, [], ◌∷◌, ◌++◌, MatchBool}
use Rattle.qc_protocol.specs.Texts.{is_blank}
use Rattle.qc_site.specs.Image.{Image}
use Rattle.qc_site.specs.Disk.{Images}
use Rattle.qc_machine.specs.History.{by_text}
use Rattle.qc_machine.specs.Sites.{StandsFor, LeavesSame, LeavesOneOf}
use Rattle.qc_machine.specs.State.{State}
use Rattle.qc_machine.specs.Steps.{IsBetween}
use Rattle.qc_drill.specs.Drill.{line_step, out_of_line, out_of_lines, after_lines, opened_out}
use Rattle.qc_drill.specs.Fronts.{IsFrontOf, IsPartOf}

-- the states whose history a crash in the midst of a line may leave; a blank line changes nothing
abbrev pub IsAround : State → List ℕ → State → Type 0
IsAround s line x = MatchBool (is_blank line) (x ≡ s) (IsBetween s (line_step s line) x)

-- the state before these lines, or one in the midst of the first of them
abbrev pub IsAtNext : State → List (List ℕ) → State → Type 0
IsAtNext s [] x = x ≡ s
IsAtNext s (line ∷ lines) x = IsAround s line x

-- the state is the one after a front of these lines, or one in the midst of the next line
pub record IsAfterFront (s : State) (lines : List (List ℕ)) (x : State) : Type 0 where
  pub front : List (List ℕ)
  pub rest : List (List ℕ)
  pub is : lines ≡ front ++ rest
  pub after : IsAtNext (after_lines s front) rest x

-- an image is one of those before, but that it stands for the history after a front of these lines
abbrev pub LeavesFront : Images → State → List (List ℕ) → Image → Type 0
LeavesFront before s lines = LeavesOneOf before (IsAfterFront s lines)

-- what is written for the next of these lines
abbrev pub next_out : State → List (List ℕ) → List ℕ
next_out s [] = []
next_out s (line ∷ lines) = out_of_line s line

-- the image stands for the history before these lines, or for one in the midst of the first of them
pub record StandsAtNext (s : State) (lines : List (List ℕ)) (c : Image) : Type 0 where
  pub state : State
  pub is : IsAtNext s lines state
  pub stands : StandsFor by_text c state.history.facts

-- The first of these lines have their whole replies in the text, and of the next one a part of its reply stands there.
-- Each image stands for the history after the first, or for one in the midst of the next.
pub record StopsBetween (s : State) (lines : List (List ℕ)) (text : List ℕ) (now : Images) : Type 0 where
  pub answered : List (List ℕ)
  pub rest : List (List ℕ)
  pub are : lines ≡ answered ++ rest
  pub part : List ℕ
  pub written : text ≡ out_of_lines s answered ++ part
  pub short : IsPartOf (next_out (after_lines s answered) rest) part
  pub images : (c : Image) → now c → StandsAtNext (after_lines s answered) rest c

-- what the opening says was written, and then what these lines are answered by
pub record IsAnswered (s : State) (lines : List (List ℕ)) (text : List ℕ) (now : Images) : Type 0 where
  pub said : List ℕ
  pub is : text ≡ opened_out s ++ said
  pub stands : StopsBetween s lines said now

-- an opening that didn't end has written a front of what it says, and each image has the groups of one before
pub record StopsOpening (s : State) (text : List ℕ) (before now : Images) : Type 0 where
  pub front : IsFrontOf (opened_out s) text
  pub images : (c : Image) → now c → LeavesSame before c

-- an image has the groups of one before, as while the site is opened, or it is as above
abbrev pub LeavesOpened : Images → State → List (List ℕ) → Image → Type 0
LeavesOpened before s lines c = LeavesSame before c ⊎ LeavesFront before s lines c
