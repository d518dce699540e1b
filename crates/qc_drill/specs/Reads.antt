-- What a drill has read of its source.
use Rattle.std.specs.Prelude.{◌≡◌, ◌≤◌, ◌<◌, ℕ, ◌+◌, List, [], length, take, Option, Some}
use Rattle.qc_protocol.specs.declared.status.Status.{Status}
use Rattle.qc_protocol.specs.declared.status.Status.TheVariants.{Done, SourceFault, SinkFault, SiteFault, InputLong, NoMemory}
use Rattle.qc_protocol.specs.Texts.{lines_of, ended_lines}
use Rattle.qc_drill.specs.Fronts.{IsFrontOf, Took}

-- the bytes that are read as lines at the most
abbrev pub most_input : ℕ
most_input = 4294967296

-- the bytes that one read of the source gives at the most
abbrev pub chunk : ℕ
chunk = 4096

-- the bytes that were taken, and the lines that were read of them, by how the drill ended
abbrev pub ReadsBy : Status → List ℕ → List (List ℕ) → Type 0
ReadsBy Done taken lines = (length taken ≤ most_input) × (lines ≡ lines_of taken)
ReadsBy SourceFault taken lines = (length taken ≤ most_input) × (lines ≡ ended_lines taken)
ReadsBy InputLong taken lines = (most_input < length taken) × (lines ≡ ended_lines (take most_input taken))
ReadsBy SinkFault taken lines = IsFrontOf (lines_of (take most_input taken)) lines
ReadsBy SiteFault taken lines = IsFrontOf (lines_of (take most_input taken)) lines
ReadsBy NoMemory taken lines = IsFrontOf (lines_of (take most_input taken)) lines
ReadsBy _ taken lines = (taken ≡ []) × (lines ≡ [])

-- A drill that ended so took these bytes from the front of the source and read these lines of them. No more is taken
-- than the most that is read and one read more. The lines are the first of all that the source had, and it is done only
-- where the source has no byte left.
pub record HasRead (status : Status) (before after : Option (List ℕ)) (taken : List ℕ) (lines : List (List ℕ)) : Type 0 where
  pub source : Took taken before after
  pub most : length taken ≤ most_input + chunk
  pub read : ReadsBy status taken lines
  pub first : (bytes : List ℕ) → before ≡ Some bytes → IsFrontOf (lines_of bytes) lines
  pub end : status ≡ Done → (bytes : List ℕ) → before ≡ Some bytes → bytes ≡ taken
