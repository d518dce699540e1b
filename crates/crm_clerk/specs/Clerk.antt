-- A clerk as its callers see it, and the lines that its calls stage.
use Rattle.std.specs.Prelude.{ℕ, ◌+◌, ◌-◌, List, [], ◌∷◌, ◌++◌, length, reverse, Bool, Option, Some, None, if◌then◌else◌}
use Rattle.qc_base.specs.declared.log_line.LogRecord.{LogRecord}
use Rattle.qc_base.specs.declared.log_line.LogLine.{LogLine}
use Rattle.qc_base.specs.declared.log_line.LogLine.TheVariants.{Opened, Registered, Written, Forgot, Done}
use Rattle.qc_base.specs.LogLines.{is_opened, is_unfinished, entries, is_forgotten, of_resource}

pub record ClerkView : Type 0 where
  pub attempt : ℕ
  -- the message
  pub id : ℕ
  -- all lines that it has staged, in order
  pub lines : List LogLine
  -- how many more registrations and records it can take
  pub room : ℕ

abbrev pub new_clerk : ℕ → ℕ → ℕ → ClerkView
new_clerk attempt id room = record { attempt = attempt; id = id; lines = []; room = room }

-- all records of a resource, forgotten ones among them
abbrev pub records_in : List LogLine → ℕ → List ℕ → List LogRecord
records_in lines attempt resource = of_resource resource (entries lines attempt)

-- the first of these records of a resource, where it is there and wasn't forgotten
abbrev pub unless_forgotten : List LogLine → ℕ → List ℕ → List LogRecord → Option LogRecord
unless_forgotten lines attempt resource [] = None
unless_forgotten lines attempt resource (first ∷ others) =
    if is_forgotten lines attempt (record { resource = resource; entry = first }) then None else Some first

-- the last record of a resource, where it is there and wasn't forgotten
abbrev pub last_kept : List LogLine → ℕ → List ℕ → Option LogRecord
last_kept lines attempt resource = unless_forgotten lines attempt resource (reverse (records_in lines attempt resource))

-- the line, where it isn't there
abbrev pub unless : Bool → LogLine → List LogLine
unless there line = if there then [] else line ∷ []

-- Opened, where it isn't among these lines
abbrev pub opening_lines : List LogLine → ℕ → ℕ → List LogLine
opening_lines lines attempt id = unless (is_opened lines attempt) (Opened attempt id)

-- a registration: the attempt's first has Opened before it
abbrev pub registering_lines : ClerkView → List ℕ → ℕ → List LogLine
registering_lines c resource phases = opening_lines c.lines c.attempt c.id ++ Registered c.attempt resource phases ∷ []

-- the next record of a resource: its number is one more than how many were written
abbrev pub next_record : ClerkView → List ℕ → List ℕ → ℕ → ℕ → LogRecord
next_record c resource key old new =
    record { seq = length (records_in c.lines c.attempt resource) + 1; flags = 0; key = key; old = old; new = new }

abbrev pub writing_lines : ClerkView → List ℕ → List ℕ → ℕ → ℕ → List LogLine
writing_lines c resource key old new = Written c.attempt resource (next_record c resource key old new) ∷ []

abbrev pub forgot_line : ClerkView → List ℕ → ℕ → LogLine
forgot_line c resource seq = Forgot c.attempt resource seq

abbrev pub forgot_lines : ClerkView → List ℕ → Option LogRecord → List LogLine
forgot_lines c resource (Some last) = forgot_line c resource last.seq ∷ []
forgot_lines c resource None = []

-- that the last record is forgotten, where it isn't yet
abbrev pub forgetting_lines : ClerkView → List ℕ → List LogLine
forgetting_lines c resource = forgot_lines c resource (last_kept c.lines c.attempt resource)

-- that the attempt is done, where it is opened and isn't done
abbrev pub finishing_lines : ClerkView → List LogLine
finishing_lines c = if is_unfinished c.lines c.attempt then Done c.attempt ∷ [] else []

-- the clerk with these lines more, and so much less room
abbrev pub with_lines : ℕ → List LogLine → ClerkView → ClerkView
with_lines taken lines c = record c { lines = c.lines ++ lines; room = c.room - taken }
