-- The lines of one attempt.
use Rattle.std.specs.Prelude.{ℕ, List, filter, Bool, ◌==◌}
use Rattle.std.specs.List.{list_any}
use Rattle.qc_base.specs.declared.log_line.LogLine.{LogLine}
use Rattle.qc_base.specs.LogLines.{attempt_of_line}

abbrev pub is_own : ℕ → LogLine → Bool
is_own attempt line = attempt_of_line line == attempt

-- in order
abbrev pub own_lines : ℕ → List LogLine → List LogLine
own_lines attempt lines = filter (is_own attempt) lines

-- whether there is one
abbrev pub is_named : List LogLine → ℕ → Bool
is_named lines attempt = list_any (is_own attempt) lines
