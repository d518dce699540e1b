-- Lines that a clerk stages in a log.
use Rattle.std.specs.Prelude.{◌≡◌, ℕ, ◌+◌, ◌*◌, ◌≤◌, List, [], ◌∷◌, length, true}
use Rattle.qc_base.specs.declared.log_line.LogLine.{LogLine}
use Rattle.qc_entries.specs.Entries.{EntriesView}
use Rattle.crm_log.specs.Lines.{staged_line}

-- The log may take so many lines more. A line has at most 128 bytes, and four more with its length.
pub record HasRoomFor (lines : ℕ) (entries : EntriesView) : Type 0 where
  pub ended : entries.log.ended ≡ true
  pub room : 132 * lines ≤ entries.log.spare
  pub fits : length entries.log.payload + 132 * lines ≤ 33554432

-- so many lines more took no more room than that, and nothing else of the log changed
pub record TakesRoom (lines : ℕ) (old new : EntriesView) : Type 0 where
  pub same : new ≡ record old { log = record old.log { payload = new.log.payload; spare = new.log.spare } }
  pub room : old.log.spare ≤ new.log.spare + 132 * lines
  pub fits : length new.log.payload ≤ length old.log.payload + 132 * lines

-- the log with these lines more that wait
abbrev pub staged_lines : EntriesView → List LogLine → EntriesView
staged_lines entries [] = entries
staged_lines entries (line ∷ lines) = staged_lines (staged_line entries line) lines
