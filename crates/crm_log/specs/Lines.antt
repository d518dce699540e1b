-- A log as its callers see it, line by line.
use Rattle.std.specs.Prelude.{◌≡◌, ◌≢◌, ◌⊎◌, ℕ, List, ◌∷◌, true}
use Rattle.qc_base.specs.Spelling.{spelled_line, is_line, SpellsLine}
use Rattle.qc_base.specs.declared.log_line.LogLine.{LogLine}
use Rattle.qc_frame.specs.Log.{CanStage, staged}
use Rattle.qc_frame.specs.declared.entries.Entry.{Entry}
use Rattle.qc_entries.specs.Entries.{EntriesView, Filled, DamagedNext}

-- the first of these entries is the line
pub record FirstSpells (entries : List Entry) (line : LogLine) : Type 0 where
  pub entry : Entry
  pub rest : List Entry
  pub is : entries ≡ entry ∷ rest
  pub spelled : SpellsLine entry.bytes line

-- the first of these entries, if there is one, is no line
abbrev pub NoneSpelled : List Entry → Type 0
NoneSpelled entries = (entry : Entry) (rest : List Entry) → entries ≡ entry ∷ rest
    → (line : LogLine) → is_line line ≡ true → entry.bytes ≢ spelled_line line

-- the next entry of the log was this one: the first that was left, or the first of the next group
pub record Passed (file : List ℕ) (old new : EntriesView) (at : ℕ) (entry : Entry) : Type 0 where
  pub filled : Filled file old (record new { left = entry ∷ new.left })
  pub here : at ≡ entry.at

-- the next entry of the log is this line, at this offset, and the log is read on behind it
pub record NextLine (file : List ℕ) (old new : EntriesView) (at : ℕ) (line : LogLine) : Type 0 where
  pub entry : Entry
  pub passed : Passed file old new at entry
  pub spelled : SpellsLine entry.bytes line

-- the next entry of the log, at this offset, isn't exactly one spelling of a line
pub record NotLine (file : List ℕ) (old : EntriesView) (at : ℕ) : Type 0 where
  pub behind : EntriesView
  pub entry : Entry
  pub passed : Passed file old behind at entry
  pub no_line : (line : LogLine) → is_line line ≡ true → entry.bytes ≢ spelled_line line

-- The log is damaged at this offset: the payload of the next group is no list of entries from there on, which is looked
-- at before any of its lines, or the next entry is no line.
abbrev pub DamagedLine : List ℕ → EntriesView → ℕ → Type 0
DamagedLine file old at = DamagedNext file old at ⊎ NotLine file old at

-- the log may take this line
pub record CanStageLine (entries : EntriesView) (line : LogLine) : Type 0 where
  pub limits : is_line line ≡ true
  pub can : CanStage entries.log (spelled_line line)

-- the log with one line more that waits
abbrev pub staged_line : EntriesView → LogLine → EntriesView
staged_line entries line = record entries { log = staged entries.log (spelled_line line) }
