-- Where a log stops being lines each of which may follow those before it. `file` has the bytes of its file.
use Rattle.std.specs.Prelude.{◌≡◌, ◌⊎◌, ℕ, List, [], ◌∷◌, true, false}
use Rattle.qc_base.specs.declared.log_line.LogLine.{LogLine}
use Rattle.qc_site.specs.declared.site.SiteFile.TheVariants.{CrmLog as the_file}
use Rattle.qc_entries.specs.Entries.{EntriesView}
use Rattle.qc_catalogue.specs.declared.catalogue.Catalogue.{Catalogue}
use Rattle.crm_log.specs.Lines.{NextLine, DamagedLine}
use Rattle.crm_log.specs.Log.{SpellsLog, all_lines}
use Rattle.crm_history.specs.declared.ended.Ended.{Ended}
use Rattle.crm_history.specs.Legal.{is_log_legal, line_may_follow}

-- the log was just opened: it stands before its first line
pub record JustOpened (log : EntriesView) : Type 0 where
  pub file : log.log.file ≡ the_file
  pub start : log.log.start ≡ 16
  pub place : log.log.place ≡ 16
  pub none_left : log.left ≡ []
  pub none_wait : log.log.payload ≡ []

-- the next entries of a log are these lines, and then it stands so
abbrev pub NextLines : List ℕ → EntriesView → List LogLine → EntriesView → Type 0
NextLines file old [] new = new ≡ old
NextLines file old (line ∷ lines) new = (mid : EntriesView) × (at : ℕ) × NextLine file old mid at line × NextLines file mid lines new

-- the next entry of a log, at this offset, is a line that may not follow these
pub record NotNext (c : Catalogue) (sent : ℕ) (ended : List Ended) (file : List ℕ) (log : EntriesView) (at : ℕ) (lines : List LogLine) : Type 0 where
  pub line : LogLine
  pub behind : EntriesView
  pub next : NextLine file log behind at line
  pub refused : line_may_follow c sent ended lines line ≡ false

-- The log's first entry that doesn't go on with its lines is no line, or one that may not follow. At this offset stands
-- the entry that doesn't fit.
pub record DamagedLines (c : Catalogue) (sent : ℕ) (ended : List Ended) (file : List ℕ) (log : EntriesView) (at : ℕ) : Type 0 where
  pub lines : List LogLine
  pub behind : EntriesView
  pub read : NextLines file log lines behind
  pub legal : is_log_legal c sent ended lines ≡ true
  pub unfit : DamagedLine file behind at ⊎ NotNext c sent ended file behind at lines

-- the groups of the file spell these lines
pub record SpellsLines (file : List ℕ) (lines : List LogLine) : Type 0 where
  pub groups : List (List LogLine)
  pub spelled : SpellsLog file groups
  pub is : lines ≡ all_lines groups
