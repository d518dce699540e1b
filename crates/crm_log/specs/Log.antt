-- The lines that a log's file spells: each group of lines is one group of the file, with an entry for each line.
use Rattle.std.specs.Prelude.{◌≡◌, ℕ, List, [], ◌∷◌, ◌++◌, map, flat_map, codes, true}
use Rattle.std.specs.List.{list_all}
use Rattle.qc_base.specs.Spelling.{spelled_line, is_line}
use Rattle.qc_base.specs.declared.log_line.LogLine.{LogLine}
use Rattle.qc_site.specs.Image.{Image}
use Rattle.qc_frame.specs.Frame.{groups, groups_at, entry, HasHeader}
use Rattle.qc_entries.specs.Entries.{EntriesView}

-- the first 16 bytes of the log's file
abbrev pub log_header : List ℕ
log_header = codes "QC-CRMLOG--0001" ++ 10 ∷ []

-- the log of the image has its header
abbrev pub HasLogHeader : Image → Type 0
HasLogHeader image = HasHeader log_header image.crm_log

-- the payload of a group of lines
abbrev pub lines_payload : List LogLine → List ℕ
lines_payload lines = flat_map (λ line. entry (spelled_line line)) lines

-- all lines of these groups
abbrev pub all_lines : List (List LogLine) → List LogLine
all_lines log = flat_map (λ lines. lines) log

-- the open groups of the file spell these groups of lines
pub record SpellsLog (file : List ℕ) (log : List (List LogLine)) : Type 0 where
  pub groups : groups file ≡ map lines_payload log
  pub limits : list_all (list_all is_line) log ≡ true

-- the log of the image has its header and spells these groups of lines
pub record IsLogOf (image : Image) (log : List (List LogLine)) : Type 0 where
  pub header : HasLogHeader image
  pub spelled : SpellsLog image.crm_log log

-- these lines and no others wait for `force`
pub record LinesWait (entries : EntriesView) (lines : List LogLine) : Type 0 where
  pub limits : list_all is_line lines ≡ true
  pub payload : entries.log.payload ≡ lines_payload lines

-- these lines are ahead in the file: those of the entries that are left, and behind them those of the groups to come
pub record LinesAhead (file : List ℕ) (entries : EntriesView) (lines : List LogLine) : Type 0 where
  pub first : List LogLine
  pub log : List (List LogLine)
  pub left : map (λ e. e.bytes) entries.left ≡ map spelled_line first
  pub to_come : groups_at file entries.log.place ≡ map lines_payload log
  pub first_fit : list_all is_line first ≡ true
  pub others_fit : list_all (list_all is_line) log ≡ true
  pub is : lines ≡ first ++ all_lines log

-- these lines are this one, and those that are ahead
pub record LinesFrom (line : LogLine) (file : List ℕ) (entries : EntriesView) (lines : List LogLine) : Type 0 where
  pub rest : List LogLine
  pub is : lines ≡ line ∷ rest
  pub ahead : LinesAhead file entries rest
