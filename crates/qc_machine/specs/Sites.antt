-- The history that a site stands for, the state that it is read as, and what a crash leaves of it.
use Rattle.std.specs.Prelude.{◌≡◌, ℕ, ◌+◌, max, List, [], ◌∷◌, ◌++◌, length, replicate, Option, None, sum_by, codes, true}
use Rattle.qc_base.specs.declared.fact.Fact.{Fact}
use Rattle.qc_base.specs.declared.recording.Recording.{Recording}
use Rattle.qc_base.specs.Rows.{OutsideRows}
use Rattle.qc_site.specs.Image.{Image}
use Rattle.qc_site.specs.Disk.{Images}
use Rattle.qc_frame.specs.Frame.{groups, HasHeader}
use Rattle.qc_frame.specs.Log.{SameLog}
use Rattle.qc_journal.specs.History.{SpellsHistory, journal_header}
use Rattle.qc_machine.specs.declared.limits.Limits.{Limits}
use Rattle.qc_machine.specs.History.{Reader, History, by_text, history_of, is_legal}
use Rattle.qc_machine.specs.State.{State, HeldAttempt, FileEnd}

-- the first 16 bytes of the log of compensations
abbrev pub log_header : List ℕ
log_header = codes "QC-CRMLOG--0001" ++ 10 ∷ []

-- both logs of the site have their headers
pub record HasHeaders (image : Image) : Type 0 where
  pub journal : HasHeader journal_header image.journal
  pub log : HasHeader log_header image.crm_log

-- The image stands for these facts: both logs have their headers, the journal's groups spell the facts, which are a legal
-- history, and no attempt has written to the log of compensations.
pub record StandsFor (read : Reader) (image : Image) (facts : List Fact) : Type 0 where
  pub headers : HasHeaders image
  pub spelled : SpellsHistory image.journal facts
  pub legal : is_legal read facts ≡ true
  pub unused : groups image.crm_log ≡ []

-- the image stands for a history
abbrev pub IsKept : Images
IsKept image = (facts : List Fact) × StandsFor by_text image facts

-- the place of the end gate of a file, and the file's length once that gate is closed

abbrev pub end_gate : List ℕ → ℕ
end_gate file = 16 + sum_by (λ payload. 5 + length payload) (groups file)

abbrev pub file_end : List ℕ → FileEnd
file_end file = record { gate = end_gate file; size = max (length file) (end_gate file + 1) }

-- no recorder is open
abbrev pub no_clients : List (Option Recording)
no_clients = replicate 16 None

-- no player holds an attempt
abbrev pub no_players : List (Option HeldAttempt)
no_players = replicate 16 None

-- a history and rows as they were read, with the moment of the last fact as the last one seen
abbrev pub as_read : Limits → History → OutsideRows → FileEnd → FileEnd → State
as_read limits h rows journal log = record { history = h; rows = rows; last = h.last; clients = no_clients; players = no_players; journal = journal; log = log; limits = limits }

-- the image stands for a history, and is read as this state
pub record ReadsAs (limits : Limits) (image : Image) (s : State) : Type 0 where
  pub facts : List Fact
  pub stands : StandsFor by_text image facts
  pub is : s ≡ as_read limits (history_of by_text facts) image.rows (file_end image.journal) (file_end image.crm_log)

-- the image stands for the history of the state, its rows are the state's, and its logs end where the state says
pub record IsSiteOf (image : Image) (s : State) : Type 0 where
  pub stands : StandsFor by_text image s.history.facts
  pub rows : image.rows ≡ s.rows
  pub journal : s.journal ≡ file_end image.journal
  pub log : s.log ≡ file_end image.crm_log

-- What a call leaves as it was: the rows, the snapshot, and the groups of the log of compensations.
pub record Stays (before now : Image) : Type 0 where
  pub rows : now.rows ≡ before.rows
  pub snap : now.snap ≡ before.snap
  pub log : SameLog before.crm_log now.crm_log

-- the same of the journal too
pub record SameSite (before now : Image) : Type 0 where
  pub journal : SameLog before.journal now.journal
  pub others : Stays before now

-- an image is one of those before, but for what stands behind the groups of its logs
pub record LeavesSame (before : Images) (c : Image) : Type 0 where
  pub was : Image
  pub there : before was
  pub same : SameSite was c

-- an image is one of those before, but that it stands for the history of one of these states
pub record LeavesOneOf (before : Images) (P : State → Type 0) (c : Image) : Type 0 where
  pub was : Image
  pub there : before was
  pub others : Stays was c
  pub state : State
  pub is : P state
  pub stands : StandsFor by_text c state.history.facts
