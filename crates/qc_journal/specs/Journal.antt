-- A journal as its callers see it, and what its calls do to it.
use Rattle.std.specs.Prelude.{◌≡◌, ◌≢◌, ◌⊎◌, ℕ, ◌+◌, ◌-◌, ◌≤◌, max, List, [], ◌∷◌, length, Bool, true, false}
use Rattle.qc_base.specs.Spelling.{spelled_fact, is_fact}
use Rattle.qc_base.specs.declared.fact.Fact.{Fact}
use Rattle.qc_site.specs.Image.{Image}
use Rattle.qc_site.specs.Disk.{Images, written}
use Rattle.qc_site.specs.declared.site.SiteFile.TheVariants.{Journal}
use Rattle.qc_frame.specs.Frame.{StopsBefore, IsEntries, groups_at}
use Rattle.qc_frame.specs.Gate.{with_group}
use Rattle.qc_frame.specs.Log.{LogView, Stands, SameFrom}
use Rattle.qc_journal.specs.History.{fact_payload}

pub record JournalView : Type 0 where
  -- the place at which it was opened: its groups are read from there on
  pub start : ℕ
  -- the gate before which the journal stands
  pub place : ℕ
  -- the file's length
  pub length : ℕ
  pub ended : Bool
  pub spare : ℕ

-- the journal is a log of its file in which nothing waits
abbrev pub log_of : JournalView → LogView
log_of journal = record {
  file = Journal;
  start = journal.start;
  place = journal.place;
  length = journal.length;
  ended = journal.ended;
  payload = [];
  spare = journal.spare;
}

-- a log of the journal's file as its callers see it
abbrev pub journal_of : LogView → JournalView
journal_of log = record {
  start = log.start;
  place = log.place;
  length = log.length;
  ended = log.ended;
  spare = log.spare;
}

-- the journal stands on a site that shows this image and may leave these, where the site tells
abbrev pub JournalStands : Type 0 → Image → Images → JournalView → Type 0
JournalStands told shown images journal = Stands told shown images (log_of journal)

-- a journal that was just opened behind its header
abbrev pub journal_opened : ℕ → JournalView
journal_opened size = record { start = 16; place = 16; length = size; ended = false; spare = 0 }

-- the next group of the file is this fact, its entry at this offset, and the journal stands behind it
pub record NextFact (file : List ℕ) (old new : JournalView) (at : ℕ) (fact : Fact) : Type 0 where
  pub here : at ≡ old.place + 5
  pub limits : is_fact fact ≡ true
  pub next : groups_at file old.place ≡ fact_payload fact ∷ groups_at file new.place
  pub journal : new ≡ record old { place = old.place + 9 + length (spelled_fact fact) }

-- no group is left, the end gate is 0, all else stays, and facts may be added
pub record NoFact (file now : List ℕ) (old new : JournalView) : Type 0 where
  pub none : groups_at file old.place ≡ []
  pub bytes : now ≡ written file old.place (0 ∷ [])
  pub same : SameFrom old.start file now
  pub journal : new ≡ record old { length = length now; ended = true }

-- the next group is no fact: its payload is no list of entries from an offset on, or it isn't one entry that is a spelling
pub record DamagedFact (file : List ℕ) (place at : ℕ) : Type 0 where
  pub payload : List ℕ
  pub next : groups_at file place ≡ payload ∷ groups_at file (place + 5 + length payload)
  pub no_fact : (fact : Fact) → is_fact fact ≡ true → payload ≢ fact_payload fact
  pub there : StopsBefore (place + 5) at payload ⊎ ((entries : List (List ℕ)) × IsEntries entries payload × (at ≡ place + 5))

-- the file with a fact behind its end gate, which is opened, and a closed gate behind the fact
abbrev pub with_fact : List ℕ → ℕ → Fact → List ℕ
with_fact file place fact = with_group file place (fact_payload fact)

-- the journal may take this fact
pub record CanAppend (journal : JournalView) (fact : Fact) : Type 0 where
  pub limits : is_fact fact ≡ true
  pub ended : journal.ended ≡ true
  pub room : length (spelled_fact fact) + 4 ≤ journal.spare

-- the journal behind a fact that was added
abbrev pub appended : JournalView → Fact → JournalView
appended journal fact = record journal {
  place = journal.place + 9 + length (spelled_fact fact);
  length = max journal.length (journal.place + 10 + length (spelled_fact fact));
}

-- the journal after a fact that wasn't added
abbrev pub not_appended : JournalView → Fact → JournalView
not_appended journal fact = record journal { spare = journal.spare - (length (spelled_fact fact) + 4) }
