-- Where the files of a site stop being a history.
use Rattle.std.specs.Prelude.{◌≡◌, ◌≢◌, ◌⊎◌, ℕ, ◌+◌, List, [], ◌∷◌, ◌++◌, length, map, sum_by, true, false}
use Rattle.std.specs.List.{list_all}
use Rattle.qc_base.specs.declared.fact.Fact.{Fact}
use Rattle.qc_base.specs.Spelling.{is_fact}
use Rattle.qc_site.specs.Image.{Image}
use Rattle.qc_site.specs.declared.site.SiteFile.TheVariants.{Journal, CrmLog}
use Rattle.qc_frame.specs.Frame.{groups, groups_at}
use Rattle.qc_journal.specs.History.{SpellsHistory, fact_payload}
use Rattle.qc_journal.specs.Journal.{DamagedFact}
use Rattle.qc_frame.specs.declared.error.Damage.{Damage}
use Rattle.qc_machine.specs.History.{by_text, history_of, may_follow, all_follow, no_facts, is_legal}

-- the groups up to a place spell these facts, each of which may follow those before it
pub record LegalFront (file : List ℕ) (place : ℕ) (facts : List Fact) : Type 0 where
  pub spelled : groups file ≡ map fact_payload facts ++ groups_at file place
  pub limits : list_all is_fact facts ≡ true
  pub legal : all_follow by_text no_facts facts ≡ true
  pub reached : place ≡ 16 + sum_by (λ payload. 5 + length payload) (map fact_payload facts)

-- the fact at a place may not follow these, and its entry has this offset
pub record NotNext (file : List ℕ) (place at : ℕ) (facts : List Fact) : Type 0 where
  pub fact : Fact
  pub rest : List (List ℕ)
  pub next : groups_at file place ≡ fact_payload fact ∷ rest
  pub limits : is_fact fact ≡ true
  pub refused : may_follow by_text (history_of by_text facts) fact ≡ false
  pub here : at ≡ place + 5

-- The journal's first group that doesn't go on with the history is no fact, or one that may not follow. At this offset
-- stands the entry that doesn't fit.
pub record DamagedJournal (file : List ℕ) (at : ℕ) : Type 0 where
  pub facts : List Fact
  pub place : ℕ
  pub front : LegalFront file place facts
  pub unfit : DamagedFact file place at ⊎ NotNext file place at facts

-- the journal spells a legal history, and the log of compensations has a group, whose first entry has this offset
pub record DamagedLog (image : Image) (at : ℕ) : Type 0 where
  pub facts : List Fact
  pub spelled : SpellsHistory image.journal facts
  pub legal : is_legal by_text facts ≡ true
  pub some : groups image.crm_log ≢ []
  pub first : at ≡ 21

-- the first entry that doesn't fit, the journal's before the other's
abbrev pub DamagedAt : Image → Damage → Type 0
DamagedAt image d = ((d.file ≡ Journal) × DamagedJournal image.journal d.at) ⊎ ((d.file ≡ CrmLog) × DamagedLog image d.at)
