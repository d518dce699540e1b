-- The history that a journal's file spells: each fact is one group with one entry.
use Rattle.std.specs.Prelude.{◌≡◌, ℕ, List, [], ◌∷◌, ◌++◌, map, codes, true}
use Rattle.std.specs.List.{list_all}
use Rattle.qc_base.specs.Spelling.{spelled_fact, is_fact}
use Rattle.qc_base.specs.declared.fact.Fact.{Fact}
use Rattle.qc_site.specs.Image.{Image}
use Rattle.qc_frame.specs.Frame.{groups, entry, HasHeader, IsBegun}

-- the first 16 bytes of the journal's file
abbrev pub journal_header : List ℕ
journal_header = codes "QC-JOURNAL-0001" ++ 10 ∷ []

-- the journal of the image has its header
abbrev pub HasJournalHeader : Image → Type 0
HasJournalHeader image = HasHeader journal_header image.journal

-- the journal of the image has its header, and the gate behind it is open
abbrev pub IsMade : Image → Type 0
IsMade image = IsBegun journal_header image.journal

-- the payload of a fact
abbrev pub fact_payload : Fact → List ℕ
fact_payload fact = entry (spelled_fact fact)

-- the open groups of the file spell this history
pub record SpellsHistory (file : List ℕ) (facts : List Fact) : Type 0 where
  pub groups : groups file ≡ map fact_payload facts
  pub limits : list_all is_fact facts ≡ true

-- the journal of the image has its header and spells these facts
pub record IsJournalOf (image : Image) (facts : List Fact) : Type 0 where
  pub header : HasJournalHeader image
  pub spelled : SpellsHistory image.journal facts
