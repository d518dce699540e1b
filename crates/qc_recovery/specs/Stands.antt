-- The history that a site with a log of compensations stands for, and what a recovered site is.
use Rattle.std.specs.Prelude.{◌≡◌, ℕ, List, [], ◌++◌, map, true}
use Rattle.qc_base.specs.declared.fact.Fact.{Fact}
use Rattle.qc_base.specs.declared.log_line.LogLine.{LogLine}
use Rattle.qc_base.specs.LogLines.{attempt_of_line, unfinished}
use Rattle.qc_site.specs.Disk.{Images}
use Rattle.qc_site.specs.Image.{Image}
use Rattle.qc_journal.specs.History.{SpellsHistory}
use Rattle.qc_rows.specs.Outside.{outside_amount}
use Rattle.crm_log.specs.Log.{SpellsLog, all_lines}
use Rattle.qc_history.specs.Stands.{attempts_in}
use Rattle.qc_machine.specs.Attempts.{greatest}
use Rattle.qc_machine.specs.History.{Reader, History, by_text, history_of, is_legal}
use Rattle.qc_machine.specs.Sites.{HasHeaders}
use Rattle.qc_machine.specs.Sound.{is_log_of, IsSound}

-- both logs have their headers, the journal's groups spell these facts, which are a legal history, and CrmLog's groups
-- spell these groups of lines, which are a legal log beside it
pub record Spells (read : Reader) (image : Image) (facts : List Fact) (log : List (List LogLine)) : Type 0 where
  pub headers : HasHeaders image
  pub facts_spelled : SpellsHistory image.journal facts
  pub legal : is_legal read facts ≡ true
  pub lines_spelled : SpellsLog image.crm_log log
  pub beside : is_log_of (history_of read facts) (all_lines log) ≡ true

-- The image stands for these facts: they agree with the lines that it spells, and with its outside rows.
pub record StandsFor (read : Reader) (image : Image) (facts : List Fact) : Type 0 where
  pub log : List (List LogLine)
  pub spells : Spells read image facts log
  pub sound : IsSound (history_of read facts) (all_lines log) image.rows

-- each of these images stands for a history
abbrev pub AreKept : Images → Type 0
AreKept images = (c : Image) → images c → (facts : List Fact) × StandsFor by_text c facts

-- The image stands for these facts, no attempt is unfinished, and each outside row is as the history settles it.
pub record IsRecovered (image : Image) (facts : List Fact) : Type 0 where
  pub stands : StandsFor by_text image facts
  pub finished : unfinished (all_lines stands.log) ≡ []
  pub settled : (resource key : List ℕ) → image.rows resource key ≡ outside_amount (history_of by_text facts).outside resource key

-- the greatest number of an attempt in facts and lines, or 0
abbrev pub greatest_attempt : History → List LogLine → ℕ
greatest_attempt h lines = greatest (attempts_in h ++ map attempt_of_line lines)
