-- What a call leaves that finishes attempts. `g` has the members of the site's trait.
use Rattle.std.specs.Prelude.{◌≡◌, ℕ, List, ◌++◌, true, OnOk}
use Rattle.std.specs.List.{list_all}
use Rattle.std.specs.declared.result.Result.{Result}
use Rattle.qc_base.specs.Spelling.{is_line}
use Rattle.qc_base.specs.declared.log_line.LogLine.{LogLine}
use Rattle.qc_site.specs.declared.site.Site.{Ghosts}
use Rattle.qc_site.specs.Causes.{HasCause}
use Rattle.qc_site.specs.Image.{Image}
use Rattle.qc_frame.specs.Calls.{LogStands}
use Rattle.qc_entries.specs.Entries.{EntriesView}
use Rattle.qc_catalogue.specs.declared.catalogue.Catalogue.{Catalogue}
use Rattle.qc_catalogue.specs.Rows.{has_its_phases}
use Rattle.crm_log.specs.Log.{IsLogOf}
use Rattle.crm_driver.specs.Puts.{RowPut}
use Rattle.crm_history.specs.declared.ended.Ended.{Ended}
use Rattle.crm_history.specs.Legal.{is_log_legal}
use Rattle.crm_recovery.specs.Settling.{rows_after}

-- What is known of lines that were read: they are within their limits, and are a legal log of a site with this catalogue
-- and these attempts that ended. Each resource of the catalogue hears of the phases that it needs.
pub record CanFinish (c : Catalogue) (ended : List Ended) (lines : List LogLine) : Type 0 where
  pub phases : list_all has_its_phases c.resources ≡ true
  pub limits : list_all is_line lines ≡ true
  pub sent : ℕ
  pub legal : is_log_legal c sent ended lines ≡ true

-- what is shown has these puts and, behind the groups of the log, these groups of lines; the other files are as they were
pub record ShowsFinished (puts : List RowPut) (done : List (List LogLine)) (old new : Image) : Type 0 where
  pub rows : new.rows ≡ rows_after puts old.rows
  pub log : (groups : List (List LogLine)) → IsLogOf old groups → IsLogOf new (groups ++ done)
  pub journal : new.journal ≡ old.journal
  pub snap : new.snap ≡ old.snap

-- the log is the one that was, but for where it ends and how much room it has
abbrev pub IsSameLog : EntriesView → EntriesView → Type 0
IsSameLog old new = new ≡ record old { log = record old.log { place = new.log.place; length = new.log.length; spare = new.log.spare } }

module _ {S : Type 0} (g : Ghosts S) where
  -- A call that makes these puts, and adds these groups of lines to the log. It failed only where the site's count rose.
  pub record Finishes {A E : Type 0} (puts : List RowPut) (done : List (List LogLine)) (failed : Type 0)
      (result : Result A E) (log : EntriesView) (site : S) (new : EntriesView) (after : S) : Type 0 where
    pub shown : g.told → OnOk result (ShowsFinished puts done (g.shown site) (g.shown after))
    pub kept : OnOk result (IsSameLog log new)
    pub stands : OnOk result (LogStands g new.log after)
    pub cause : HasCause (g.faults site) (g.faults after) failed
