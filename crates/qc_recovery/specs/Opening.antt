-- How far the reading of a site has come. `g` has the members of the site's trait.
use Rattle.std.specs.Prelude.{◌≡◌, ◌⊎◌, ℕ, ◌+◌, ◌≤◌, List, [], ◌∷◌, ◌++◌, length, filter_map, Bool, true, false, IfOk, OnOk, OnErr, IsErr, IsErrOf, Err}
use Rattle.std.specs.List.{list_all}
use Rattle.std.specs.declared.result.Result.{Result}
use Rattle.qc_base.specs.Spelling.{is_line}
use Rattle.qc_base.specs.declared.fact.Fact.{Fact}
use Rattle.qc_site.specs.declared.site.Site.{Ghosts}
use Rattle.qc_site.specs.declared.site.SiteFile.{SiteFile}
use Rattle.qc_site.specs.declared.site.SiteFile.TheVariants.{Journal, CrmLog}
use Rattle.qc_site.specs.Disk.{written}
use Rattle.qc_site.specs.Image.{Image, with_bytes}
use Rattle.qc_frame.specs.declared.error.Damage.{Damage}
use Rattle.qc_frame.specs.declared.error.LogError.{LogError}
use Rattle.qc_frame.specs.declared.error.LogError.TheVariants.{SiteFault, NotMade, Damaged, NoMemory}
use Rattle.qc_frame.specs.Calls.{LogStands, WritesNothing, KeepsGroups}
use Rattle.qc_frame.specs.Log.{SameLog}
use Rattle.qc_journal.specs.History.{SpellsHistory}
use Rattle.qc_journal.specs.Journal.{log_of, journal_opened}
use Rattle.qc_history.specs.Stands.{IsHistoryOf}
use Rattle.qc_history.specs.Taking.{IsReadAs}
use Rattle.crm_recovery.specs.declared.error.FinishError.{FinishError}
use Rattle.crm_recovery.specs.declared.error.FinishError.TheVariants.{SiteFault as finish_fault, NoMemory as finish_memory}
use Rattle.crm_recovery.specs.Reading.{JustOpened, DamagedLines, SpellsLines}
use Rattle.crm_history.specs.Legal.{is_log_legal}
use Rattle.qc_machine.specs.declared.error.OpenError.{OpenError}
use Rattle.qc_machine.specs.declared.error.OpenError.TheVariants.{SiteFault as site_fault, NotMade as not_made, NoCatalogue as no_first, Damaged as damaged, NoMemory as no_memory}
use Rattle.qc_machine.specs.History.{by_text, no_facts, history_of, goes_on, all_follow}
use Rattle.qc_machine.specs.Opening.{DamagedJournal}
use Rattle.qc_machine.specs.Sites.{HasHeaders, end_gate}
use Rattle.qc_machine.specs.Sound.{ended_by}
use Rattle.qc_recovery.specs.declared.reading.Reading.{Reading}

-- an entry of a file
abbrev pub damage_in : SiteFile → ℕ → Damage
damage_in file at = record { file = file; at = at }

-- why a site can't be recovered where a log of this file can't be read on
abbrev pub as_open_error : SiteFile → LogError → OpenError
as_open_error file SiteFault = site_fault
as_open_error file NotMade = not_made
as_open_error file (Damaged at) = damaged (damage_in file at)
as_open_error file NoMemory = no_memory

-- and where its attempts can't be finished
abbrev pub unfinished_error : FinishError → OpenError
unfinished_error finish_fault = site_fault
unfinished_error finish_memory = no_memory

-- what was read is what these facts settle, beside the numbers of their attempts
pub record HasFacts (facts : List Fact) (given : List ℕ) (r : Reading) : Type 0 where
  pub read : IsReadAs r.history given (history_of by_text facts)
  pub ended : r.ended.items ≡ filter_map ended_by facts

-- nothing was read: both logs stand before their first groups
pub record IsUnread (r : Reading) : Type 0 where
  pub journal : r.journal ≡ journal_opened r.journal.length
  pub log : JustOpened r.log
  pub none : IsHistoryOf r.history no_facts
  pub none_ended : r.ended.items ≡ []

-- whether a fact goes on with the history of these
abbrev pub follows : List Fact → Fact → Bool
follows facts fact = goes_on by_text (history_of by_text facts) fact

-- damage at this offset is told of a fact that doesn't follow those that were read
abbrev pub IsRefused : ℕ → Fact → Result (Unit {0}) OpenError → Reading → List ℕ → Type 0
IsRefused at fact result r numbers = (result ≡ Err (damaged (damage_in Journal at))) × ((facts : List Fact) → HasFacts facts numbers r → follows facts fact ≡ false)

-- A reading goes on with a fact, whose entry has this offset, where it may follow those before it.
pub record TakesFact (at : ℕ) (fact : Fact) (result : Result (Unit {0}) OpenError) (r : Reading) (numbers : List ℕ) (new : Reading) (more : List ℕ) : Type 0 where
  pub taken : OnOk result ((facts : List Fact) → HasFacts facts numbers r → (follows facts fact ≡ true) × HasFacts (facts ++ fact ∷ []) more new)
  pub refused : OnErr result ((result ≡ Err no_memory) ⊎ IsRefused at fact result r numbers)
  pub counted : OnOk result (new.history.facts ≡ r.history.facts + 1)
  pub kept : new ≡ record r { history = new.history; ended = new.ended }

-- the file with a byte 0 as its end gate, and all else as it was
abbrev pub with_closed_gate : List ℕ → List ℕ
with_closed_gate file = written file (end_gate file) (0 ∷ [])

abbrev pub with_closed_journal : Image → Image
with_closed_journal image = with_bytes Journal (with_closed_gate image.journal) image

-- The whole journal was read, and what was read is what its facts settle. Where the site tells, these are the facts that
-- it shows.
pub record HasRead (told : Type 0) (before now : Image) (r : Reading) : Type 0 where
  pub facts : List Fact
  pub numbers : List ℕ
  pub follow : all_follow by_text no_facts facts ≡ true
  pub has : HasFacts facts numbers r
  pub spelled : told → SpellsHistory before.journal facts
  pub closed : told → now ≡ with_closed_journal before
  pub same : told → SameLog before.journal now.journal

module _ {S : Type 0} (g : Ghosts S) where
  -- A call that opens both logs, and gives a reading before the first groups.
  pub record FindsLogs (result : Result Reading OpenError) (site after : S) : Type 0 where
    pub unread : IfOk result IsUnread
    pub journal : IfOk result (λ r. LogStands g (log_of r.journal) after)
    pub log : IfOk result (λ r. LogStands g r.log.log after)
    pub headers : g.told → OnOk result (HasHeaders (g.shown site))
    pub not_made : g.told → IsErrOf result not_made → ¬ HasHeaders (g.shown site)
    pub not_empty : ¬ IsErrOf result no_first
    pub not_damaged : (d : Damage) → ¬ IsErrOf result (damaged d)
    pub writes : WritesNothing g (IsErrOf result site_fault) site after

  -- A call that reads the journal to its end.
  pub record ReadsFacts (result : Result (Unit {0}) OpenError) (r : Reading) (site : S) (new : Reading) (after : S) : Type 0 where
    pub kept : new ≡ record r { journal = new.journal; history = new.history; ended = new.ended }
    pub journal : OnOk result (new.journal ≡ record r.journal { place = new.journal.place; length = new.journal.length; ended = true })
    pub stands : OnOk result (LogStands g (log_of new.journal) after)
    pub counted : OnOk result (new.history.facts ≤ new.journal.place)
    pub read : OnOk result (HasRead g.told (g.shown site) (g.shown after) new)
    pub damaged : g.told → (d : Damage) → IsErrOf result (damaged d) → (d.file ≡ Journal) × DamagedJournal (g.shown site).journal d.at
    pub not_made : ¬ IsErrOf result not_made
    pub not_empty : ¬ IsErrOf result no_first
    pub unchanged : g.told → IsErr result → ¬ IsErrOf result site_fault → g.shown after ≡ g.shown site
    pub keeps : KeepsGroups g (log_of r.journal) (IsErrOf result site_fault) site after

  -- A call that reads the log of compensations to its end, beside the history.
  pub record ReadsLines (result : Result (Unit {0}) OpenError) (r : Reading) (site : S) (new : Reading) (after : S) : Type 0 where
    pub kept : new ≡ record r { log = new.log; lines = new.lines }
    pub log : OnOk result (new.log.log ≡ record r.log.log { place = new.log.log.place; length = new.log.log.length; ended = true })
    pub stands : OnOk result (LogStands g new.log.log after)
    pub legal : OnOk result (is_log_legal r.history.catalogue (length r.history.store.messages) r.ended.items new.lines.items ≡ true)
    pub limits : OnOk result (list_all is_line new.lines.items ≡ true)
    pub spelled : g.told → OnOk result (SpellsLines (g.shown site).crm_log new.lines.items)
    pub damaged : g.told → (d : Damage) → IsErrOf result (damaged d)
        → (d.file ≡ CrmLog) × DamagedLines r.history.catalogue (length r.history.store.messages) r.ended.items (g.shown site).crm_log r.log d.at
    pub not_made : ¬ IsErrOf result not_made
    pub not_empty : ¬ IsErrOf result no_first
    pub unchanged : g.told → IsErr result → ¬ IsErrOf result site_fault → g.shown after ≡ g.shown site
    pub keeps : KeepsGroups g r.log.log (IsErrOf result site_fault) site after
