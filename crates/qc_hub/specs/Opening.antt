-- How far an opening has come.
use Rattle.std.specs.Prelude.{◌≡◌, ◌≢◌, ◌⊎◌, ℕ, ◌+◌, ◌≤◌, Bool, List, [], ◌∷◌, ◌++◌, true, false, IfOk, OnOk, OnErr, IsErr, IsErrOf, Err}
use Rattle.std.specs.declared.result.Result.{Result}
use Rattle.qc_base.specs.declared.fact.Fact.{Fact}
use Rattle.qc_site.specs.declared.site.Site.{Ghosts}
use Rattle.qc_site.specs.declared.site.SiteFile.TheVariants.{Journal, CrmLog}
use Rattle.qc_site.specs.Image.{Image, with_bytes}
use Rattle.qc_frame.specs.declared.error.LogError.{LogError}
use Rattle.qc_frame.specs.declared.error.LogError.TheVariants.{SiteFault, NotMade, Damaged, NoMemory}
use Rattle.qc_frame.specs.Calls.{LogStands, WritesNothing, KeepsGroups}
use Rattle.qc_frame.specs.Frame.{groups}
use Rattle.qc_frame.specs.Log.{SameLog, just_opened}
use Rattle.qc_journal.specs.History.{SpellsHistory}
use Rattle.qc_journal.specs.Journal.{log_of, journal_opened}
use Rattle.qc_frame.specs.declared.error.Damage.{Damage}
use Rattle.qc_history.specs.Stands.{IsHistoryOf}
use Rattle.qc_history.specs.Taking.{IsReadAs}
use Rattle.qc_machine.specs.declared.error.OpenError.{OpenError}
use Rattle.qc_machine.specs.declared.error.OpenError.TheVariants.{SiteFault as site_fault, NotMade as not_made, NoCatalogue as no_first, Damaged as damaged, NoMemory as no_memory}
use Rattle.qc_machine.specs.declared.limits.Limits.{Limits}
use Rattle.qc_machine.specs.History.{by_text, no_facts, history_of, goes_on, all_follow}
use Rattle.qc_machine.specs.Opening.{DamagedJournal}
use Rattle.qc_machine.specs.Sites.{HasHeaders, file_end, no_clients, no_players}
use Rattle.qc_players.specs.Players.{players_of}
use Rattle.qc_hub.specs.declared.hub.Hub.{Hub}
use Rattle.qc_hub.specs.Calls.{with_closed_gate, with_closed_journal}

-- an entry of the journal
abbrev pub damage_at : ℕ → Damage
damage_at at = record { file = Journal; at = at }

-- the first entry of the log of compensations
abbrev pub log_used : Damage
log_used = record { file = CrmLog; at = 21 }

-- why a site can't be opened where one of its logs can't be read on, by where the damage counts
abbrev pub as_open_error : (ℕ → Damage) → LogError → OpenError
as_open_error place SiteFault = site_fault
as_open_error place NotMade = not_made
as_open_error place (Damaged at) = damaged (place at)
as_open_error place NoMemory = no_memory

abbrev pub in_journal : LogError → OpenError
in_journal = as_open_error damage_at

-- each group of the log of compensations is one too many
abbrev pub in_log : LogError → OpenError
in_log = as_open_error (λ at. log_used)

-- the hub has what these facts settle, beside the numbers of their attempts
abbrev pub HasFacts : List Fact → List ℕ → Hub → Type 0
HasFacts facts numbers hub = IsReadAs hub.history numbers (history_of by_text facts)

-- a hub that stands before the first groups of its logs
pub record IsUnread (limits : Limits) (hub : Hub) : Type 0 where
  pub journal : hub.journal ≡ record (journal_opened hub.journal.length) { spare = hub.journal.spare }
  pub room : 30 ≤ hub.journal.spare
  pub log : hub.log ≡ just_opened CrmLog 16 hub.log.length
  pub none : IsHistoryOf hub.history no_facts
  pub clients : hub.clients ≡ no_clients
  pub players : players_of hub.players ≡ no_players
  pub limited : hub.limits ≡ limits
  pub in_fault : hub.in_fault ≡ false

-- whether a fact goes on with the history of these
abbrev pub follows : List Fact → Fact → Bool
follows facts fact = goes_on by_text (history_of by_text facts) fact

-- damage at this offset is told of a fact that doesn't follow those that the hub has
abbrev pub IsRefused : ℕ → Fact → Result (Unit {0}) OpenError → Hub → List ℕ → Type 0
IsRefused at fact result hub numbers = (result ≡ Err (damaged (damage_at at))) × ((facts : List Fact) → HasFacts facts numbers hub → follows facts fact ≡ false)

-- A hub goes on with a fact, whose entry has this offset, where it may follow those before it.
pub record TakesFact (at : ℕ) (fact : Fact) (result : Result (Unit {0}) OpenError) (hub : Hub) (numbers : List ℕ) (new : Hub) (more : List ℕ) : Type 0 where
  pub taken : OnOk result ((facts : List Fact) → HasFacts facts numbers hub → (follows facts fact ≡ true) × HasFacts (facts ++ fact ∷ []) more new)
  pub refused : OnErr result ((result ≡ Err no_memory) ⊎ IsRefused at fact result hub numbers)
  pub counted : OnOk result (new.history.facts ≡ hub.history.facts + 1)
  pub kept : new ≡ record hub { history = new.history }

-- a log was read to its end, where its gate is closed, and stands there
pub record HasEnded (file now : List ℕ) (place size : ℕ) : Type 0 where
  pub same : SameLog file now
  pub end : file_end file ≡ record { gate = place; size = size }
  pub end_now : file_end now ≡ record { gate = place; size = size }

-- The hub has read the whole journal, and has what its facts settle. Where the site tells, these are the facts that it
-- shows.
pub record HasRead (told : Type 0) (before now : Image) (hub : Hub) : Type 0 where
  pub facts : List Fact
  pub numbers : List ℕ
  pub follow : all_follow by_text no_facts facts ≡ true
  pub has : HasFacts facts numbers hub
  pub spelled : told → SpellsHistory before.journal facts
  pub closed : told → now ≡ with_closed_journal before
  pub ended : told → HasEnded before.journal now.journal hub.journal.place hub.journal.length

-- the hub has found the log of compensations without groups
pub record HasReadLog (before now : Image) (hub : Hub) : Type 0 where
  pub none : groups before.crm_log ≡ []
  pub closed : now ≡ with_bytes CrmLog (with_closed_gate before.crm_log) before
  pub ended : HasEnded before.crm_log now.crm_log hub.log.place hub.log.length

module _ {S : Type 0} (g : Ghosts S) where
  -- A call that opens both logs, and gives a hub before the first groups.
  pub record FindsLogs (limits : Limits) (result : Result Hub OpenError) (site after : S) : Type 0 where
    pub unread : IfOk result (IsUnread limits)
    pub journal : IfOk result (λ hub. LogStands g (log_of hub.journal) after)
    pub log : IfOk result (λ hub. LogStands g hub.log after)
    pub headers : g.told → OnOk result (HasHeaders (g.shown site))
    pub not_made : g.told → IsErrOf result not_made → ¬ HasHeaders (g.shown site)
    pub not_empty : ¬ IsErrOf result no_first
    pub not_damaged : (d : Damage) → ¬ IsErrOf result (damaged d)
    pub writes : WritesNothing g (IsErrOf result site_fault) site after

  -- A call that reads the journal to its end.
  pub record ReadsFacts (result : Result (Unit {0}) OpenError) (hub : Hub) (site : S) (new : Hub) (after : S) : Type 0 where
    pub kept : new ≡ record hub { journal = new.journal; history = new.history; last = new.last }
    pub journal : OnOk result (new.journal ≡ record hub.journal { place = new.journal.place; length = new.journal.length; ended = true })
    pub stands : OnOk result (LogStands g (log_of new.journal) after)
    pub counted : OnOk result (new.history.facts ≤ new.journal.place)
    pub last : OnOk result (new.last ≡ new.history.last)
    pub read : OnOk result (HasRead g.told (g.shown site) (g.shown after) new)
    pub damaged : g.told → (d : Damage) → IsErrOf result (damaged d) → (d.file ≡ Journal) × DamagedJournal (g.shown site).journal d.at
    pub not_made : ¬ IsErrOf result not_made
    pub not_empty : ¬ IsErrOf result no_first
    pub unchanged : g.told → IsErr result → ¬ IsErrOf result site_fault → g.shown after ≡ g.shown site
    pub keeps : KeepsGroups g (log_of hub.journal) (IsErrOf result site_fault) site after

  -- A call that reads the log of compensations, which is at its end.
  pub record FindsNoLine (result : Result (Unit {0}) OpenError) (hub : Hub) (site : S) (new : Hub) (after : S) : Type 0 where
    pub kept : new ≡ record hub { log = new.log }
    pub log : OnOk result (new.log ≡ record hub.log { length = new.log.length; ended = true })
    pub stands : OnOk result (LogStands g new.log after)
    pub read : g.told → OnOk result (HasReadLog (g.shown site) (g.shown after) new)
    pub damaged : g.told → (d : Damage) → IsErrOf result (damaged d) → (d ≡ log_used) × (groups (g.shown site).crm_log ≢ [])
    pub not_made : ¬ IsErrOf result not_made
    pub not_empty : ¬ IsErrOf result no_first
    pub unchanged : g.told → IsErr result → ¬ IsErrOf result site_fault → g.shown after ≡ g.shown site
    pub keeps : KeepsGroups g hub.log (IsErrOf result site_fault) site after
