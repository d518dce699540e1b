-- What a recovery leaves of a site. `g` has the members of the site's trait.
use Rattle.std.specs.Prelude.{◌≡◌, ◌⊎◌, ◌≤◌, ℕ, List, [], ◌++◌, length, map, true, IfOk, IfErr, OnOk, IsErrOf}
use Rattle.std.specs.List.{list_all}
use Rattle.std.specs.declared.result.Result.{Result}
use Rattle.qc_base.specs.Spelling.{is_line}
use Rattle.qc_base.specs.Rows.{OutsideRows}
use Rattle.qc_base.specs.declared.fact.Fact.{Fact}
use Rattle.qc_base.specs.declared.log_line.LogLine.{LogLine}
use Rattle.qc_site.specs.Causes.{HasCause}
use Rattle.qc_site.specs.declared.site.Site.{Ghosts}
use Rattle.qc_site.specs.declared.site.SiteFile.{SiteFile}
use Rattle.qc_site.specs.declared.site.SiteFile.TheVariants.{Journal, CrmLog, Snap}
use Rattle.qc_site.specs.Disk.{Certain, Images, LeavesOnly}
use Rattle.qc_site.specs.Image.{Image}
use Rattle.qc_frame.specs.declared.error.Damage.{Damage}
use Rattle.qc_frame.specs.Calls.{LogStands}
use Rattle.qc_frame.specs.Frame.{groups}
use Rattle.qc_entries.specs.Entries.{EntriesView}
use Rattle.qc_journal.specs.History.{SpellsHistory}
use Rattle.qc_journal.specs.Journal.{JournalView, log_of}
use Rattle.qc_history.specs.Stands.{IsHistoryOf}
use Rattle.qc_history.specs.View.{HistoryView}
use Rattle.crm_log.specs.Log.{all_lines}
use Rattle.crm_recovery.specs.Moments.{Finish, finishes, LeavesFinishes}
use Rattle.crm_recovery.specs.Reading.{JustOpened, DamagedLines}
use Rattle.crm_recovery.specs.Settling.{done_group, done_groups, recoveries}
use Rattle.qc_machine.specs.declared.error.OpenError.{OpenError}
use Rattle.qc_machine.specs.declared.error.OpenError.TheVariants.{SiteFault, NotMade, NoCatalogue, Damaged, NoMemory}
use Rattle.qc_machine.specs.History.{History, by_text, history_of, is_legal}
use Rattle.qc_machine.specs.Opening.{DamagedJournal}
use Rattle.qc_machine.specs.Sites.{HasHeaders, SameSite, LeavesSame}
use Rattle.qc_machine.specs.Sound.{ended_in, is_log_of, settled_by_log}
use Rattle.qc_recovery.specs.declared.parts.Parts.{Parts}
use Rattle.qc_recovery.specs.declared.reading.Reading.{Reading}
use Rattle.qc_recovery.specs.Opening.{with_closed_gate, with_closed_journal}
use Rattle.qc_recovery.specs.Stands.{AreKept, IsRecovered, Spells, StandsFor, greatest_attempt}

-- the journal spells a legal history, beside which the log of compensations stops being one at this offset
pub record DamagedLog (image : Image) (at : ℕ) : Type 0 where
  pub facts : List Fact
  pub spelled : SpellsHistory image.journal facts
  pub legal : is_legal by_text facts ≡ true
  pub start : EntriesView
  pub opened : JustOpened start
  pub unfit : DamagedLines (history_of by_text facts).catalogue (length (history_of by_text facts).messages)
      (ended_in (history_of by_text facts)) image.crm_log start at

-- the first entry that doesn't fit, the journal's before the other's
abbrev pub DamagedAt : Image → Damage → Type 0
DamagedAt image d = ((d.file ≡ Journal) × DamagedJournal image.journal d.at) ⊎ ((d.file ≡ CrmLog) × DamagedLog image d.at)

-- why a site isn't recovered
abbrev pub WhyNot : Image → OpenError → Type 0
WhyNot image SiteFault = Unit {0}
WhyNot image NotMade = ¬ HasHeaders image
WhyNot image NoCatalogue = HasHeaders image × (groups image.journal ≡ [])
WhyNot image (Damaged d) = HasHeaders image × DamagedAt image d
WhyNot image NoMemory = Unit {0}

-- What is shown then: the journal was read to its end, where its gate is closed, before it was found empty, and before
-- the other log was read. After a fault or want of memory attempts may be finished, as at any moment.

abbrev pub LeavesDamaged : SiteFile → Image → Image → Type 0
LeavesDamaged Journal before now = now ≡ before
LeavesDamaged CrmLog before now = now ≡ with_closed_journal before
LeavesDamaged Snap before now = ⊥

abbrev pub LeavesUnread : OpenError → Image → Image → Type 0
LeavesUnread SiteFault before now = Unit {0}
LeavesUnread NotMade before now = now ≡ before
LeavesUnread NoCatalogue before now = now ≡ with_closed_journal before
LeavesUnread (Damaged d) before now = LeavesDamaged d.file before now
LeavesUnread NoMemory before now = Unit {0}

-- both logs are at their ends, with nothing waiting, and each of the facts that are counted has its place
pub record AreAtEnds (journal : JournalView) (log : EntriesView) (history : HistoryView) : Type 0 where
  pub whole : journal.start ≡ 16
  pub ended : journal.ended ≡ true
  pub file : log.log.file ≡ CrmLog
  pub log_whole : log.log.start ≡ 16
  pub log_ended : log.log.ended ≡ true
  pub none_wait : log.log.payload ≡ []
  pub counted : history.facts ≤ journal.place

-- these facts are a legal history, which is kept, and these lines a legal log beside it
pub record AreRead (facts : List Fact) (lines : List LogLine) (history : HistoryView) : Type 0 where
  pub legal : is_legal by_text facts ≡ true
  pub kept : IsHistoryOf history (history_of by_text facts)
  pub beside : is_log_of (history_of by_text facts) lines ≡ true
  pub limits : list_all is_line lines ≡ true

-- what is told of the attempts that these lines leave unfinished, and the greatest number of an attempt
pub record AreTold (facts : List Fact) (lines : List LogLine) (parts : Parts) : Type 0 where
  pub recovered : parts.recovered.items ≡ recoveries (ended_in (history_of by_text facts)) lines
  pub attempt : parts.attempt ≡ greatest_attempt (history_of by_text facts) lines

-- The image spells these facts and lines, and the next one spells the same, but for what stands behind the groups.
pub record IsReadSite (facts : List Fact) (lines : List LogLine) (before now : Image) : Type 0 where
  pub log : List (List LogLine)
  pub is : lines ≡ all_lines log
  pub spells : Spells by_text before facts log
  pub same : SameSite before now
  pub journal : now.journal ≡ with_closed_gate before.journal

-- The image spells these facts and lines. The next one has the journal with its end gate closed, a line Done more for
-- each attempt that was unfinished, and the rows as the log settles them.
pub record GoesOnRecovered (facts : List Fact) (lines : List LogLine) (before now : Image) : Type 0 where
  pub log : List (List LogLine)
  pub is : lines ≡ all_lines log
  pub spells : Spells by_text before facts log
  pub spells_done : Spells by_text now facts (log ++ done_groups lines)
  pub journal : now.journal ≡ with_closed_gate before.journal
  pub rows : now.rows ≡ settled_by_log (history_of by_text facts) lines before.rows
  pub snap : now.snap ≡ before.snap

abbrev pub finishes_of : History → List LogLine → List Finish
finishes_of h lines = finishes h.catalogue (ended_in h) lines

-- one of these images, but for what stands behind the groups of its logs, which spells these facts and groups of lines
pub record WasRead (facts : List Fact) (log : List (List LogLine)) (before : Images) (c : Image) : Type 0 where
  pub left : LeavesSame before c
  pub spells : Spells by_text c facts log

-- a line Done for each of these attempts, as a group of its own
abbrev pub groups_done : List Finish → List (List LogLine)
groups_done finishes = map (λ (f : Finish). done_group f.attempt) finishes

-- The image that is shown spells these facts and lines. An image is one of those before that spells them too, gone on by
-- a front of the attempts that the lines leave unfinished, and by the begin of the next: so it spells the same facts, and
-- a line Done more for each attempt of that front.
pub record LeavesBegun (shown : Image) (before : Images) (c : Image) : Type 0 where
  pub facts : List Fact
  pub log : List (List LogLine)
  pub spells : Spells by_text shown facts log
  pub left : LeavesFinishes shown.rows (finishes_of (history_of by_text facts) (all_lines log)) (WasRead facts log before) c
  pub now : Spells by_text c facts (log ++ groups_done left.done)

-- until the end of the reading an image has the groups, the rows and the snapshot of one before, and from then on it is
-- one of these, gone on by finished attempts
abbrev pub LeavesRecovered : Image → Images → Images
LeavesRecovered shown before c = LeavesSame before c ⊎ LeavesBegun shown before c

-- each of these images has these outside rows
abbrev pub HaveRows : OutsideRows → Images → Type 0
HaveRows rows images = (c : Image) → images c → c.rows ≡ rows

-- each image has both logs as they are shown, and the outside rows too where each image before had those shown then
pub record AreCertain (shown : Image) (before : Images) (now : Image) (after : Images) : Type 0 where
  pub journal : Certain Journal now.journal after
  pub log : Certain CrmLog now.crm_log after
  pub rows : HaveRows shown.rows before → HaveRows now.rows after

-- an image stands for the history that one of these stands for
pub record LeavesKept (before : Images) (c : Image) : Type 0 where
  pub was : Image
  pub there : before was
  pub facts : List Fact
  pub stood : StandsFor by_text was facts
  pub stands : StandsFor by_text c facts

module _ {S : Type 0} (g : Ghosts S) where
  -- what of a reading holds over any site
  pub record HasReadSite (site : S) (r : Reading) (after : S) : Type 0 where
    pub journal : LogStands g (log_of r.journal) after
    pub log : LogStands g r.log.log after
    pub ends : AreAtEnds r.journal r.log r.history
    pub facts : List Fact
    pub ended : r.ended.items ≡ ended_in (history_of by_text facts)
    pub read : AreRead facts r.lines.items r.history
    pub shown : g.told → IsReadSite facts r.lines.items (g.shown site) (g.shown after)

  -- A call that reads both logs of a site to their ends.
  pub record ReadsSite (result : Result Reading OpenError) (site after : S) : Type 0 where
    pub read : IfOk result (λ r. HasReadSite site r after)
    pub why : g.told → IfErr result (WhyNot (g.shown site))
    pub unread : g.told → IfErr result (λ e. LeavesUnread e (g.shown site) (g.shown after))
    pub any_moment : g.told → LeavesOnly g.moment g.left_since site after (LeavesSame (g.may_leave site))
    pub cause : HasCause (g.faults site) (g.faults after) (IsErrOf result SiteFault)

  -- the parts stand on the site, whatever that tells, and where it tells it is recovered
  pub record HasRecovered (site : S) (parts : Parts) (after : S) : Type 0 where
    pub journal : LogStands g (log_of parts.journal) after
    pub log : LogStands g parts.log.log after
    pub ends : AreAtEnds parts.journal parts.log parts.history
    pub facts : List Fact
    pub lines : List LogLine
    pub read : AreRead facts lines parts.history
    pub tells : AreTold facts lines parts
    pub shown : g.told → GoesOnRecovered facts lines (g.shown site) (g.shown after)

  -- Each image before stood for a history. A crash at any moment leaves an image that stands for one of these, so that
  -- it can be recovered again, and after Ok each image is recovered for the history of the site.
  pub record KeepsHistories (result : Result Parts OpenError) (site after : S) : Type 0 where
    pub any_moment : LeavesOnly g.moment g.left_since site after (LeavesKept (g.may_leave site))
    pub recovered : OnOk result ((facts : List Fact) → StandsFor by_text (g.shown site) facts → (c : Image) → g.may_leave after c → IsRecovered c facts)

  -- A call that recovers a site. Where the site stood for a history, it is then recovered for the same one.
  pub record Recovers (result : Result Parts OpenError) (site after : S) : Type 0 where
    pub recovered : IfOk result (λ parts. HasRecovered site parts after)
    pub settled : g.told → OnOk result ((facts : List Fact) → StandsFor by_text (g.shown site) facts → IsRecovered (g.shown after) facts)
    pub certain : g.told → OnOk result (AreCertain (g.shown site) (g.may_leave site) (g.shown after) (g.may_leave after))
    pub why : g.told → IfErr result (WhyNot (g.shown site))
    pub unread : g.told → IfErr result (λ e. LeavesUnread e (g.shown site) (g.shown after))
    pub any_moment : g.told → LeavesOnly g.moment g.left_since site after (LeavesRecovered (g.shown site) (g.may_leave site))
    pub kept : g.told → AreKept (g.may_leave site) → KeepsHistories result site after
    pub cause : HasCause (g.faults site) (g.faults after) (IsErrOf result SiteFault)
