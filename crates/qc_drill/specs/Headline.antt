-- What a drill says of the bytes that it wrote, and of the site that it leaves.
use Rattle.std.specs.Prelude.{◌≡◌, ◌⊎◌, ℕ, List, [], ◌++◌, Option, Bool, true, false}
use Rattle.qc_protocol.specs.declared.status.Status.{Status}
use Rattle.qc_protocol.specs.declared.status.Status.TheVariants.{Done, BadWords, SourceFault, SinkFault, SiteFault, NotMade, NoCatalogue, AlreadyMade, BadCatalogue, Damaged, InputLong, NoMemory}
use Rattle.qc_protocol.specs.Texts.{lines_of}
use Rattle.qc_site.specs.declared.site.Site.{Ghosts}
use Rattle.qc_site.specs.Disk.{Images, LeavesOnly}
use Rattle.qc_site.specs.Image.{Image}
use Rattle.qc_machine.specs.declared.limits.Limits.{Limits}
use Rattle.qc_machine.specs.Sites.{ReadsAs, IsSiteOf, Stays, LeavesSame}
use Rattle.qc_machine.specs.State.{State}
use Rattle.qc_drill.specs.Crash.{IsAnswered, StopsOpening, LeavesOpened}
use Rattle.qc_drill.specs.Drill.{out_of_lines, after_lines, opened_out}
use Rattle.qc_drill.specs.Fronts.{IsFrontOf, Wrote}
use Rattle.qc_drill.specs.Reads.{HasRead}
use Rattle.qc_drill.specs.Unopened.{LeavesUnread}

-- the limits of the programs
abbrev pub programs_limits : Limits
programs_limits = record { log_bytes = 1099511627776; live = 20000 }

-- what a drill writes that answers these lines, and the same for all lines of these bytes, with the state after them

abbrev pub drill_out : State → List (List ℕ) → List ℕ
drill_out s lines = opened_out s ++ out_of_lines s lines

abbrev pub run_out : State → List ℕ → List ℕ
run_out s bytes = drill_out s (lines_of bytes)

abbrev pub run_to : State → List ℕ → State
run_to s bytes = after_lines s (lines_of bytes)

-- The text that was written for these lines, by the status. No other status comes.
abbrev pub WritesReplies : State → List (List ℕ) → List ℕ → Status → Type 0
WritesReplies s lines text Done = text ≡ drill_out s lines
WritesReplies s lines text InputLong = text ≡ drill_out s lines
WritesReplies s lines text SourceFault = text ≡ drill_out s lines
WritesReplies s lines text SinkFault = IsFrontOf (drill_out s lines) text
WritesReplies s lines text SiteFault = IsFrontOf (drill_out s lines) text
WritesReplies s lines text NoMemory = IsFrontOf (drill_out s lines) text
WritesReplies s lines text _ = ⊥

-- all else is as before, and the site is one of this state
pub record LeavesSite (before now : Image) (s : State) : Type 0 where
  pub others : Stays before now
  pub site : IsSiteOf now s

abbrev pub LeavesState : State → List (List ℕ) → Image → Image → Status → Type 0
LeavesState s lines before now Done = LeavesSite before now (after_lines s lines)
LeavesState s lines before now InputLong = LeavesSite before now (after_lines s lines)
LeavesState s lines before now SourceFault = LeavesSite before now (after_lines s lines)
LeavesState s lines before now _ = Unit {0}

-- What is acknowledged, by the status: the opening alone can have ended in a site fault or in want of memory.
abbrev pub IsAcknowledged : State → List (List ℕ) → List ℕ → Images → Images → Status → Type 0
IsAcknowledged s lines text before now SiteFault = IsAnswered s lines text now ⊎ StopsOpening s text before now
IsAcknowledged s lines text before now NoMemory = IsAnswered s lines text now ⊎ StopsOpening s text before now
IsAcknowledged s lines text before now _ = IsAnswered s lines text now

-- the statuses that a drill has
abbrev pub is_of_drill : Status → Bool
is_of_drill Done = true
is_of_drill SourceFault = true
is_of_drill SinkFault = true
is_of_drill SiteFault = true
is_of_drill NotMade = true
is_of_drill NoCatalogue = true
is_of_drill Damaged = true
is_of_drill InputLong = true
is_of_drill NoMemory = true
is_of_drill _ = false

-- the statuses of the commands that are built
abbrev pub is_of_run : Status → Bool
is_of_run BadWords = true
is_of_run AlreadyMade = true
is_of_run BadCatalogue = true
is_of_run status = is_of_drill status

-- the statuses of a drill on a site that stands for a legal history, where nothing failed
abbrev pub is_unfailed : Status → Bool
is_unfailed Done = true
is_unfailed InputLong = true
is_unfailed NoMemory = true
is_unfailed _ = false

-- the statuses that a drill has where a header differs
abbrev pub is_unmade : Status → Bool
is_unmade NotMade = true
is_unmade SiteFault = true
is_unmade NoMemory = true
is_unmade _ = false

-- the statuses that a drill has where the headers are right and the journal has no group
abbrev pub is_empty_site : Status → Bool
is_empty_site NoCatalogue = true
is_empty_site SiteFault = true
is_empty_site NoMemory = true
is_empty_site _ = false

module _ {S : Type 0} (g : Ghosts S) where
  -- A drill on a site that is read as the state s, over these lines: the text, the site at the end, what is
  -- acknowledged, and what a crash at any moment leaves.
  pub record RunsFrom (s : State) (lines : List (List ℕ)) (text : List ℕ) (status : Status) (site after : S) : Type 0 where
    pub replies : WritesReplies s lines text status
    pub leaves : LeavesState s lines (g.shown site) (g.shown after) status
    pub acknowledged : IsAcknowledged s lines text (g.may_leave site) (g.may_leave after) status
    pub any_moment : LeavesOnly g.moment g.left_since site after (LeavesOpened (g.may_leave site) s lines)

  -- A drill on a site that stands for no legal history: nothing is taken or written but the line on damage, and a crash
  -- at any moment leaves the groups that were there.
  pub record RunsNowhere (taken text : List ℕ) (status : Status) (site after : S) : Type 0 where
    pub untaken : taken ≡ []
    pub leaves : LeavesUnread (g.shown site) text status (g.shown after)
    pub any_moment : LeavesOnly g.moment g.left_since site after (LeavesSame (g.may_leave site))

  -- A drill that ended so. Whatever is told, some bytes were taken from the source, some lines were read of them, and
  -- some text was added to the sink. Where the site tells, text and site are those of the lines.
  pub record Drills (status : Status) (site : S) (left contents : Option (List ℕ)) (after : S) (left_now now : Option (List ℕ)) : Type 0 where
    pub kinds : is_of_drill status ≡ true
    pub taken : List ℕ
    pub lines : List (List ℕ)
    pub text : List ℕ
    pub read : HasRead status left left_now taken lines
    pub wrote : Wrote text contents now
    pub opened : g.told → status ≡ Done → (s : State) × ReadsAs programs_limits (g.shown site) s
    pub runs : g.told → (s : State) → ReadsAs programs_limits (g.shown site) s → RunsFrom s lines text status site after
    pub nowhere : g.told → ((s : State) → ¬ ReadsAs programs_limits (g.shown site) s) → RunsNowhere taken text status site after
