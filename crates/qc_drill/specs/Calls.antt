-- What the calls of a drill leave of its hub, its site, its source and its sink. `g` has the members of the site's
-- trait.
use Rattle.std.specs.Prelude.{◌≡◌, ◌≤◌, ◌<◌, ℕ, List, [], length, take, Option, Some, Result, Vec, IfOk, OnOk, IsErrOf}
use Rattle.std.specs.declared.alloc.Global.{Global}
use Rattle.qc_protocol.specs.Texts.{pieces_of}
use Rattle.qc_site.specs.declared.site.Site.{Ghosts}
use Rattle.qc_site.specs.Causes.{HasCause}
use Rattle.qc_site.specs.Disk.{LeavesOnly}
use Rattle.qc_machine.specs.Sites.{IsSiteOf, Stays, LeavesOneOf}
use Rattle.qc_machine.specs.State.{State}
use Rattle.qc_hub.specs.declared.error.HubError.{HubError}
use Rattle.qc_hub.specs.declared.error.HubError.TheVariants.{SiteFault as hub_fault, NoMemory as hub_memory}
use Rattle.qc_hub.specs.declared.hub.Hub.{Hub}
use Rattle.qc_hub.specs.Calls.{LeavesStanding}
use Rattle.qc_hub.specs.Stands.{IsHubOf}
use Rattle.qc_drill.specs.declared.piece.Piece.{Piece}
use Rattle.qc_drill.specs.declared.stop.Stop.{Stop}
use Rattle.qc_drill.specs.declared.stop.Stop.TheVariants.{SourceFault, SinkFault, SiteFault, InputLong}
use Rattle.qc_drill.specs.Crash.{IsAround, LeavesFront, StopsBetween}
use Rattle.qc_drill.specs.Drill.{out_of_lines, after_lines}
use Rattle.qc_drill.specs.Fronts.{Wrote, Took}
use Rattle.qc_drill.specs.Holds.{Holds, behind}
use Rattle.qc_drill.specs.Progress.{AnswersLine, MayStand}
use Rattle.qc_drill.specs.Reads.{HasRead, chunk}
use Rattle.qc_drill.specs.Stops.{AnswersAll, ended_as}

module _ {S : Type 0} (g : Ghosts S) where
  -- A line is answered from the state s: after Ok the text, the hub and the site are those of its step, and a crash at
  -- any moment of the call leaves a site of a state around the line.
  pub record AnswersFrom (s : State) (line : List ℕ) (result : Result (Vec ℕ Global) HubError) (site : S) (new : Hub) (after : S) : Type 0 where
    pub text : IfOk result (λ v. AnswersLine s line new (g.shown after) v.items)
    pub no_memory : IsErrOf result hub_memory → MayStand s line new (g.shown after)
    pub others : ¬ IsErrOf result hub_fault → Stays (g.shown site) (g.shown after)
    pub any_moment : LeavesOnly g.moment g.left_since site after (LeavesOneOf (g.may_leave site) (IsAround s line))

  -- these lines are answered from the state s by this text
  pub record Answered (s : State) (lines : List (List ℕ)) (text : List ℕ) (site : S) (new : Hub) (after : S) : Type 0 where
    pub replies : text ≡ out_of_lines s lines
    pub is_in : IsHubOf new (after_lines s lines)
    pub on_site : IsSiteOf (g.shown after) (after_lines s lines)
    pub others : Stays (g.shown site) (g.shown after)

  -- From the state s this was written for these lines: all replies, or it stops between two of them. A crash at any
  -- moment leaves the history after a front of the lines.
  pub record LinesFrom (s : State) (lines : List (List ℕ)) (text : List ℕ) (whole : Type 0) (site : S) (new : Hub) (after : S) : Type 0 where
    pub done : whole → Answered s lines text site new after
    pub stops : StopsBetween s lines text (g.may_leave after)
    pub any_moment : LeavesOnly g.moment g.left_since site after (LeavesFront (g.may_leave site) s lines)

  -- A call that answers these lines, the whole of them or some: a text was written, whatever sink and site tell, and
  -- where the site tells it is that of the lines.
  pub record AnswersLines (lines : List (List ℕ)) (whole : Type 0) (hub : Hub) (site : S) (contents : Option (List ℕ)) (new : Hub) (after : S) (now : Option (List ℕ)) : Type 0 where
    pub text : List ℕ
    pub wrote : Wrote text contents now
    pub told : g.told → (s : State) → IsHubOf hub s → IsSiteOf (g.shown site) s → LinesFrom s lines text whole site new after

  -- what each call leaves, whatever site and sink tell
  pub record LeavesDrill {A : Type 0} (result : Result A Stop) (hub : Hub) (site : S) (sink_faults : ℕ) (new : Hub) (after : S) (now : ℕ) : Type 0 where
    pub stands : LeavesStanding g (IsErrOf result SiteFault) hub site new after
    pub sink : HasCause sink_faults now (IsErrOf result SinkFault)

  -- One read of the source, and the lines that end in what it gave, where so many bytes more are read. A piece held the
  -- beginning of the first of them.
  pub record ReadsSome (line : List ℕ) (more : ℕ) (result : Result ℕ Stop) (hub : Hub) (site : S) (left contents : Option (List ℕ)) (new : Hub) (piece : Piece) (after : S) (left_now now : Option (List ℕ)) : Type 0 where
    pub given : List ℕ
    pub took : Took given left left_now
    pub few : length given ≤ chunk
    pub count : IfOk result (λ n. n ≡ length given)
    pub end : OnOk result (given ≡ [] → (bytes : List ℕ) → left ≡ Some bytes → bytes ≡ [])
    pub long : IsErrOf result InputLong → more < length given
    pub fault : IsErrOf result SourceFault → given ≡ []
    pub holds : OnOk result (Holds piece (behind line (pieces_of given)).rest)
    pub answers : AnswersLines (behind line (pieces_of (take more given))).ended (AnswersAll result) hub site contents new after now

  -- A drill that has ended: what it read, and how it answered the lines that it read.
  pub record ReadsAll (result : Result (Unit {0}) Stop) (hub : Hub) (site : S) (left contents : Option (List ℕ)) (new : Hub) (after : S) (left_now now : Option (List ℕ)) : Type 0 where
    pub taken : List ℕ
    pub lines : List (List ℕ)
    pub read : HasRead (ended_as result) left left_now taken lines
    pub answers : AnswersLines lines (AnswersAll result) hub site contents new after now
