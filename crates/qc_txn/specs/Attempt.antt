-- An attempt that is being played.
use Rattle.std.specs.Prelude.{◌≡◌, ℕ, ◌+◌, ◌<◌, ◌≤◌, List, length, drop, sum_by, Bool, true, false, ◌==◌, Option, Some, None, is_some, if◌then◌else◌, Result, Ok, Err}
use Rattle.qc_base.specs.declared.fact.Kind.{Kind}
use Rattle.qc_base.specs.declared.fact.Kind.TheVariants.{Normal, Final}
use Rattle.qc_base.specs.declared.log_line.Stage.{Stage}
use Rattle.qc_base.specs.declared.log_line.Stage.TheVariants.{Calls, Ready, Failing, Commit, Abort}
use Rattle.qc_base.specs.declared.log_line.Why.{Why}
use Rattle.qc_base.specs.declared.log_line.Why.TheVariants.{Step as AtStep}
use Rattle.qc_base.specs.declared.recording.Recording.{Recording}
use Rattle.qc_script.specs.Naming.{effects}
use Rattle.qc_catalogue.specs.declared.catalogue.Catalogue.{Catalogue}
use Rattle.qc_play.specs.Play.{Play, ran, failed_at, run_call}
use Rattle.qc_play.specs.State.{StateView}
use Rattle.qc_txn.specs.Parts.{Part, is_playable, parts_of}
use Rattle.qc_txn.specs.Outcome.{why_by}

pub record AttemptView : Type 0 where
  -- of the message
  pub id : ℕ
  pub recording : Recording
  -- of the attempt
  pub number : ℕ
  pub kind : Kind
  -- the play state, and room for how many effects more
  pub play : Play
  pub room : ℕ
  -- how many calls it plays, and how many of them ran
  pub count : ℕ
  pub calls : ℕ
  pub stage : Stage
  -- the first resource that isn't ready, by the votes so far
  pub refuser : Option (List ℕ)
  -- why it fails, as far as that is known
  pub why : Option Why

-- a final attempt has one call more than were recorded
abbrev pub count_of : Recording → Kind → ℕ
count_of r Normal = length r.calls
count_of r Final = length r.calls + 1

-- calls are left, or all ran
abbrev pub stage_after : ℕ → ℕ → Stage
stage_after calls count = if calls == count then Ready else Calls

-- an attempt before its first call
abbrev pub begun : ℕ → ℕ → Kind → Recording → StateView → AttemptView
begun id number kind r state = record {
  id = id;
  recording = r;
  number = number;
  kind = kind;
  play = state.play;
  room = state.room;
  count = count_of r kind;
  calls = 0;
  stage = stage_after 0 (count_of r kind);
  refuser = None;
  why = None;
}

-- the effects of scripts, call by call
abbrev pub effects_in : List Part → ℕ
effects_in parts = sum_by (λ (p : Part). effects p.script) parts

-- What is known by its stage of the calls that ran, and of why it fails.
abbrev pub HasCome : Stage → ℕ → ℕ → Option Why → Type 0
HasCome Calls calls count why = (calls < count) × (why ≡ None)
HasCome Ready calls count why = (calls ≡ count) × (why ≡ None)
HasCome Failing calls count why = (calls < count) × (is_some why ≡ true)
HasCome Commit calls count why = why ≡ None
HasCome Abort calls count why = is_some why ≡ true

-- What holds of each attempt, by its recording, kind, calls, stage and reason.
pub record IsAttempt (r : Recording) (kind : Kind) (count calls : ℕ) (stage : Stage) (why : Option Why) : Type 0 where
  pub few : length r.calls ≤ 64
  pub all : count ≡ count_of r kind
  pub some : calls ≤ count
  pub come : HasCome stage calls count why

-- An attempt can be played by the catalogue, and has room for the effects of the calls that are left.
pub record PlaysBy (c : Catalogue) (a : AttemptView) : Type 0 where
  pub playable : is_playable c a.recording a.kind ≡ true
  pub room : effects_in (drop a.calls (parts_of c a.recording a.kind)) ≤ a.room

-- The next call ran, and its number is told.
pub record RunsCall (p : Part) (old new : AttemptView) (number : ℕ) : Type 0 where
  pub told : number ≡ p.number
  pub play : run_call p.script p.args old.play ≡ ran new.play
  pub kept : new ≡ record old {
    play = new.play;
    room = new.room;
    calls = old.calls + 1;
    stage = stage_after (old.calls + 1) old.count;
  }

-- The next call failed, and its step is told.
pub record FailsCall (p : Part) (old new : AttemptView) (step : ℕ) : Type 0 where
  pub play : run_call p.script p.args old.play ≡ failed_at step
  pub kept : new ≡ record old { stage = Failing; why = Some (AtStep p.number step) }

-- What running the next call tells, by the call at its place.
abbrev pub RunsNext : Option Part → AttemptView → AttemptView → Result ℕ ℕ → Type 0
RunsNext None old new result = ⊥
RunsNext (Some p) old new (Ok number) = RunsCall p old new number
RunsNext (Some p) old new (Err step) = FailsCall p old new step

-- a vote, of which the first that isn't ready counts
abbrev pub voted : List ℕ → Bool → Option (List ℕ) → Option (List ℕ)
voted resource ready (Some name) = Some name
voted resource true None = None
voted resource false None = Some resource

-- why an attempt fails at its end, where it does
abbrev pub why_at_end : AttemptView → Option Why
why_at_end a = elim a.why [ Some why ↦ Some why | None ↦ why_by a.play.forced a.refuser ]

abbrev pub stage_by : Option Why → Stage
stage_by (Some why) = Abort
stage_by None = Commit

abbrev pub result_by : Option Why → Result (Unit {0}) Why
result_by (Some why) = Err why
result_by None = Ok tt

-- an attempt whose end is decided
abbrev pub decided : AttemptView → AttemptView
decided a = record a { why = why_at_end a; stage = stage_by (why_at_end a) }
