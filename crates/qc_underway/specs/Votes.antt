-- The prepare phases of the resources that an attempt has registered.
use Rattle.std.specs.Prelude.{◌≡◌, ℕ, ◌+◌, ◌≤◌, List, [], ◌∷◌, ◌++◌, ◌==◌, length, map, Bool, true, Option, Some, MatchBool, Vec}
use Rattle.std.specs.List.{list_any}
use Rattle.std.specs.declared.alloc.Global.{Global}
use Rattle.qc_base.specs.declared.log_line.Heard.{Heard}
use Rattle.qc_base.specs.declared.log_line.LogLine.{LogLine}
use Rattle.qc_base.specs.declared.log_line.LogLine.TheVariants.{Forgot}
use Rattle.qc_base.specs.declared.log_line.LogRecord.{LogRecord}
use Rattle.qc_base.specs.declared.log_line.Notice.{Notice}
use Rattle.qc_base.specs.LogLines.{Registration, has_phase, notices_to, prepare_heard}
use Rattle.qc_site.specs.Image.{Image}
use Rattle.qc_entries.specs.Entries.{EntriesView}
use Rattle.crm_clerk.specs.Calls.{HasStaged}
use Rattle.crm_clerk.specs.Clerk.{ClerkView}
use Rattle.crm_driver.specs.Compensators.{CompensatorState, Rules}
use Rattle.qc_machine.specs.Preparing.{Prepared, answered_lines}
use Rattle.qc_underway.specs.declared.compensators.Compensators.{Compensators}
use Rattle.qc_underway.specs.Compensators.{HearsAlone, TellsMore, all_records, named, records_of}
use Rattle.qc_underway.specs.Standing.{IsUnderway}

-- The resources were asked: the answer is the one that isn't ready, the notices have what they heard behind those before,
-- and the records that were answered forget are forgotten.
pub record IsPrepared (p : Prepared) (answer : Option (List ℕ)) (old new : List Notice)
    (shown : Image) (log : EntriesView) (clerk : ClerkView) : Type 0 where
  pub refuser : answer ≡ p.refuser
  pub notices : new ≡ old ++ p.notices
  pub left : IsUnderway shown log clerk p.after

-- Records are forgotten, whatever the compensators' rules: at most as many as there are.
pub record ForgetsSome (old : ClerkView) (log : EntriesView) (new : ClerkView) (later : EntriesView) : Type 0 where
  pub lines : List LogLine
  pub staged : HasStaged lines 0 old log new later
  pub few : length lines ≤ all_records old

-- one resource

-- that records of these numbers are forgotten
abbrev pub forgot_all : ℕ → List ℕ → List ℕ → List LogLine
forgot_all attempt resource seqs = map (λ (n : ℕ). Forgot attempt resource n) seqs

-- the numbers rise from this one on, and each is one of these records
abbrev pub CanForget : List LogRecord → ℕ → List ℕ → Type 0
CanForget records low [] = Unit {0}
CanForget records low (n ∷ seqs) = (low ≤ n) × (list_any (λ (r : LogRecord). r.seq == n) records ≡ true) × CanForget records (n + 1) seqs

-- what a compensator hears that is asked
abbrev pub asked_heard : Rules → List LogRecord → List Heard
asked_heard rules records = prepare_heard (map rules.forgets records) (rules.ready records) records

-- a resource was asked
pub record Asks (name : List ℕ) (ready : Bool) (told : Compensators) (clerk : ClerkView) (log : EntriesView) (notices : Vec Notice Global)
    (after : Compensators) (new : ClerkView) (later : EntriesView) (more : Vec Notice Global) : Type 0 where
  pub state : CompensatorState
  pub is : named told name ≡ Some state
  pub answer : ready ≡ state.rules.ready (records_of clerk name)
  pub staged : HasStaged (answered_lines clerk.attempt name state.rules.forgets (records_of clerk name)) 0 clerk log new later
  pub heard : TellsMore (notices_to name (asked_heard state.rules (records_of clerk name))) notices more
  pub hears : HearsAlone name (asked_heard state.rules (records_of clerk name)) (records_of clerk name) told after

-- it wasn't
pub record AsksNobody (ready : Bool) (told : Compensators) (clerk : ClerkView) (log : EntriesView) (notices : Vec Notice Global)
    (after : Compensators) (new : ClerkView) (later : EntriesView) (more : Vec Notice Global) : Type 0 where
  pub answer : ready ≡ true
  pub kept : after ≡ told
  pub same : new ≡ clerk
  pub still : later ≡ log
  pub unheard : more ≡ notices

-- a resource is asked exactly where it is registered for the prepare phase
abbrev pub AsksRegistered : Registration → Bool → Compensators → ClerkView → EntriesView → Vec Notice Global → Compensators → ClerkView → EntriesView → Vec Notice Global → Type 0
AsksRegistered r ready told clerk log notices after new later more =
    MatchBool (has_phase 1 r.phases) (Asks r.resource ready told clerk log notices after new later more) (AsksNobody ready told clerk log notices after new later more)

-- as a clerk tells a registration
abbrev pub as_registration : List ℕ × ℕ → Registration
as_registration r = record { resource = r.0; phases = r.1 }
