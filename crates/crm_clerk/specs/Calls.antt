-- What a call of a clerk answers, and what it leaves of clerk and log.
use Rattle.std.specs.Prelude.{◌≡◌, ℕ, ◌+◌, List, ◌++◌, length, Option, Some, None, Ok, Err, OnOk, OnErr, if◌then◌else◌}
use Rattle.std.specs.declared.result.Result.{Result}
use Rattle.qc_base.specs.declared.log_line.LogLine.{LogLine}
use Rattle.qc_base.specs.declared.log_line.LogRecord.{LogRecord}
use Rattle.qc_base.specs.LogLines.{is_registered}
use Rattle.qc_entries.specs.Entries.{EntriesView}
use Rattle.crm_log.specs.Log.{LinesWait}
use Rattle.crm_clerk.specs.declared.error.ClerkError.{ClerkError}
use Rattle.crm_clerk.specs.declared.error.ClerkError.TheVariants.{AlreadyRegistered, NotRegistered, NothingToForget}
use Rattle.crm_clerk.specs.Clerk.{ClerkView, records_in, last_kept, with_lines}
use Rattle.crm_clerk.specs.Staging.{TakesRoom, staged_lines}

-- a resource is registered once
abbrev pub registers : ClerkView → List ℕ → Result Unit ClerkError
registers c resource = if is_registered c.lines c.attempt resource then Err AlreadyRegistered else Ok tt

-- a record of a registered resource has the next number
abbrev pub writes : ClerkView → List ℕ → Result ℕ ClerkError
writes c resource = if is_registered c.lines c.attempt resource then Ok (length (records_in c.lines c.attempt resource) + 1) else Err NotRegistered

abbrev pub forgets : Option LogRecord → Result Unit ClerkError
forgets (Some last) = Ok tt
forgets None = Err NothingToForget

-- the last record of a registered resource is forgotten once
abbrev pub forgets_last : ClerkView → List ℕ → Result Unit ClerkError
forgets_last c resource = if is_registered c.lines c.attempt resource then forgets (last_kept c.lines c.attempt resource) else Err NotRegistered

-- these lines were staged and no others: the clerk has them behind its own, and they wait in the log behind what waited
pub record HasStaged (lines : List LogLine) (taken : ℕ) (old : ClerkView) (waiting : EntriesView) (new : ClerkView) (after : EntriesView) : Type 0 where
  pub clerk : new ≡ with_lines taken lines old
  pub log : after ≡ staged_lines waiting lines
  pub room : TakesRoom (length lines) waiting after
  pub waits : (before : List LogLine) → LinesWait waiting before → LinesWait after (before ++ lines)

-- these lines were staged, or there was an error and nothing has changed
pub record Stages {A : Type 0} (lines : List LogLine) (taken : ℕ) (result : Result A ClerkError) (old : ClerkView) (log : EntriesView) (new : ClerkView) (after : EntriesView) : Type 0 where
  pub staged : OnOk result (HasStaged lines taken old log new after)
  pub unchanged : OnErr result ((new ≡ old) × (after ≡ log))
