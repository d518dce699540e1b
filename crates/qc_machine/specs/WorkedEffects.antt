-- Worked attempts that change outside rows.
use Rattle.std.specs.Prelude.{ℕ, List, [], ◌∷◌, ◌++◌, length, true, false, Option, Some, None, is_none, codes}
use Rattle.qc_base.specs.declared.fact.Kind.TheVariants.{Normal}
use Rattle.qc_base.specs.declared.log_line.LogLine.{LogLine}
use Rattle.qc_base.specs.declared.log_line.LogLine.TheVariants.{Opened, Registered, Written, Done}
use Rattle.qc_base.specs.declared.recording.Arg.{Arg}
use Rattle.qc_base.specs.declared.recording.Arg.TheVariants.{Text, Whole}
use Rattle.qc_base.specs.declared.recording.Call.{Call}
use Rattle.qc_base.specs.declared.recording.Recording.{Recording}
use Rattle.qc_protocol.specs.Texts.{reply_text}
use Rattle.qc_catalogue.specs.declared.catalogue.Catalogue.{Catalogue}
use Rattle.qc_catalogue.specs.Sample.{sample_catalogue}
use Rattle.qc_rows.specs.Outside.{opened_resources, outside_amount}
use Rattle.qc_rows.specs.Tables.{opened_tables}
use Rattle.qc_txn.specs.Attempt.{stage_after}
use Rattle.qc_txn.specs.Outcome.{new_play, view_of}
use Rattle.qc_txn.specs.Parts.{Part, parts_of, rows_of_attempt}
use Rattle.qc_machine.specs.History.{settled_amount}
use Rattle.qc_machine.specs.LogAndRows.{LogAndRows}
use Rattle.qc_machine.specs.Underway.{AtEnd, Underway, at_end, heard_in_phase, phased, run_on}
use Rattle.qc_machine.specs.Playing.{play_reply}
use Rattle.qc_machine.specs.State.{HeldAttempt}

-- calls of the application Orders

abbrev pub call : List ℕ → List Arg → Call
call method args = record { method = method; args = args }

abbrev pub place : List ℕ → ℕ → Call
place item qty = call (codes "Place") (Text item ∷ Whole qty ∷ [])

abbrev pub notify : ℕ → Call
notify n = call (codes "Notify") (Whole n ∷ [])

abbrev pub of_order : List Call → Recording
of_order calls = record { app = codes "Orders"; component = codes "Order"; calls = calls }

abbrev pub of_plain : List Call → Recording
of_plain calls = record { app = codes "Orders"; component = codes "Plain"; calls = calls }

-- a recording that is played under a catalogue, as attempt 1 on message 1, on a site with this log and these rows
pub record Case : Type 0 where
  pub catalogue : Catalogue
  pub site : LogAndRows
  pub recording : Recording

abbrev pub parts : Case → List Part
parts k = parts_of k.catalogue k.recording Normal

abbrev pub begun_on : Case → HeldAttempt
begun_on k = record {
  attempt = 1;
  id = 1;
  kind = Normal;
  recording = k.recording;
  play = new_play (view_of (settled_amount (opened_tables k.catalogue) (opened_resources k.catalogue)) (rows_of_attempt k.catalogue k.recording Normal));
  calls = 0;
  stage = stage_after 0 (length (parts k));
  why = None;
}

-- all its calls, its end, and its phase

abbrev pub called : Case → Underway
called k = run_on k.catalogue (parts k) (parts k) (record { held = begun_on k; site = k.site })

abbrev pub ends : Case → AtEnd
ends k = at_end k.catalogue (called k)

abbrev pub finished : Case → LogAndRows
finished k = phased k.catalogue 1 (is_none (ends k).why) (ends k).left.site

-- the reply of an order `play` that does all of it
abbrev pub play_told : Case → List ℕ
play_told k = reply_text (play_reply (begun_on k) ((ends k).notices ++ heard_in_phase 1 (is_none (ends k).why) (ends k).left.site) (ends k).why)

abbrev pub drawer : LogAndRows → Option ℕ
drawer o = o.rows (codes "till") (codes "drawer")

abbrev pub letters : LogAndRows → Option ℕ
letters o = o.rows (codes "post") (codes "letters")

-- a site that was just made, by the sample catalogue

abbrev pub opened_site : LogAndRows
opened_site = record {
  groups = [];
  staged = [];
  log = record { gate = 16; size = 17 };
  rows = outside_amount (opened_resources sample_catalogue);
}

abbrev pub alone : Recording → Case
alone r = record { catalogue = sample_catalogue; site = opened_site; recording = r }

-- the same, where lines of another attempt wait

abbrev pub letters_written : ℕ → ℕ → ℕ → List LogLine
letters_written attempt id n =
    Opened attempt id
    ∷ Registered attempt (codes "post") 7
    ∷ Written attempt (codes "post") (record { seq = 1; flags = 0; key = codes "letters"; old = 0; new = n })
    ∷ []

abbrev pub others : List LogLine
others = letters_written 7 2 5

abbrev pub beside : Recording → Case
beside r = record { catalogue = sample_catalogue; site = record opened_site { staged = others }; recording = r }

-- the same, where each resource hears of no more phases than it needs

abbrev pub with_phases : ℕ → ℕ → Catalogue
with_phases post till = record sample_catalogue {
  resources =
      record { name = codes "post"; early = false; phases = post; bounds = None; rows = (codes "letters", 0) ∷ [] }
      ∷ record { name = codes "till"; early = true; phases = till; bounds = Some (0, 110); rows = (codes "drawer", 100) ∷ [] }
      ∷ [];
}

abbrev pub with_few_phases : Recording → Case
with_few_phases r = record { catalogue = with_phases 2 4; site = opened_site; recording = r }

-- four bolts

abbrev pub four_bolts : Recording
four_bolts = of_order (place (codes "bolt") 4 ∷ [])

abbrev pub four_told : List ℕ
four_told = codes "played 1 attempt 1 normal commit: till BeginPrepare, till PrepareRecord 1 keep, till EndPrepare ready, till BeginCommit false, till CommitRecord 1, till EndCommit"

abbrev pub drawer_lines : List LogLine
drawer_lines =
    Opened 1 1
    ∷ Registered 1 (codes "till") 7
    ∷ Written 1 (codes "till") (record { seq = 1; flags = 0; key = codes "drawer"; old = 100; new = 104 })
    ∷ []

-- two letters

abbrev pub two_letters : Recording
two_letters = of_order (notify 2 ∷ [])

abbrev pub letters_told : List ℕ
letters_told = codes "played 1 attempt 1 normal commit: post BeginPrepare, post PrepareRecord 1 keep, post EndPrepare ready, post BeginCommit false, post CommitRecord 1, post EndCommit"

abbrev pub letters_twice : Recording
letters_twice = of_order (notify 2 ∷ notify 1 ∷ [])

abbrev pub letters_twice_told : List ℕ
letters_twice_told = codes "played 1 attempt 1 normal commit: post BeginPrepare, post PrepareRecord 1 keep, post PrepareRecord 2 keep, post EndPrepare ready, post BeginCommit false, post CommitRecord 1, post CommitRecord 2, post EndCommit"

-- the drawer would pass its bound

abbrev pub thirteen_pieces : Recording
thirteen_pieces = of_order (place (codes "bolt") 6 ∷ place (codes "bolt") 4 ∷ place (codes "nut") 3 ∷ [])

abbrev pub thirteen_told : List ℕ
thirteen_told = codes "played 1 attempt 1 normal failed notready till: till BeginPrepare, till PrepareRecord 1 keep, till PrepareRecord 2 keep, till PrepareRecord 3 keep, till EndPrepare notready, till BeginAbort false, till AbortRecord 3, till AbortRecord 2, till AbortRecord 1, till EndAbort"

-- a resource behind the one that isn't ready isn't asked, and hears of the abort
abbrev pub pieces_and_letter : Recording
pieces_and_letter = of_order (place (codes "bolt") 6 ∷ place (codes "bolt") 4 ∷ place (codes "nut") 3 ∷ notify 1 ∷ [])

abbrev pub pieces_and_letter_told : List ℕ
pieces_and_letter_told = thirteen_told ++ codes ", post BeginAbort false, post AbortRecord 1, post EndAbort"

-- a record is forgotten also where its resource isn't ready
abbrev pub none_and_pieces : Recording
none_and_pieces = of_order (place (codes "bolt") 0 ∷ place (codes "bolt") 6 ∷ place (codes "bolt") 4 ∷ place (codes "nut") 3 ∷ [])

abbrev pub none_and_pieces_told : List ℕ
none_and_pieces_told = codes "played 1 attempt 1 normal failed notready till: till BeginPrepare, till PrepareRecord 1 forget, till PrepareRecord 2 keep, till PrepareRecord 3 keep, till PrepareRecord 4 keep, till EndPrepare notready, till BeginAbort false, till AbortRecord 4, till AbortRecord 3, till AbortRecord 2, till EndAbort"

-- the second call fails

abbrev pub four_then_seven : Recording
four_then_seven = of_order (place (codes "bolt") 4 ∷ place (codes "bolt") 7 ∷ [])

abbrev pub four_then_seven_told : List ℕ
four_then_seven_told = codes "played 1 attempt 1 normal failed call 2 step 1: till BeginAbort false, till AbortRecord 1, till EndAbort"

-- a record is taken back, or its amounts are the same; `abort` runs

abbrev pub undone : Recording
undone = of_plain (call (codes "Undo") (Whole 5 ∷ []) ∷ [])

abbrev pub undone_told : List ℕ
undone_told = codes "played 1 attempt 1 normal commit: till BeginPrepare, till PrepareRecord 2 keep, till EndPrepare ready, till BeginCommit false, till CommitRecord 2, till EndCommit"

abbrev pub no_bolts : Recording
no_bolts = of_order (place (codes "bolt") 0 ∷ [])

abbrev pub no_bolts_told : List ℕ
no_bolts_told = codes "played 1 attempt 1 normal commit: till BeginPrepare, till PrepareRecord 1 forget, till EndPrepare ready, till BeginCommit false, till EndCommit"

abbrev pub twice : Recording
twice = of_plain (call (codes "Twice") [] ∷ [])

abbrev pub doomed : Recording
doomed = of_plain (call (codes "Doom") [] ∷ [])

abbrev pub undone_and_doomed : Recording
undone_and_doomed = of_plain (call (codes "Undo") (Whole 5 ∷ []) ∷ call (codes "Doom") [] ∷ [])

abbrev pub undone_and_doomed_told : List ℕ
undone_and_doomed_told = codes "played 1 attempt 1 normal failed forced: till BeginAbort false, till AbortRecord 2, till EndAbort"

abbrev pub doomed_and_failing : Recording
doomed_and_failing = of_plain (call (codes "Doom") [] ∷ call (codes "Take") (Text (codes "bolt") ∷ Whole 11 ∷ []) ∷ [])

abbrev pub one_taken : Recording
one_taken = of_plain (call (codes "Take") (Text (codes "bolt") ∷ Whole 1 ∷ []) ∷ [])

-- two resources

abbrev pub both : Recording
both = of_order (place (codes "bolt") 2 ∷ notify 1 ∷ [])

abbrev pub both_told : List ℕ
both_told = codes "played 1 attempt 1 normal commit: till BeginPrepare, till PrepareRecord 1 keep, till EndPrepare ready, post BeginPrepare, post PrepareRecord 1 keep, post EndPrepare ready, till BeginCommit false, till CommitRecord 1, till EndCommit, post BeginCommit false, post CommitRecord 1, post EndCommit"
