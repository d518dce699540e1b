-- What an attempt does with the log of compensations and the outside rows, from its first call to its phase.
use Rattle.std.specs.Prelude.{ℕ, ◌+◌, List, [], ◌∷◌, ◌++◌, length, slice_get, Bool, false, Option, Some, None, if◌then◌else◌}
use Rattle.std.specs.Option.{option_map_or}
use Rattle.qc_base.specs.declared.log_line.LogLine.TheVariants.{Done}
use Rattle.qc_base.specs.declared.log_line.Notice.{Notice}
use Rattle.qc_base.specs.declared.log_line.Why.{Why}
use Rattle.qc_base.specs.LogLines.{is_opened, phases_of, registrations}
use Rattle.qc_catalogue.specs.declared.catalogue.Catalogue.{Catalogue}
use Rattle.qc_play.specs.Play.{ran, failed_at, run_call}
use Rattle.qc_txn.specs.Outcome.{why_by}
use Rattle.qc_txn.specs.Parts.{Part}
use Rattle.crm_recovery.specs.Settling.{phase_puts}
use Rattle.qc_machine.specs.Carrying.{carry_all}
use Rattle.qc_machine.specs.LogAndRows.{LogAndRows, after_force, lines_of, with_lines, with_puts}
use Rattle.qc_machine.specs.Playing.{after_call, after_failure, ended_attempt}
use Rattle.qc_machine.specs.Preparing.{Prepared, prepared_all, unasked}
use Rattle.qc_machine.specs.Slots.{has_calls}
use Rattle.qc_machine.specs.State.{HeldAttempt}

-- an attempt, with the log and the rows as they stand beside it
pub record Underway : Type 0 where
  pub held : HeldAttempt
  pub site : LogAndRows

-- Its next call runs, and the effects of the call are carried out; a call that fails has none.

abbrev pub run_part : Catalogue → ℕ → Underway → Part → Underway
run_part c count x p = elim (run_call p.script p.args x.held.play) [
  | ran play ↦ record {
    held = after_call count x.held play;
    site = carry_all c x.held.attempt x.held.id play.effects x.site;
  }
  | failed_at step ↦ record x { held = after_failure p step x.held }
]

abbrev pub run_next : Catalogue → List Part → Underway → Underway
run_next c parts x = option_map_or (run_part c (length parts) x) (slice_get parts x.held.calls) x

-- all that are left, as long as none failed
abbrev pub run_on : Catalogue → List Part → List Part → Underway → Underway
run_on c [] all x = x
run_on c (p ∷ parts) all x = if has_calls x.held.stage then run_on c parts all (run_next c all x) else x

-- Its end: resources are asked where no call failed and `abort` didn't run, and the log is forced before a commit.

abbrev pub asked_at_end : Catalogue → Underway → Prepared
asked_at_end c x = prepared_all c x.held.attempt (registrations (lines_of x.site) x.held.attempt) x.site

abbrev pub unless_forced : Catalogue → Underway → Bool → Prepared
unless_forced c x forced = if forced then unasked x.site else asked_at_end c x

abbrev pub prepared : Catalogue → Underway → Prepared
prepared c x = elim x.held.why [ Some why ↦ unasked x.site | None ↦ unless_forced c x x.held.play.forced ]

abbrev pub why_prepared : HeldAttempt → Prepared → Option Why
why_prepared a p = elim a.why [ Some why ↦ Some why | None ↦ why_by a.play.forced p.refuser ]

abbrev pub forced_unless : Option Why → LogAndRows → LogAndRows
forced_unless (Some why) o = o
forced_unless None o = after_force o

-- with what its resources heard, and why it fails, if it does
pub record AtEnd : Type 0 where
  pub left : Underway
  pub notices : List Notice
  pub why : Option Why

abbrev pub at_end_by : HeldAttempt → Prepared → Option Why → AtEnd
at_end_by a p why = record {
  left = record { held = ended_attempt why a; site = forced_unless why p.after };
  notices = p.notices;
  why = why;
}

abbrev pub at_end : Catalogue → Underway → AtEnd
at_end c x = let p : Prepared = prepared c x in at_end_by x.held p (why_prepared x.held p)

-- Its phase: the rows are put, and then Done is written and forced, with all that waits, where the attempt was opened.

abbrev pub done_where : Bool → ℕ → LogAndRows → LogAndRows
done_where opened attempt o = if opened then after_force (with_lines (Done attempt ∷ []) o) else o

abbrev pub phased : Catalogue → ℕ → Bool → LogAndRows → LogAndRows
phased c attempt committed o =
    done_where (is_opened (lines_of o) attempt) attempt (with_puts (phase_puts c (lines_of o) attempt committed) o)

abbrev pub heard_in_phase : ℕ → Bool → LogAndRows → List Notice
heard_in_phase attempt committed o = phases_of (lines_of o) attempt committed false
