-- Where a log has no room for what an order adds.
use Rattle.std.specs.Prelude.{ℕ, [], ◌∷◌, not, Option}
use Rattle.qc_base.specs.declared.message.Message.{Message}
use Rattle.qc_base.specs.Spelling.{is_attempt}
use Rattle.qc_protocol.specs.declared.reply.Refusal.{Refusal}
use Rattle.qc_protocol.specs.declared.reply.Refusal.TheVariants.{Full}
use Rattle.qc_txn.specs.Parts.{parts_of, log_room}
use Rattle.qc_listener.specs.Choice.{kind_at}
use Rattle.qc_machine.specs.Attempts.{attempt_room, next_attempt, journal_aside, log_aside, has_room}
use Rattle.qc_machine.specs.Refuse.{refuse_if, first_some}
use Rattle.qc_machine.specs.State.{State}

abbrev pub journal_full : State → ℕ → Option Refusal
journal_full s more = refuse_if (not (has_room s s.journal (journal_aside s) more)) (Full s.journal.size)

abbrev pub log_full : State → ℕ → Option Refusal
log_full s more = refuse_if (not (has_room s s.log (log_aside s) more)) (Full s.log.size)

-- no attempt has a number past the last one
abbrev pub no_number : State → Option Refusal
no_number s = refuse_if (not (is_attempt (next_attempt s))) (Full s.journal.size)

-- what an attempt on a message sets aside of the log
abbrev pub room_for : State → Message → ℕ
room_for s m = log_room (parts_of s.history.catalogue m.recording (kind_at m.place))

-- the journal is looked at first, then the log, then the attempt's number
abbrev pub take_full : State → Message → Option Refusal
take_full s m = first_some (journal_full s attempt_room ∷ log_full s (room_for s m) ∷ no_number s ∷ [])
