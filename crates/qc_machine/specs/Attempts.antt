-- What attempts hold, which message is taken, and the number of an attempt.
use Rattle.std.specs.Prelude.{ℕ, ◌+◌, ◌*◌, max, nat_le, List, [], ◌∷◌, ◌++◌, length, map, filter_map, count_by, sum_by, Bool, not, Option}
use Rattle.qc_base.specs.declared.log_line.Stage.{Stage}
use Rattle.qc_base.specs.declared.message.Message.{Message}
use Rattle.qc_catalogue.specs.declared.catalogue.Catalogue.{Catalogue}
use Rattle.qc_play.specs.Play.{rows_in}
use Rattle.qc_txn.specs.Parts.{Part, parts_of, log_room}
use Rattle.qc_rows.specs.Holdings.{Holding}
use Rattle.qc_listener.specs.Choice.{choice, earliest_due, due_messages}
use Rattle.qc_machine.specs.History.{attempt_of}
use Rattle.qc_machine.specs.Slots.{has_ended}
use Rattle.qc_machine.specs.State.{State, HeldAttempt, FileEnd, held_attempts}

-- the calls that a held attempt plays
abbrev pub parts_held : Catalogue → HeldAttempt → List Part
parts_held c a = parts_of c a.recording a.kind

-- its message and its rows
abbrev pub holding_of : HeldAttempt → Holding
holding_of a = record { attempt = a.attempt; id = a.id; rows = rows_in a.play.view }

abbrev pub holdings : State → List Holding
holdings s = map holding_of (held_attempts s)

abbrev pub greatest : List ℕ → ℕ
greatest [] = 0
greatest (n ∷ ns) = max n (greatest ns)

-- one more than the greatest number of an attempt in the facts and of those that are held
abbrev pub next_attempt : State → ℕ
next_attempt s = 1 + greatest (filter_map attempt_of s.history.facts ++ map (λ (a : HeldAttempt). a.attempt) (held_attempts s))

-- the message that is taken, and what is told where there is none

abbrev pub chosen_message : State → List ℕ → Option Message
chosen_message s app = choice s.history.catalogue (holdings s) s.last app s.history.messages

abbrev pub earliest_of : State → List ℕ → Option ℕ
earliest_of s app = earliest_due s.last app s.history.messages

abbrev pub blocked_count : State → List ℕ → ℕ
blocked_count s app = length (due_messages (holdings s) s.last app s.history.messages)

-- What held attempts set aside: room for the fact of each in the journal until it stands, in bytes, and room in the log
-- of compensations.

abbrev pub has_no_fact : Stage → Bool
has_no_fact stage = not (has_ended stage)

abbrev pub attempt_room : ℕ
attempt_room = 35

abbrev pub journal_aside : State → ℕ
journal_aside s = attempt_room * count_by (λ (a : HeldAttempt). has_no_fact a.stage) (held_attempts s)

abbrev pub log_aside : State → ℕ
log_aside s = sum_by (λ (a : HeldAttempt). log_room (parts_held s.history.catalogue a)) (held_attempts s)

-- whether a file has room for so much more beside what is set aside of it
abbrev pub has_room : State → FileEnd → ℕ → ℕ → Bool
has_room s file aside more = nat_le (file.size + aside + more) s.limits.log_bytes
