-- Orders on the attempts of players: their next call, their end, and what follows it.
use Rattle.std.specs.Prelude.{ℕ, ◌+◌, ◌-◌, List, [], ◌∷◌, length, slice_get, Bool, true, false, Option, Some, None, if◌then◌else◌}
use Rattle.std.specs.Option.{option_map_or}
use Rattle.qc_base.specs.declared.fact.Fact.{Fact}
use Rattle.qc_base.specs.declared.fact.Fact.TheVariants.{Played as FactPlayed, Failed as FactFailed}
use Rattle.qc_base.specs.declared.log_line.Notice.{Notice}
use Rattle.qc_base.specs.declared.log_line.Stage.{Stage}
use Rattle.qc_base.specs.declared.log_line.Stage.TheVariants.{Failing, Commit}
use Rattle.qc_base.specs.declared.log_line.Why.{Why}
use Rattle.qc_base.specs.declared.log_line.Why.TheVariants.{Step as AtStep, Forced, NotReady}
use Rattle.qc_base.specs.declared.message.Message.{Message}
use Rattle.qc_protocol.specs.declared.reply.Reply.{Reply}
use Rattle.qc_protocol.specs.declared.reply.Reply.TheVariants.{SentNothing, Worked, StepFailed, Committed, NotCommitted, Finished, Played, PlayFailed}
use Rattle.qc_catalogue.specs.declared.catalogue.Catalogue.{Catalogue}
use Rattle.qc_play.specs.Play.{Play, ran, failed_at, run_call}
use Rattle.qc_txn.specs.Attempt.{stage_after, stage_by}
use Rattle.qc_txn.specs.Outcome.{not_ready, why_by}
use Rattle.qc_txn.specs.Parts.{Part}
use Rattle.qc_machine.specs.Attempts.{parts_held}
use Rattle.qc_machine.specs.Slots.{has_calls}
use Rattle.qc_machine.specs.Taking.{new_attempt}
use Rattle.qc_machine.specs.State.{State, HeldAttempt, with_new_fact, with_player}
use Rattle.qc_machine.specs.Steps.{Step, stays}

-- the next call

abbrev pub after_call : ℕ → HeldAttempt → Play → HeldAttempt
after_call count a play = record a { play = play; calls = a.calls + 1; stage = stage_after (a.calls + 1) count }

abbrev pub after_failure : Part → ℕ → HeldAttempt → HeldAttempt
after_failure p step a = record a { stage = Failing; why = Some (AtStep p.number step) }

abbrev pub work_part : ℕ → HeldAttempt → Part → HeldAttempt
work_part count a p = elim (run_call p.script p.args a.play) [
  | ran play ↦ after_call count a play
  | failed_at step ↦ after_failure p step a
]

abbrev pub after_work : List Part → HeldAttempt → HeldAttempt
after_work parts a = option_map_or (work_part (length parts) a) (slice_get parts a.calls) a

-- the number of the call that is next
abbrev pub next_number : List Part → HeldAttempt → ℕ
next_number parts a = option_map_or (λ (p : Part). p.number) (slice_get parts a.calls) 0

abbrev pub work_reply : Option Why → ℕ → ℕ → Reply
work_reply (Some (AtStep call step)) number left = StepFailed call step
work_reply (Some Forced) number left = Worked number left
work_reply (Some (NotReady resource)) number left = Worked number left
work_reply None number left = Worked number left

abbrev pub work_in : State → ℕ → HeldAttempt → Step
work_in s n a =
    let parts : List Part = parts_held s.history.catalogue a in
    let b : HeldAttempt = after_work parts a in
    stays (with_player n (Some b) s) (work_reply b.why (next_number parts a) (length parts - b.calls))

-- the end: no resource takes part yet, so nothing is heard

-- why an attempt fails at its end, where it does
abbrev pub why_ended : Catalogue → HeldAttempt → Option Why
why_ended c a = elim a.why [ Some why ↦ Some why | None ↦ why_by a.play.forced (not_ready c a.play.records) ]

-- the fact of an attempt that ends at a moment
abbrev pub fact_of_end : ℕ → HeldAttempt → Option Why → Fact
fact_of_end at a (Some why) = FactFailed a.id a.attempt at
fact_of_end at a None = FactPlayed a.id a.attempt a.kind at

abbrev pub ended_attempt : Option Why → HeldAttempt → HeldAttempt
ended_attempt why a = record a { stage = stage_by why; why = why }

abbrev pub end_reply : ℕ → List Notice → Option Why → Reply
end_reply attempt notices (Some why) = NotCommitted attempt why notices
end_reply attempt notices None = Committed attempt notices

-- the state with the fact of an attempt's end
abbrev pub after_end : Option Why → HeldAttempt → State → State
after_end why a s = with_new_fact (fact_of_end s.last a why) s

abbrev pub end_in : State → ℕ → HeldAttempt → Step
end_in s n a =
    let why : Option Why = why_ended s.history.catalogue a in
    stays (with_player n (Some (ended_attempt why a)) (after_end why a s)) (end_reply a.attempt [] why)

-- what follows the end: the message and the rows are let go

abbrev pub has_committed : Stage → Bool
has_committed Commit = true
has_committed _ = false

abbrev pub phase_in : State → ℕ → HeldAttempt → Step
phase_in s n a = stays (with_player n None s) (Finished a.attempt (has_committed a.stage) [])

-- All of it in one order: a message is taken, its calls run as long as one is left and none failed, the attempt ends, and
-- its message and rows are let go.

abbrev pub work_on : List Part → List Part → HeldAttempt → HeldAttempt
work_on [] all a = a
work_on (p ∷ parts) all a = if has_calls a.stage then work_on parts all (after_work all a) else a

abbrev pub play_reply : HeldAttempt → List Notice → Option Why → Reply
play_reply a notices (Some why) = PlayFailed a.id a.attempt a.kind why notices
play_reply a notices None = Played a.id a.attempt a.kind notices

abbrev pub play_in : State → ℕ → HeldAttempt → Step
play_in s n a =
    let parts : List Part = parts_held s.history.catalogue a in
    let why : Option Why = why_ended s.history.catalogue (work_on parts parts a) in
    stays (with_player n None (after_end why a s)) (play_reply a [] why)

abbrev pub play_step : State → ℕ → Option Message → Step
play_step s n None = stays s SentNothing
play_step s n (Some m) = play_in s n (new_attempt s m)

-- what a player holds, and what is done with it
abbrev pub on_held : State → (HeldAttempt → Step) → Option HeldAttempt → Step
on_held s go held = option_map_or go held (stays s SentNothing)
