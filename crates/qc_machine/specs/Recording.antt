-- Orders on the recorders of clients.
use Rattle.std.specs.Prelude.{ℕ, length, Option, Some, None, Result, Ok, Err}
use Rattle.qc_base.specs.declared.recording.Recording.{Recording}
use Rattle.qc_protocol.specs.declared.reply.Refusal.{Refusal}
use Rattle.qc_protocol.specs.declared.reply.Reply.TheVariants.{Opened, Recorded, SentNothing, Cancelled}
use Rattle.qc_machine.specs.State.{State, with_client}
use Rattle.qc_machine.specs.Steps.{Step, stays}

-- the recorder that was begun
abbrev pub open_step : State → ℕ → Result Recording Refusal → Step
open_step s n (Ok r) = stays (with_client n (Some r) s) Opened
open_step s n (Err refusal) = stays s SentNothing

-- the recorder with one call more
abbrev pub call_step : State → ℕ → Option (Result Recording Refusal) → Step
call_step s n (Some (Ok r)) = stays (with_client n (Some r) s) (Recorded (length r.calls))
call_step s n (Some (Err refusal)) = stays s SentNothing
call_step s n None = stays s SentNothing

abbrev pub cancel_step : State → ℕ → Option Recording → Step
cancel_step s n (Some r) = stays (with_client n None s) (Cancelled (length r.calls))
cancel_step s n None = stays s SentNothing
