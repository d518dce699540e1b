-- Orders that send a message.
use Rattle.std.specs.Prelude.{◌+◌, nat_le, [], length, Option, Some, None, option_and_then}
use Rattle.qc_base.specs.declared.fact.Fact.{Fact}
use Rattle.qc_base.specs.declared.fact.Fact.TheVariants.{Sent as FactSent}
use Rattle.qc_base.specs.declared.recording.Recording.{Recording}
use Rattle.qc_base.specs.Messages.{live}
use Rattle.qc_protocol.specs.declared.reply.Refusal.{Refusal}
use Rattle.qc_protocol.specs.declared.reply.Refusal.TheVariants.{TooManyMessages}
use Rattle.qc_protocol.specs.declared.reply.Reply.TheVariants.{Sent, SentNothing}
use Rattle.qc_machine.specs.State.{State, with_new_fact, fact_room}
use Rattle.qc_machine.specs.Refuse.{refuse_if}
use Rattle.qc_machine.specs.Rooms.{journal_full}
use Rattle.qc_machine.specs.Steps.{Step, stays}

-- the fact of the next message
abbrev pub fact_sent : State → Recording → Fact
fact_sent s r = FactSent (length s.history.messages + 1) s.last r

-- TooManyMessages, where as many messages as the limit aren't consumed
abbrev pub too_many : State → Option Recording → Option Refusal
too_many s sent = option_and_then (λ r. refuse_if (nat_le s.limits.live (live s.history.messages)) (TooManyMessages s.limits.live)) sent

-- Full, where the journal has no room for the fact of this recording
abbrev pub no_room_for : State → Option Recording → Option Refusal
no_room_for s sent = option_and_then (λ r. journal_full s (fact_room (fact_sent s r))) sent

-- the fact of a message is added
abbrev pub added : Fact → State → Step
added fact s = record { through = []; state = with_new_fact fact s; reply = Sent (length s.history.messages + 1) }

abbrev pub send_step : State → Option Recording → Step
send_step s None = stays s SentNothing
send_step s (Some r) = added (fact_sent s r) s
