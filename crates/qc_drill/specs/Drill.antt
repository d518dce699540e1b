-- The replies to lines.
use Rattle.std.specs.Prelude.{ℕ, nat_le, List, [], ◌∷◌, ◌++◌, length, true, false, Result, Ok, Err, if◌then◌else◌}
use Rattle.qc_protocol.specs.declared.order.Member.{Member}
use Rattle.qc_protocol.specs.declared.order.Order.{Order}
use Rattle.qc_protocol.specs.declared.reply.Refusal.{Refusal}
use Rattle.qc_protocol.specs.declared.reply.Refusal.TheVariants.{LineTooLong, Malformed}
use Rattle.qc_protocol.specs.declared.reply.Reply.TheVariants.{Refused}
use Rattle.qc_protocol.specs.Texts.{reply_text, is_blank}
use Rattle.qc_orders.specs.Orders.{order_of}
use Rattle.qc_machine.specs.State.{State}
use Rattle.qc_machine.specs.Step.{step}
use Rattle.qc_machine.specs.Steps.{Step, stays}

-- what a line that isn't blank asks for, or why it is refused as a line

abbrev pub read_as : Result Order Member → Result Order Refusal
read_as (Ok order) = Ok order
read_as (Err member) = Err (Malformed member)

abbrev pub asked : List ℕ → Result Order Refusal
asked line = if nat_le (length line) 65536 then read_as (order_of line) else Err LineTooLong

abbrev pub asked_step : State → Result Order Refusal → Step
asked_step s (Ok order) = step s order
asked_step s (Err refusal) = stays s (Refused refusal)

-- the moment of the order that is asked for
abbrev pub asked_at : Result Order Refusal → ℕ
asked_at (Ok order) = order.at
asked_at (Err refusal) = 0

-- the step of a line that isn't blank
abbrev pub line_step : State → List ℕ → Step
line_step s line = asked_step s (asked line)

-- a reply goes out with its newline
abbrev pub with_newline : List ℕ → List ℕ
with_newline text = text ++ 10 ∷ []

-- what is written for a line, and the state after it; a blank line is passed over

abbrev pub out_of_line : State → List ℕ → List ℕ
out_of_line s line = elim (is_blank line) [ true ↦ [] | false ↦ with_newline (reply_text (line_step s line).reply) ]

abbrev pub after_line : State → List ℕ → State
after_line s line = elim (is_blank line) [ true ↦ s | false ↦ (line_step s line).state ]

-- the same for lines, one after the other

abbrev pub out_of_lines : State → List (List ℕ) → List ℕ
out_of_lines s [] = []
out_of_lines s (line ∷ lines) = out_of_line s line ++ out_of_lines (after_line s line) lines

abbrev pub after_lines : State → List (List ℕ) → State
after_lines s [] = s
after_lines s (line ∷ lines) = after_lines (after_line s line) lines

-- what an opening says that left this state: nothing yet
abbrev pub opened_out : State → List ℕ
opened_out s = []
