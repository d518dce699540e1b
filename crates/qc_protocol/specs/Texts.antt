-- The text of each reply, and the lines of a byte string.
use Rattle.std.specs.Prelude.{ℕ, ◌+◌, ◌-◌, List, [], ◌∷◌, ◌++◌, map, flat_map, codes, decimal, Option, Some, None, Bool, true, false, ◌||◌, ◌==◌, if◌then◌else◌}
use Rattle.std.specs.List.{list_all}
use Rattle.qc_base.specs.declared.fact.Kind.{Kind}
use Rattle.qc_base.specs.declared.fact.Kind.TheVariants.{Normal, Final}
use Rattle.qc_base.specs.declared.log_line.Heard.{Heard}
use Rattle.qc_base.specs.declared.log_line.Heard.TheVariants.{BeginPrepare, PrepareRecord, EndPrepare, BeginCommit, CommitRecord, EndCommit, BeginAbort, AbortRecord, EndAbort}
use Rattle.qc_base.specs.declared.log_line.Notice.{Notice}
use Rattle.qc_base.specs.declared.log_line.Why.{Why}
use Rattle.qc_base.specs.declared.log_line.Why.TheVariants.{Step, Forced, NotReady}
use Rattle.qc_base.specs.declared.log_line.Recovered.{Recovered}
use Rattle.qc_base.specs.declared.queue.Waiting.{Waiting}
use Rattle.qc_protocol.specs.declared.reply.ShownRow.{ShownRow}
use Rattle.qc_protocol.specs.declared.reply.Reply.{Reply}
use Rattle.qc_protocol.specs.declared.reply.Reply.TheVariants.{Opened, Recorded, Sent, SentNothing, Cancelled, Taken, Worked, StepFailed, Committed, NotCommitted, Finished, Played, PlayFailed, Moved, Switched, Queues, Table, Outside, Refused}
use Rattle.qc_protocol.specs.Refusals.{refusal_text}

-- the pieces with a separator between each two
abbrev pub join_with : List ℕ → List (List ℕ) → List ℕ
join_with by [] = []
join_with by (piece ∷ []) = piece
join_with by (piece ∷ next ∷ pieces) = piece ++ by ++ join_with by (next ∷ pieces)

-- after one space, or nothing where there is none
abbrev pub after_space : List (List ℕ) → List ℕ
after_space [] = []
after_space (piece ∷ pieces) = codes " " ++ join_with (codes ", ") (piece ∷ pieces)

-- a text between quotes
abbrev pub escaped_byte : ℕ → List ℕ
escaped_byte b = if (b == 34) || (b == 92) then 92 ∷ b ∷ [] else b ∷ []

abbrev pub quoted_text : List ℕ → List ℕ
quoted_text text = 34 ∷ flat_map escaped_byte text ++ 34 ∷ []

-- the name of a queue
abbrev pub queue_name : List ℕ → ℕ → List ℕ
queue_name app queue = if queue == 0 then app else if queue == 6 then app ++ codes "_DeadQueue" else app ++ codes "_" ++ decimal (queue - 1)

abbrev pub kind_text : Kind → List ℕ
kind_text Normal = codes "normal"
kind_text Final = codes "final"

abbrev pub bool_text : Bool → List ℕ
bool_text true = codes "true"
bool_text false = codes "false"

abbrev pub outcome_text : Bool → List ℕ
outcome_text true = codes "commit"
outcome_text false = codes "abort"

abbrev pub heard_text : Heard → List ℕ
heard_text BeginPrepare = codes "BeginPrepare"
heard_text (PrepareRecord seq forget) = codes "PrepareRecord " ++ decimal seq ++ (if forget then codes " forget" else codes " keep")
heard_text (EndPrepare ready) = if ready then codes "EndPrepare ready" else codes "EndPrepare notready"
heard_text (BeginCommit recovery) = codes "BeginCommit " ++ bool_text recovery
heard_text (CommitRecord seq) = codes "CommitRecord " ++ decimal seq
heard_text EndCommit = codes "EndCommit"
heard_text (BeginAbort recovery) = codes "BeginAbort " ++ bool_text recovery
heard_text (AbortRecord seq) = codes "AbortRecord " ++ decimal seq
heard_text EndAbort = codes "EndAbort"

abbrev pub notice_text : Notice → List ℕ
notice_text n = n.resource ++ codes " " ++ heard_text n.heard

abbrev pub notices_text : List Notice → List ℕ
notices_text [] = codes "-"
notices_text (n ∷ ns) = join_with (codes ", ") (map notice_text (n ∷ ns))

abbrev pub why_text : Why → List ℕ
why_text (Step call step) = codes "call " ++ decimal call ++ codes " step " ++ decimal step
why_text Forced = codes "forced"
why_text (NotReady resource) = codes "notready " ++ resource

abbrev pub waiting_text : Waiting → List ℕ
waiting_text w = decimal w.id ++ codes "/" ++ decimal w.tries ++ codes "/" ++ decimal w.due

abbrev pub queue_text : List ℕ → ℕ → List Waiting → List ℕ
queue_text app queue waiting = queue_name app queue ++ after_space (map waiting_text waiting) ++ codes "; "

abbrev pub queues_text : List ℕ → ℕ → List (List Waiting) → List ℕ
queues_text app queue [] = []
queues_text app queue (w ∷ ws) = queue_text app queue w ++ queues_text app (queue + 1) ws

abbrev pub amount_text : Option ℕ → List ℕ
amount_text (Some n) = decimal n
amount_text None = codes "missing"

abbrev pub row_text : ShownRow → List ℕ
row_text r = quoted_text r.key ++ codes " " ++ amount_text r.amount

abbrev pub rows_text : List ShownRow → ℕ → List ℕ
rows_text rows total = after_space (map row_text rows) ++ codes "; total " ++ decimal total

abbrev pub attempt_text : ℕ → List ℕ
attempt_text n = codes " attempt " ++ decimal n ++ codes " "

abbrev pub reply_text : Reply → List ℕ
reply_text Opened = codes "opened"
reply_text (Recorded n) = codes "recorded " ++ decimal n
reply_text (Sent id) = codes "sent " ++ decimal id
reply_text SentNothing = codes "sent nothing"
reply_text (Cancelled n) = codes "cancelled " ++ decimal n
reply_text (Taken id attempt kind calls) = codes "taken " ++ decimal id ++ attempt_text attempt ++ kind_text kind ++ codes " calls " ++ decimal calls
reply_text (Worked call left) = codes "worked call " ++ decimal call ++ codes " left " ++ decimal left
reply_text (StepFailed call step) = codes "failed call " ++ decimal call ++ codes " step " ++ decimal step
reply_text (Committed attempt notices) = codes "committed attempt " ++ decimal attempt ++ codes ": " ++ notices_text notices
reply_text (NotCommitted attempt why notices) = codes "failed" ++ attempt_text attempt ++ why_text why ++ codes ": " ++ notices_text notices
reply_text (Finished attempt committed notices) = codes "finished" ++ attempt_text attempt ++ outcome_text committed ++ codes ": " ++ notices_text notices
reply_text (Played id attempt kind notices) = codes "played " ++ decimal id ++ attempt_text attempt ++ kind_text kind ++ codes " commit: " ++ notices_text notices
reply_text (PlayFailed id attempt kind why notices) = codes "played " ++ decimal id ++ attempt_text attempt ++ kind_text kind ++ codes " failed " ++ why_text why ++ codes ": " ++ notices_text notices
reply_text (Moved n) = codes "moved " ++ decimal n
reply_text (Switched app on) = codes "switched " ++ app ++ (if on then codes " on" else codes " off")
reply_text (Queues app queues dead consumed) = codes "queues " ++ queues_text app 0 queues ++ queue_name app 6 ++ after_space (map decimal dead) ++ codes "; consumed " ++ decimal consumed
reply_text (Table name rows total) = codes "table " ++ name ++ rows_text rows total
reply_text (Outside name rows total) = codes "outside " ++ name ++ rows_text rows total
reply_text (Refused refusal) = codes "refused " ++ refusal_text refusal

abbrev pub recovered_text : Recovered → List ℕ
recovered_text r = codes "recovered" ++ attempt_text r.attempt ++ outcome_text r.committed ++ codes ": " ++ notices_text r.notices

-- the pieces that end with byte 10, and what stands behind the last of them
pub record Pieces : Type 0 where
  pub ended : List (List ℕ)
  pub rest : List ℕ

-- a byte in front of the first piece
abbrev pub grow_first : ℕ → List (List ℕ) → List ℕ → Pieces
grow_first b [] rest = record { ended = []; rest = b ∷ rest }
grow_first b (line ∷ lines) rest = record { ended = (b ∷ line) ∷ lines; rest = rest }

abbrev pub before_pieces : ℕ → Pieces → Pieces
before_pieces b p = if b == 10 then record { ended = [] ∷ p.ended; rest = p.rest } else grow_first b p.ended p.rest

abbrev pub pieces_of : List ℕ → Pieces
pieces_of [] = record { ended = []; rest = [] }
pieces_of (b ∷ bytes) = before_pieces b (pieces_of bytes)

-- a piece that no byte 10 ends is a line where it isn't empty
abbrev pub unended_line : List ℕ → List (List ℕ)
unended_line [] = []
unended_line (b ∷ bytes) = (b ∷ bytes) ∷ []

abbrev pub ended_lines : List ℕ → List (List ℕ)
ended_lines bytes = (pieces_of bytes).ended

-- the pieces that end with byte 10, and a last piece that isn't empty
abbrev pub lines_of : List ℕ → List (List ℕ)
lines_of bytes = ended_lines bytes ++ unended_line (pieces_of bytes).rest

-- spaces, tabs and byte 13 alone
abbrev pub is_blank : List ℕ → Bool
is_blank line = list_all (λ b. (b == 32) || ((b == 9) || (b == 13))) line
