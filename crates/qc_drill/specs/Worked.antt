-- Worked lines, and the bytes that have to come of them.
use Rattle.std.specs.Prelude.{ℕ, List, [], ◌∷◌, ◌++◌, take, drop, codes, None}
use Rattle.qc_base.specs.declared.fact.Fact.{Fact}
use Rattle.qc_base.specs.declared.fact.Fact.TheVariants.{Catalogue as InForce}
use Rattle.qc_base.specs.Rows.{OutsideRows, set_row}
use Rattle.qc_catalogue.specs.Sample.{sample}
use Rattle.qc_frame.specs.Frame.{group}
use Rattle.qc_journal.specs.History.{fact_payload, journal_header}
use Rattle.qc_machine.specs.declared.limits.Limits.{Limits}
use Rattle.qc_machine.specs.History.{by_text, history_of}
use Rattle.qc_machine.specs.Sites.{as_read, log_header}
use Rattle.qc_machine.specs.State.{State, FileEnd}
use Rattle.qc_protocol.specs.declared.order.Act.TheVariants.{Send, Queues}
use Rattle.qc_protocol.specs.declared.order.Order.{Order}
use Rattle.qc_protocol.specs.declared.order.RawArg.TheVariants.{Text, Whole}
use Rattle.qc_drill.specs.Headline.{programs_limits}

-- A site that was just made: its one fact is the sample catalogue. The journal up to its end gate, and whole; the log
-- of compensations; the outside rows; and the state that the site is read as, under the programs' limits or with another
-- on its bytes.

abbrev pub made_facts : List Fact
made_facts = InForce sample ∷ []

abbrev pub before_gate : List ℕ
before_gate = journal_header ++ group (fact_payload (InForce sample))

abbrev pub made_journal : List ℕ
made_journal = before_gate ++ 0x00 ∷ []

abbrev pub made_log : List ℕ
made_log = log_header ++ 0x00 ∷ []

abbrev pub made_rows : OutsideRows
made_rows = set_row (codes "till") (codes "drawer") 100 (set_row (codes "post") (codes "letters") 0 (λ resource key. None))

abbrev pub made_end : FileEnd
made_end = record { gate = 16; size = 17 }

abbrev pub made_under : Limits → State
made_under limits = as_read limits (history_of by_text made_facts) made_rows (record { gate = 1672; size = 1673 }) made_end

abbrev pub just_made : State
just_made = made_under programs_limits

abbrev pub made_within : ℕ → State
made_within bytes = made_under (record programs_limits { log_bytes = bytes })

-- a send and a listing: the lines, their orders and the replies

abbrev pub send_and_queues : List ℕ
send_and_queues = codes "{\"at\":0,\"do\":\"send\",\"app\":\"Orders\",\"component\":\"Order\",\"calls\":[[\"Place\",\"bolt\",4]]}\n{\"at\":0,\"do\":\"queues\",\"app\":\"Orders\"}\n"

abbrev pub send_order : Order
send_order = record { at = 0; act = Send (codes "Orders") (codes "Order") (record { method = codes "Place"; args = Text (codes "bolt") ∷ Whole 4 ∷ [] } ∷ []) }

abbrev pub queues_order : Order
queues_order = record { at = 0; act = Queues (codes "Orders") }

abbrev pub sent_and_listed : List ℕ
sent_and_listed = codes "sent 1\nqueues Orders 1/0/0; Orders_0; Orders_1; Orders_2; Orders_3; Orders_4; Orders_DeadQueue; consumed 0\n"

-- the fact that was sent, its group, and the journal with it

abbrev pub sent_fact : List ℕ
sent_fact =
    0x02 ∷ 0x00 ∷ 0x00 ∷ 0x00 ∷ 0x00 ∷ 0x00 ∷ 0x00 ∷ 0x00 ∷ 0x01 ∷ 0x00 ∷ 0x00 ∷ 0x00 ∷ 0x00 ∷ 0x00 ∷ 0x00 ∷ 0x00
    ∷ 0x00 ∷ 0x00 ∷ 0x24 ∷ 0x06 ∷ 0x4f ∷ 0x72 ∷ 0x64 ∷ 0x65 ∷ 0x72 ∷ 0x73 ∷ 0x05 ∷ 0x4f ∷ 0x72 ∷ 0x64 ∷ 0x65 ∷ 0x72
    ∷ 0x01 ∷ 0x05 ∷ 0x50 ∷ 0x6c ∷ 0x61 ∷ 0x63 ∷ 0x65 ∷ 0x02 ∷ 0x01 ∷ 0x04 ∷ 0x62 ∷ 0x6f ∷ 0x6c ∷ 0x74 ∷ 0x02 ∷ 0x00
    ∷ 0x00 ∷ 0x00 ∷ 0x00 ∷ 0x00 ∷ 0x00 ∷ 0x00 ∷ 0x04 ∷ []

abbrev pub sent_group : List ℕ
sent_group =
    0x01 ∷ 0x00 ∷ 0x00 ∷ 0x00 ∷ 0x3b ∷ 0x00 ∷ 0x00 ∷ 0x00 ∷ 0x37
    ∷ 0x02 ∷ 0x00 ∷ 0x00 ∷ 0x00 ∷ 0x00 ∷ 0x00 ∷ 0x00 ∷ 0x00 ∷ 0x01 ∷ 0x00 ∷ 0x00 ∷ 0x00 ∷ 0x00 ∷ 0x00 ∷ 0x00 ∷ 0x00
    ∷ 0x00 ∷ 0x00 ∷ 0x24 ∷ 0x06 ∷ 0x4f ∷ 0x72 ∷ 0x64 ∷ 0x65 ∷ 0x72 ∷ 0x73 ∷ 0x05 ∷ 0x4f ∷ 0x72 ∷ 0x64 ∷ 0x65 ∷ 0x72
    ∷ 0x01 ∷ 0x05 ∷ 0x50 ∷ 0x6c ∷ 0x61 ∷ 0x63 ∷ 0x65 ∷ 0x02 ∷ 0x01 ∷ 0x04 ∷ 0x62 ∷ 0x6f ∷ 0x6c ∷ 0x74 ∷ 0x02 ∷ 0x00
    ∷ 0x00 ∷ 0x00 ∷ 0x00 ∷ 0x00 ∷ 0x00 ∷ 0x00 ∷ 0x04 ∷ []

abbrev pub sent_journal : List ℕ
sent_journal = before_gate ++ sent_group ++ 0x00 ∷ []

-- the journal without its last byte, which is the gate behind the group
abbrev pub cut_journal : List ℕ
cut_journal = before_gate ++ sent_group

-- the journal with the tag of its second fact set to 0
abbrev pub untagged_journal : List ℕ
untagged_journal = before_gate ++ take 9 sent_group ++ 0x00 ∷ drop 10 sent_group ++ 0x00 ∷ []

-- the replies where the journal has no room for the send
abbrev pub full_and_listed : List ℕ
full_and_listed = codes "refused 21 Full 1673\nqueues Orders; Orders_0; Orders_1; Orders_2; Orders_3; Orders_4; Orders_DeadQueue; consumed 0\n"

-- a send, a blank line, a send at an earlier moment, a line that is no order, and a listing that no newline ends

abbrev pub two_sends_and_queues : List ℕ
two_sends_and_queues = codes "{\"at\":5,\"do\":\"send\",\"app\":\"Orders\",\"component\":\"Order\",\"calls\":[[\"Place\",\"bolt\",4]]}\n\n{\"at\":3,\"do\":\"send\",\"app\":\"Orders\",\"component\":\"Order\",\"calls\":[[\"Place\",\"bolt\",4]]}\n{}\n{\"at\":0,\"do\":\"queues\",\"app\":\"Orders\"}"

abbrev pub two_sent_and_listed : List ℕ
two_sent_and_listed = codes "sent 1\nsent 2\nrefused 2 Malformed at\nqueues Orders 1/0/5, 2/0/5; Orders_0; Orders_1; Orders_2; Orders_3; Orders_4; Orders_DeadQueue; consumed 0\n"

-- tables: one with rows, one without, and one that the catalogue lacks

abbrev pub three_tables : List ℕ
three_tables = codes "{\"at\":0,\"do\":\"table\",\"table\":\"stock\"}\n{\"at\":0,\"do\":\"table\",\"table\":\"sold\"}\n{\"at\":0,\"do\":\"table\",\"table\":\"none\"}\n"

abbrev pub three_shown : List ℕ
three_shown = codes "table stock \"bolt\" 10, \"nut\" 3; total 13\ntable sold; total 0\nrefused 17 UnknownTable\n"

-- resources: one whose changes are made early, one whose are made late, and one that the catalogue lacks

abbrev pub three_resources : List ℕ
three_resources = codes "{\"at\":0,\"do\":\"outside\",\"resource\":\"till\"}\n{\"at\":0,\"do\":\"outside\",\"resource\":\"post\"}\n{\"at\":0,\"do\":\"outside\",\"resource\":\"none\"}\n"

abbrev pub three_held : List ℕ
three_held = codes "outside till \"drawer\" 100; total 100\noutside post \"letters\" 0; total 0\nrefused 17 UnknownTable\n"
