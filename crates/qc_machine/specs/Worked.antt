-- Worked orders: the sites they go to, and failures up to the final attempt. `WorkedMoves` has moves.
use Rattle.std.specs.Prelude.{ℕ, List, [], ◌∷◌, Some, None, codes}
use Rattle.qc_base.specs.declared.fact.Fact.TheVariants.{Catalogue as InForce}
use Rattle.qc_base.specs.Rows.{OutsideRows}
use Rattle.qc_protocol.specs.declared.order.Act.{Act}
use Rattle.qc_protocol.specs.declared.order.Act.TheVariants.{Send, Take, Work, Play, Queues, Table}
use Rattle.qc_protocol.specs.declared.order.Order.{Order}
use Rattle.qc_protocol.specs.declared.order.RawArg.TheVariants.{Text, Whole}
use Rattle.qc_protocol.specs.Texts.{reply_text}
use Rattle.qc_catalogue.specs.declared.catalogue.App.{App}
use Rattle.qc_catalogue.specs.declared.catalogue.Catalogue.{Catalogue}
use Rattle.qc_catalogue.specs.declared.catalogue.Component.{Component}
use Rattle.qc_catalogue.specs.declared.catalogue.Exception.{Exception}
use Rattle.qc_catalogue.specs.Sample.{said_tables, said_resources, said_class, said_plain, item_and_qty, one_whole, need_stock, take_stock, row_of_item, only}
use Rattle.qc_script.specs.declared.step.Step.TheVariants.{Add}
use Rattle.qc_script.specs.declared.step.Term.TheVariants.{Param as Taken}
use Rattle.qc_machine.specs.History.{Reader, history_of}
use Rattle.qc_machine.specs.Sites.{as_read}
use Rattle.qc_machine.specs.State.{State}
use Rattle.qc_machine.specs.Step.{step}

-- the sample catalogue, but that Order changes nothing outside

abbrev pub inside_order : Component
inside_order = record {
  name = codes "Order";
  exception = Some (codes "OrderLast");
  methods =
      record { name = codes "Notify"; params = one_whole; script = [] }
      ∷ record { name = codes "Place"; params = item_and_qty; script = need_stock ∷ take_stock ∷ Add (row_of_item (codes "sold")) (only (Taken 1)) ∷ [] }
      ∷ [];
}

abbrev pub orders_app : Exception → App
orders_app class = record { name = codes "Orders"; exceptions = class ∷ []; components = inside_order ∷ said_plain ∷ [] }

abbrev pub with_apps : List App → Catalogue
with_apps apps = record { tables = said_tables; resources = said_resources; apps = apps }

abbrev pub inside_catalogue : Catalogue
inside_catalogue = with_apps (orders_app said_class ∷ [])

-- the same, but that the exception class needs what Place needs, after its own script has counted the attempt

abbrev pub failing_class : Exception
failing_class = record {
  name = codes "OrderLast";
  last = said_class.last;
  methods =
      record { name = codes "Notify"; params = one_whole; script = [] }
      ∷ record { name = codes "Place"; params = item_and_qty; script = need_stock ∷ [] }
      ∷ [];
}

abbrev pub failing_catalogue : Catalogue
failing_catalogue = with_apps (orders_app failing_class ∷ [])

-- a site that was just made

abbrev pub reads_as : Catalogue → Reader
reads_as c text = Some c

abbrev pub no_rows : OutsideRows
no_rows resource key = None

-- A site whose one fact puts the catalogue in force; no text is spelled, since any text is read as the catalogue. The
-- journal's end gate is taken to stand at byte 100, so that the file has 101 bytes. The log of compensations has nothing
-- but its header of 16 bytes and the end gate. Each file may grow to 2^40 bytes, and 20,000 messages may be live.
abbrev pub made_with : Catalogue → State
made_with c = as_read (record { log_bytes = 1099511627776; live = 20000 }) (history_of (reads_as c) (InForce [] ∷ [])) no_rows (record { gate = 100; size = 101 }) (record { gate = 16; size = 17 })

abbrev pub made : State
made = made_with inside_catalogue

-- orders in turn, and their replies

abbrev pub after : State → List Order → State
after s [] = s
after s (order ∷ orders) = after (step s order).state orders

abbrev pub replies : State → List Order → List (List ℕ)
replies s [] = []
replies s (order ∷ orders) = reply_text (step s order).reply ∷ replies (step s order).state orders

-- orders

abbrev pub first : Act → Order
first act = record { at = 0; act = act }

-- more than there is
abbrev pub too_many_bolts : List ℕ → List ℕ → List ℕ → Order
too_many_bolts app component method = first (Send app component (record { method = method; args = Text (codes "bolt") ∷ Whole 11 ∷ [] } ∷ []))

abbrev pub placing : Order
placing = too_many_bolts (codes "Orders") (codes "Order") (codes "Place")

abbrev pub taking : Order
taking = too_many_bolts (codes "Orders") (codes "Plain") (codes "Take")

abbrev pub queues : Order
queues = first (Queues (codes "Orders"))

abbrev pub take : Order
take = first (Take 1 (codes "Orders"))

abbrev pub play : ℕ → Order
play t = record { at = t; act = Play 1 (codes "Orders") }

-- what a listing says of a state
abbrev pub listed : State → List ℕ
listed s = reply_text (step s queues).reply

-- eighteen failures, each when its message is due, and what follows with an exception class and without

abbrev pub eighteen : List Order
eighteen =
    play 0 ∷ play 0 ∷ play 0 ∷ play 60 ∷ play 120 ∷ play 180 ∷ play 300 ∷ play 420 ∷ play 540
    ∷ play 780 ∷ play 1020 ∷ play 1260 ∷ play 1740 ∷ play 2220 ∷ play 2700 ∷ play 3660 ∷ play 4620 ∷ play 5580 ∷ []

abbrev pub waits_for_last : State
waits_for_last = after made (placing ∷ eighteen)

abbrev pub waiting_last : List ℕ
waiting_last = codes "queues Orders; Orders_0; Orders_1; Orders_2; Orders_3; Orders_4 1/3/5580; Orders_DeadQueue; consumed 0"

abbrev pub last_orders : List Order
last_orders = queues ∷ play 5580 ∷ first (Table (codes "finals")) ∷ first (Table (codes "lost")) ∷ queues ∷ []

abbrev pub last_replies : List (List ℕ)
last_replies =
    waiting_last
    ∷ codes "played 1 attempt 19 final commit: -"
    ∷ codes "table finals \"count\" 1; total 1"
    ∷ codes "table lost \"bolt\" 11; total 11"
    ∷ codes "queues Orders; Orders_0; Orders_1; Orders_2; Orders_3; Orders_4; Orders_DeadQueue; consumed 1"
    ∷ []

abbrev pub last_calls : List Order
last_calls = record { at = 5580; act = Take 1 (codes "Orders") } ∷ first (Work 1) ∷ first (Work 1) ∷ []

abbrev pub last_worked : List (List ℕ)
last_worked = codes "taken 1 attempt 19 final calls 2" ∷ codes "worked call 0 left 1" ∷ codes "worked call 1 left 0" ∷ []

abbrev pub dead : List ℕ
dead = codes "queues Orders; Orders_0; Orders_1; Orders_2; Orders_3; Orders_4; Orders_DeadQueue 1; consumed 0"

-- the final attempt fails too

abbrev pub waits_to_fail : State
waits_to_fail = after (made_with failing_catalogue) (placing ∷ eighteen)

abbrev pub failed_replies : List (List ℕ)
failed_replies =
    waiting_last
    ∷ codes "played 1 attempt 19 final failed call 1 step 1: -"
    ∷ codes "table finals; total 0"
    ∷ codes "table lost; total 0"
    ∷ dead
    ∷ []
