-- Worked moves.
use Rattle.std.specs.Prelude.{ℕ, ◌+◌, List, [], ◌∷◌, codes}
use Rattle.qc_protocol.specs.declared.order.Act.TheVariants.{Work, End, Phase, Move, Queues}
use Rattle.qc_protocol.specs.declared.order.Order.{Order}
use Rattle.qc_catalogue.specs.declared.catalogue.App.{App}
use Rattle.qc_catalogue.specs.declared.catalogue.Catalogue.{Catalogue}
use Rattle.qc_catalogue.specs.Sample.{said_class, said_plain}
use Rattle.qc_machine.specs.State.{State}
use Rattle.qc_machine.specs.Worked.{after, first, made, made_with, orders_app, play, queues, take, taking, too_many_bolts, with_apps}

abbrev pub move_at : ℕ → List ℕ → List ℕ → ℕ → Order
move_at t from to batch = record { at = t; act = Move from to batch }

abbrev pub move : List ℕ → List ℕ → ℕ → Order
move from to batch = move_at 0 from to batch

abbrev pub to_the_dead : ℕ → Order
to_the_dead batch = move (codes "Orders") (codes "Orders_DeadQueue") batch

abbrev pub back : Order
back = move (codes "Orders_DeadQueue") (codes "Orders") 2

-- five messages in the input queue, and the first of them held

abbrev pub five : State
five = after made (taking ∷ taking ∷ taking ∷ taking ∷ taking ∷ [])

abbrev pub all_five : List ℕ
all_five = codes "queues Orders 1/0/0, 2/0/0, 3/0/0, 4/0/0, 5/0/0; Orders_0; Orders_1; Orders_2; Orders_3; Orders_4; Orders_DeadQueue; consumed 0"

abbrev pub one_held : State
one_held = after five (take ∷ [])

abbrev pub held_stays : List ℕ
held_stays = codes "queues Orders 1/0/0; Orders_0; Orders_1; Orders_2; Orders_3; Orders_4; Orders_DeadQueue 2, 3, 4, 5; consumed 0"

-- one message, which is held until what follows its attempt's end is done

abbrev pub held_to_the_end : List Order
held_to_the_end = taking ∷ take ∷ first (Work 1) ∷ first (End 1) ∷ to_the_dead 1 ∷ first (Phase 1) ∷ to_the_dead 1 ∷ []

abbrev pub held_replies : List (List ℕ)
held_replies =
    codes "sent 1"
    ∷ codes "taken 1 attempt 1 normal calls 1"
    ∷ codes "failed call 1 step 1"
    ∷ codes "failed attempt 1 call 1 step 1: -"
    ∷ codes "moved 0"
    ∷ codes "finished attempt 1 abort: -"
    ∷ codes "moved 1"
    ∷ []

-- a queue to itself

abbrev pub to_itself : ℕ → Order
to_itself t = move_at t (codes "Orders") (codes "Orders") 1

abbrev pub itself_replies : List (List ℕ)
itself_replies =
    codes "moved 0"
    ∷ codes "sent 1"
    ∷ codes "moved 1"
    ∷ codes "queues Orders 1/0/9; Orders_0; Orders_1; Orders_2; Orders_3; Orders_4; Orders_DeadQueue; consumed 0"
    ∷ []

-- a message that failed four times begins anew

abbrev pub failed_four_times : State
failed_four_times = after made (taking ∷ play 0 ∷ play 0 ∷ play 0 ∷ play 60 ∷ [])

abbrev pub begin_anew : List Order
begin_anew = queues ∷ move_at 61 (codes "Orders_0") (codes "Orders") 1 ∷ queues ∷ []

abbrev pub begun_anew : List (List ℕ)
begun_anew =
    codes "queues Orders; Orders_0 1/1/120; Orders_1; Orders_2; Orders_3; Orders_4; Orders_DeadQueue; consumed 0"
    ∷ codes "moved 1"
    ∷ codes "queues Orders 1/0/61; Orders_0; Orders_1; Orders_2; Orders_3; Orders_4; Orders_DeadQueue; consumed 0"
    ∷ []

-- what a crash may leave on the way back, behind each batch
abbrev pub on_the_way : List (List ℕ)
on_the_way =
    codes "queues Orders 1/0/0, 2/0/0; Orders_0; Orders_1; Orders_2; Orders_3; Orders_4; Orders_DeadQueue 3, 4, 5; consumed 0"
    ∷ codes "queues Orders 1/0/0, 2/0/0, 3/0/0, 4/0/0; Orders_0; Orders_1; Orders_2; Orders_3; Orders_4; Orders_DeadQueue 5; consumed 0"
    ∷ all_five
    ∷ []

-- a second application, with a component that takes from the same table, and messages of both

abbrev pub bills_app : App
bills_app = record { name = codes "Bills"; exceptions = []; components = said_plain ∷ [] }

abbrev pub two_apps : Catalogue
two_apps = with_apps (bills_app ∷ orders_app said_class ∷ [])

abbrev pub billing : Order
billing = too_many_bolts (codes "Bills") (codes "Plain") (codes "Take")

abbrev pub of_both : State
of_both = after (made_with two_apps) (taking ∷ billing ∷ billing ∷ [])

abbrev pub list_bills : Order
list_bills = first (Queues (codes "Bills"))

abbrev pub moves_of_bills : List Order
moves_of_bills =
    move (codes "Orders") (codes "Bills") 1
    ∷ move (codes "Orders") (codes "Bills_0") 1
    ∷ list_bills
    ∷ queues
    ∷ move (codes "Bills") (codes "Bills_DeadQueue") 1
    ∷ list_bills
    ∷ queues
    ∷ []

abbrev pub one_of_orders : List ℕ
one_of_orders = codes "queues Orders 1/0/0; Orders_0; Orders_1; Orders_2; Orders_3; Orders_4; Orders_DeadQueue; consumed 0"

abbrev pub bills_replies : List (List ℕ)
bills_replies =
    codes "refused 15 UnknownQueue to"
    ∷ codes "refused 15 UnknownQueue to"
    ∷ codes "queues Bills 2/0/0, 3/0/0; Bills_0; Bills_1; Bills_2; Bills_3; Bills_4; Bills_DeadQueue; consumed 0"
    ∷ one_of_orders
    ∷ codes "moved 2"
    ∷ codes "queues Bills; Bills_0; Bills_1; Bills_2; Bills_3; Bills_4; Bills_DeadQueue 2, 3; consumed 0"
    ∷ one_of_orders
    ∷ []

-- refusals

abbrev pub refused_moves : List Order
refused_moves =
    move (codes "Orders") (codes "Orders_9") 1
    ∷ move (codes "Orders") (codes "Orders_0") 0
    ∷ move (codes "Orders") (codes "Orders_4") 1001
    ∷ move (codes "Orders_5") (codes "Orders_9") 0
    ∷ []

abbrev pub refusals : List (List ℕ)
refusals =
    codes "refused 15 UnknownQueue to"
    ∷ codes "refused 16 BadBatch"
    ∷ codes "refused 16 BadBatch"
    ∷ codes "refused 15 UnknownQueue from"
    ∷ []

-- a state with room for so many bytes more in the journal
abbrev pub with_room : ℕ → State → State
with_room more s = record s { limits = record { log_bytes = s.journal.size + more; live = 20000 } }

abbrev pub too_full : List (List ℕ)
too_full = codes "refused 21 Full 416" ∷ all_five ∷ []
