-- Worked lines: each order, and the member at fault of lines that are none.
use Rattle.std.specs.Prelude.{ℕ, List, [], ◌∷◌, Result, Ok, Err, true, codes}
use Rattle.qc_protocol.specs.declared.order.Member.{Member}
use Rattle.qc_protocol.specs.declared.order.Member.TheVariants.{Line, Unknown, At, Do, App, Args, Calls, Player, Batch, On}
use Rattle.qc_protocol.specs.declared.order.RawArg.TheVariants.{Text, Whole, Other}
use Rattle.qc_protocol.specs.declared.order.Order.{Order}
use Rattle.qc_protocol.specs.declared.order.Act.{Act}
use Rattle.qc_protocol.specs.declared.order.Act.TheVariants.{OpenSlot, CallSlot, CommitSlot, CancelSlot, Send, Take, Work, End, Phase, Play, Move, Switch, Queues, Table as TableOf, Outside}
use Rattle.qc_orders.specs.Orders.{raw_call}

-- what is asked for at the moment 7
abbrev pub worked_orders : List (List ℕ × Act)
worked_orders = (
  codes "{\"at\":7,\"do\":\"open\",\"client\":3,\"app\":\"A\",\"component\":\"C\"}",
  OpenSlot 3 (codes "A") (codes "C"),
)
    ∷ (
      codes "{\"at\":7,\"do\":\"call\",\"client\":3,\"method\":\"M\",\"args\":[\"a\",4,null]}",
      CallSlot 3 (raw_call (codes "M") (Text (codes "a") ∷ Whole 4 ∷ Other ∷ [])),
    )
    ∷ (codes "{\"at\":7,\"do\":\"commit\",\"client\":3}", CommitSlot 3)
    ∷ (codes "{\"at\":7,\"do\":\"cancel\",\"client\":3}", CancelSlot 3)
    ∷ (
      codes "{\"at\":7,\"do\":\"send\",\"app\":\"A\",\"component\":\"C\",\"calls\":[[\"M\",4],[\"N\"]]}",
      Send (codes "A") (codes "C") (raw_call (codes "M") (Whole 4 ∷ []) ∷ raw_call (codes "N") [] ∷ []),
    )
    ∷ (codes "{\"at\":7,\"do\":\"take\",\"player\":3,\"app\":\"A\"}", Take 3 (codes "A"))
    ∷ (codes "{\"at\":7,\"do\":\"play\",\"player\":3,\"app\":\"A\"}", Play 3 (codes "A"))
    ∷ (codes "{\"at\":7,\"do\":\"work\",\"player\":3}", Work 3)
    ∷ (codes "{\"at\":7,\"do\":\"end\",\"player\":3}", End 3)
    ∷ (codes "{\"at\":7,\"do\":\"phase\",\"player\":3}", Phase 3)
    ∷ (
      codes "{\"at\":7,\"do\":\"move\",\"from\":\"F\",\"to\":\"T\",\"batch\":18446744073709551615}",
      Move (codes "F") (codes "T") 18446744073709551615,
    )
    ∷ (codes "{\"at\":7,\"do\":\"switch\",\"app\":\"A\",\"on\":true}", Switch (codes "A") true)
    ∷ (codes "{\"at\":7,\"do\":\"queues\",\"app\":\"A\"}", Queues (codes "A"))
    ∷ (codes "{\"at\":7,\"do\":\"table\",\"table\":\"T\"}", TableOf (codes "T"))
    ∷ (codes "{\"at\":7,\"do\":\"outside\",\"resource\":\"R\"}", Outside (codes "R"))
    ∷ []

abbrev pub worked_faults : List (List ℕ × Member)
worked_faults =
    (codes "nonsense", Line)
    ∷ (codes "[1]", Line)
    ∷ (codes "{}", At)
    ∷ (codes "{\"at\":1000000000001,\"do\":\"work\",\"player\":3}", At)
    ∷ (codes "{\"at\":0}", Do)
    ∷ (codes "{\"at\":0,\"do\":7}", Do)
    ∷ (codes "{\"at\":0,\"do\":\"stop\"}", Do)
    ∷ (codes "{\"do\":\"stop\"}", At)
    ∷ (codes "{\"at\":0,\"do\":\"take\",\"player\":-1,\"app\":\"Orders\"}", Player)
    ∷ (codes "{\"at\":0,\"do\":\"take\",\"app\":7}", Player)
    ∷ (codes "{\"at\":0,\"do\":\"take\",\"player\":1,\"x\":0}", App)
    ∷ (codes "{\"at\":0,\"do\":\"take\",\"player\":1,\"app\":\"Orders\",\"x\":0}", Unknown)
    ∷ (codes "{\"at\":0,\"do\":\"move\",\"from\":\"F\",\"to\":\"T\",\"batch\":18446744073709551616}", Batch)
    ∷ (codes "{\"at\":0,\"do\":\"switch\",\"app\":\"A\",\"on\":\"true\"}", On)
    ∷ (codes "{\"at\":0,\"do\":\"call\",\"client\":1,\"method\":\"M\",\"args\":{}}", Args)
    ∷ (codes "{\"at\":0,\"do\":\"send\",\"app\":\"A\",\"component\":\"C\",\"calls\":[[\"M\"],[]]}", Calls)
    ∷ []

-- an object with the moment 7 handed in

abbrev pub worked_bodies : List (List ℕ × Result Order Member)
worked_bodies =
    (codes "{\"do\":\"work\",\"player\":3}", Ok (record { at = 7; act = Work 3 }))
    ∷ (codes "{}", Err Do)
    ∷ (codes "{\"at\":0,\"do\":\"work\",\"player\":3}", Err Unknown)
    ∷ []
