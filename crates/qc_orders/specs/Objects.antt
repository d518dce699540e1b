-- What an object asks for, as the object is read.
use Rattle.std.specs.Prelude.{ℕ, List, Result}
use Rattle.serde_json.specs.View.{view}
use Rattle.qc_protocol.specs.declared.order.Member.{Member}
use Rattle.qc_protocol.specs.declared.order.Act.{Act}
use Rattle.qc_orders.specs.declared.object.Object.{Object}
use Rattle.qc_orders.specs.Orders.{Kind, Makes, along, by_word}

-- along such members
abbrev pub asked_along : {A : Type 0} → Object → (ms : List (Member × Kind)) → Makes A ms → Result A Member
asked_along o ms make = along o.moment (view o.value.now) ms make

-- along the row of a word
abbrev pub asked_by : Object → List ℕ → Result Act Member
asked_by o word = by_word o.moment (view o.value.now) word
