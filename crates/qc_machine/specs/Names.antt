-- What an order names that the catalogue lacks.
use Rattle.std.specs.Prelude.{ℕ, List, Option, Some, None, option_and_then, is_none}
use Rattle.qc_protocol.specs.declared.order.Act.{Act}
use Rattle.qc_protocol.specs.declared.order.Act.TheVariants.{Take, Play, Switch, Queues, Table, Outside}
use Rattle.qc_protocol.specs.declared.reply.Refusal.{Refusal}
use Rattle.qc_protocol.specs.declared.reply.Refusal.TheVariants.{UnknownApp, UnknownTable}
use Rattle.qc_catalogue.specs.declared.catalogue.Catalogue.{Catalogue}
use Rattle.qc_catalogue.specs.Lookup.{app_named, resource_named, table_named}
use Rattle.qc_machine.specs.State.{State}
use Rattle.qc_machine.specs.Refuse.{refuse_if}

-- the application that an order asks for
abbrev pub app_asked : Act → Option (List ℕ)
app_asked (Take n app) = Some app
app_asked (Play n app) = Some app
app_asked (Switch app on) = Some app
app_asked (Queues app) = Some app
app_asked _ = None

abbrev pub app_unknown : Catalogue → List ℕ → Option Refusal
app_unknown c app = refuse_if (is_none (app_named app c.apps)) UnknownApp

abbrev pub unknown_app : State → Act → Option Refusal
unknown_app s act = option_and_then (app_unknown s.history.catalogue) (app_asked act)

-- the table or the resource that an order asks for

abbrev pub table_unknown : Catalogue → List ℕ → Option Refusal
table_unknown c name = refuse_if (is_none (table_named name c.tables)) UnknownTable

abbrev pub resource_unknown : Catalogue → List ℕ → Option Refusal
resource_unknown c name = refuse_if (is_none (resource_named name c.resources)) UnknownTable

abbrev pub unknown_table : State → Act → Option Refusal
unknown_table s (Table name) = table_unknown s.history.catalogue name
unknown_table s (Outside name) = resource_unknown s.history.catalogue name
unknown_table s _ = None
