-- Orders that list.
use Rattle.std.specs.Prelude.{ℕ, List, [], length, map, sum_by, Some, unwrap_or}
use Rattle.std.specs.Option.{option_map_or}
use Rattle.qc_base.specs.declared.message.Message.{Message}
use Rattle.qc_base.specs.Messages.{waiting_queues, dead_ids, consumed_ids}
use Rattle.qc_base.specs.Rows.{OutsideRows}
use Rattle.qc_protocol.specs.declared.reply.ShownRow.{ShownRow}
use Rattle.qc_protocol.specs.declared.reply.Reply.{Reply}
use Rattle.qc_protocol.specs.declared.reply.Reply.TheVariants.{Queues as ShowQueues, Table as ShowTable, Outside as ShowOutside}
use Rattle.qc_catalogue.specs.declared.catalogue.Resource.{Resource}
use Rattle.qc_catalogue.specs.Lookup.{resource_named}
use Rattle.qc_rows.specs.Tables.{TableRows, rows_shown, total_in}

-- the queues of an application, its dead queue, and how many messages it consumed
abbrev pub queues_shown : List Message → List ℕ → Reply
queues_shown messages app = ShowQueues app (waiting_queues app messages) (dead_ids app messages) (length (consumed_ids app messages))

-- A table's rows, and the sum of their amounts. The rows of a history's tables are kept, and so shown, in byte order of
-- their keys, and none of them has 0 (`tables_are_listed_in_order`).

abbrev pub shown_row : List ℕ × ℕ → ShownRow
shown_row r = record { key = r.0; amount = Some r.1 }

abbrev pub table_shown : List TableRows → List ℕ → Reply
table_shown tables name = ShowTable name (map shown_row (rows_shown name tables)) (total_in name tables)

-- A resource's rows as the catalogue names them, in its order, each with the amount that the site holds and without one
-- where the row isn't there, and the sum of these amounts.

abbrev pub rows_named : List ℕ → List Resource → List (List ℕ × ℕ)
rows_named name resources = option_map_or (λ (r : Resource). r.rows) (resource_named name resources) []

abbrev pub held_row : OutsideRows → List ℕ → List ℕ × ℕ → ShownRow
held_row rows name r = record { key = r.0; amount = rows name r.0 }

abbrev pub shown_total : List ShownRow → ℕ
shown_total shown = sum_by (λ (r : ShownRow). unwrap_or r.amount 0) shown

abbrev pub held_shown : OutsideRows → List ℕ → List (List ℕ × ℕ) → Reply
held_shown rows name named = let shown = map (held_row rows name) named in ShowOutside name shown (shown_total shown)

abbrev pub outside_shown : OutsideRows → List Resource → List ℕ → Reply
outside_shown rows resources name = held_shown rows name (rows_named name resources)
