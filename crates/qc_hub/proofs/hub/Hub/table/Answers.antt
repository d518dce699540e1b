use Rattle.std.proofs.Common.{◌≡◌, ◌≤◌, ◌∙◌, max, List, map, ap, rules, Some, None}
use Rattle.qc_protocol.specs.declared.reply.Refusal.TheVariants.{UnknownTable}
use Rattle.qc_protocol.specs.declared.reply.Reply.{Reply}
use Rattle.qc_protocol.specs.declared.reply.Reply.TheVariants.{Refused}
use Rattle.qc_catalogue.specs.Lookup.{table_named}
use Rattle.qc_rows.specs.Places.{TablesView}
use Rattle.qc_rows.specs.Tables.{TableRows, rows_shown, total_in}
use Rattle.qc_machine.specs.Listing.{shown_row}
use Rattle.qc_machine.specs.State.{at_moment}
use Rattle.qc_machine.specs.Steps.{stays}
use Rattle.qc_hub.specs.declared.hub.Hub.{Hub}
use Rattle.qc_hub.proofs.InMemory.{reply-in-memory, unmoved-in-memory, at_last, soon}
use Rattle.qc_hub.proofs.Asked.{show-unknown, show-known, found-table, table-is}
use Rattle.qc_hub.proofs.hub.Hub.table.Goals as goal

pub returns-in_default : goal.returns-in_default
returns-in_default c =
    let hub : Hub = c.args.self.now in
    let le : max c.args.at hub.last ≤ 1000000000000 = soon c.args.at hub.last c.later-last.result c.later-last.ensures.value c.later-last.ensures.bound in
    let none : table_named c.args.table.now hub.history.catalogue.tables ≡ None = search rules in
    reply-in-memory c.args.at _ hub _ (Refused UnknownTable) (at_last hub _ _ c.later-last.ensures.value) le (λ s h. show-unknown hub s h c.args.at c.args.table.now none)

pub returns-in_default-list : goal.returns-in_default-list
returns-in_default-list c = unmoved-in-memory c.args.at _ c.args.self.now

pub returns-in_default-shown_rows : goal.returns-in_default-shown_rows
returns-in_default-shown_rows c = unmoved-in-memory c.args.at _ c.args.self.now

pub returns : goal.returns
returns c =
    let hub : Hub = c.args.self.now in
    let le : max c.args.at hub.last ≤ 1000000000000 = soon c.args.at hub.last c.later-last.result c.later-last.ensures.value c.later-last.ensures.bound in
    let found : table_named c.args.table.now hub.history.catalogue.tables ≡ Some c.in-Some.opening.now = search rules in
    let named = c.copy-name.ensures ∙ found-table hub.history.catalogue.tables c.args.table.now c.in-Some.opening.now found in
    let listed : List TableRows = hub.history.tables.tables in
    reply-in-memory c.args.at _ hub _ _ (at_last hub _ _ c.later-last.ensures.value) le
    (λ s h. show-known hub s h c.args.at c.args.table.now c.in-Some.opening.now found
    ∙ ap (λ (r : Reply). stays (at_moment c.args.at s) r) (table-is listed s.history.tables c.args.table.now c.copy-name.result _ _ _ named h.history.tables (c.in-Ok-shown_rows.ensures ∙ ap (map shown_row) c.as_slice.ensures.value)
    (c.in-Ok.ensures ∙ ap (λ (t : TablesView). rows_shown c.copy-name.result t.tables) c.tables.ensures) (c.total-total.ensures ∙ ap (λ (t : TablesView). total_in c.copy-name.result t.tables) c.tables-2.ensures)))
