use Rattle.std.proofs.Common.{◌∙◌, filter, ap}
use Rattle.qc_catalogue.specs.Laws.{keys_ascend}
use Rattle.qc_rows.specs.Tables.{is_set, rows_shown}
use Rattle.qc_rows.specs.Places.{TablesView}
use Rattle.qc_rows.proofs.Places.{means-shown, kept-ascend}
use Rattle.qc_rows.proofs.tables.Tables.rows.Goals as goal

pub returns-clause-rows : goal.returns-clause-rows
returns-clause-rows c =
    let name = c.args.table.now in
    ap (filter is_set) (c.rows_of.ensures ∙ ap (rows_shown name) c.as_slice.ensures.value)
    ∙ means-shown name c.self.inside.tables.items ∙ ap (λ (v : TablesView). rows_shown name v.tables) c.self.view_is

pub returns-clause-ascend : goal.returns-clause-ascend
returns-clause-ascend c =
    let name = c.args.table.now in
    ap keys_ascend (c.rows_of.ensures ∙ ap (rows_shown name) c.as_slice.ensures.value) ∙ kept-ascend name c.self.inside.tables.items c.self.invariant
