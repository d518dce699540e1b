use Rattle.std.proofs.Common.{◌<◌, ◌∙◌, length, map, sym, ap, arith}
use Rattle.qc_rows.specs.Places.{is_ready, places_of}
use Rattle.qc_rows.proofs.Places.{widens-on, ready-more}
use Rattle.qc_rows.proofs.tables.reserve_rows.Goals as goal

pub loop-row-preserved : goal.loop-row-preserved
loop-row-preserved c =
    let loop = c.loop-row in
    let tables = c.reserve_row.new.tables in
    let widened = c.reserve_row.ensures.widened in
    let within : loop.row-index < length c.args.rows.now = omega (arith, c.loop-row-test.true) in
    record {
      widened = widens-on c.args.tables.now loop.tables tables loop.invariant.widened widened;
      reserved = ready-more (map places_of loop.tables) (map places_of tables) widened.reserved c.args.rows.now loop.row-index c.row-item.result within loop.invariant.reserved
          (ap (is_ready (map places_of tables)) (sym c.row-item.is) ∙ c.in_ok-reserve_row.ensures.reserved);
    }
