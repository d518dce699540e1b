use Rattle.std.proofs.Common.{◌<◌, length, set, arith}
use Rattle.qc_rows.proofs.Places.{widens-on, widens-at, reserved-more}
use Rattle.qc_rows.proofs.tables.reserve_row.Goals as goal

pub returns-in_err-reserve_in-clause-widened : goal.returns-in_err-reserve_in-clause-widened
returns-in_err-reserve_in-clause-widened c =
    let loop = c.loop-i in
    let table = c.reserve_in.new.table in
    let within : loop.i < length loop.tables = omega (arith, c.loop-i-test.true, loop.auto.tables) in
    widens-on c.args.tables.now loop.tables (set loop.tables loop.i table) loop.invariant.widened
    (widens-at loop.tables loop.i table c.index-tables-i.result within c.reserve_in.ensures.widened)

pub loop-i-preserved : goal.loop-i-preserved
loop-i-preserved c =
    let loop = c.loop-i in
    let table = c.reserve_in.new.table in
    let within : loop.i < length loop.tables = omega (arith, c.loop-i-test.true, loop.auto.tables) in
    record {
      widened = widens-on c.args.tables.now loop.tables (set loop.tables loop.i table) loop.invariant.widened
          (widens-at loop.tables loop.i table c.index-tables-i.result within c.reserve_in.ensures.widened);
      reserved = reserved-more c.args.row.now loop.tables loop.i table within loop.invariant.reserved c.in_ok-reserve_in.ensures.reserved;
    }
