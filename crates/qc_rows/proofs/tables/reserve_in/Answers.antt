use Rattle.qc_rows.proofs.Places.{place-tried, place-made}
use Rattle.qc_rows.proofs.tables.reserve_in.Goals as goal

pub returns-clause-widened : goal.returns-clause-widened
returns-clause-widened c = place-tried c.reserve.result c.args.table.now c.reserve.new.self c.args.row.now.key c.reserve.ensures.reserved c.reserve.ensures.same

pub returns-clause-reserved : goal.returns-clause-reserved
returns-clause-reserved c = place-made c.reserve.result c.args.table.now c.reserve.new.self c.args.row.now c.reserve.ensures.reserved
