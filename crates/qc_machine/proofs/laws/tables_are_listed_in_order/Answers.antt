use Rattle.qc_machine.proofs.TableOrder.{listings-ascend, tables-canonical}
use Rattle.qc_machine.proofs.laws.tables_are_listed_in_order.Goals as goal

pub returns : goal.returns
returns c = record { order = listings-ascend; canonical = tables-canonical }
