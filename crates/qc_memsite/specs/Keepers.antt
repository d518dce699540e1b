-- The rows of a keeper in memory.
use Rattle.qc_base.specs.Rows.{OutsideRows}
use Rattle.qc_memsite.specs.declared.keeper.MemKeeper.{MemKeeper}
use Rattle.qc_memsite.specs.Rows.{row_of}

abbrev pub rows_by : MemKeeper → OutsideRows
rows_by keeper = λ r k. row_of keeper.rows.rows.items r k
