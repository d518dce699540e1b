use Rattle.std.proofs.Common.{◌≡◌, drop}
use Rattle.qc_listener.specs.Index.{entry_of}
use Rattle.qc_listener.proofs.index.RowIndex.rows.Given as goal

abbrev pub invariant-loop-entry : goal.invariant-loop-entry
invariant-loop-entry l = entry_of l.id l.entry-items ≡ entry_of l.id (drop l.entry-index l.entry-items)
