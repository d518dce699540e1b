use Rattle.std.proofs.Common.{◌≡◌, drop}
use Rattle.crm_clerk.specs.Places.{seq_from}
use Rattle.crm_clerk.proofs.book.seq_at.Given as goal

abbrev pub invariant-loop-at : goal.invariant-loop-at
invariant-loop-at l = seq_from l.at l.seq (drop l.at l.records) ≡ seq_from 0 l.seq l.records
