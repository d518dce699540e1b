use Rattle.qc_journal.proofs.Refused.{ids_none, ids_over, ids_short}
use Rattle.qc_journal.proofs.fact_reader.ids_from.Goals as goal

pub returns-then-count-lt1 : goal.returns-then-count-lt1
returns-then-count-lt1 c = ids_none _ _ c.in-Some.count c.in-Some.ensures c.if-count-lt1.true

pub returns-then-count-gt1000 : goal.returns-then-count-gt1000
returns-then-count-gt1000 c = ids_over _ _ c.in-Some.count c.in-Some.ensures c.if-count-gt1000.true

pub returns-in_default-read_u64 : goal.returns-in_default-read_u64
returns-in_default-read_u64 c = ids_short _ _ c.in-Some.count c.in-Some.ensures _ _ c.loop.counter c.loop.invariant c.loop-test.true c.in_default-read_u64.ensures
