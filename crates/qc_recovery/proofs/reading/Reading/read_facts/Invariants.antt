use Rattle.std.proofs.Common.{◌-◌}
use Rattle.qc_recovery.proofs.OpeningRuns.{Running}
use Rattle.qc_recovery.proofs.reading.Reading.read_facts.Given as goal

abbrev pub invariant-loop-next : goal.invariant-loop-next
invariant-loop-next g l = Running g.S.Site l.fn.site l.site l.fn.self l.self l.numbers.items

abbrev pub decreases-loop-next : goal.decreases-loop-next
decreases-loop-next g l = 4611686018427387904 - l.self.journal.place
