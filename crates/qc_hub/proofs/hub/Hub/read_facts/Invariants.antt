use Rattle.std.proofs.Common.{◌-◌}
use Rattle.qc_hub.proofs.OpeningRuns.{Reading}
use Rattle.qc_hub.proofs.hub.Hub.read_facts.Given as goal

abbrev pub invariant-loop-next : goal.invariant-loop-next
invariant-loop-next g l = Reading g.S.Site l.fn.site l.site l.fn.self l.self l.numbers.items

abbrev pub decreases-loop-next : goal.decreases-loop-next
decreases-loop-next g l = 4611686018427387904 - l.self.journal.place
