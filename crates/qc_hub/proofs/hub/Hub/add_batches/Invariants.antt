use Rattle.std.proofs.Common.{take}
use Rattle.qc_hub.proofs.BatchByBatch.{HasAdded}
use Rattle.qc_hub.proofs.hub.Hub.add_batches.Given as goal

abbrev pub invariant-loop-fact : goal.invariant-loop-fact
invariant-loop-fact g l = HasAdded g.S.Site l.count l.fn.self l.fn.site (take l.fact-index l.facts) l.facts l.self l.site
