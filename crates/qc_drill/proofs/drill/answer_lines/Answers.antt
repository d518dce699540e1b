use Rattle.qc_drill.proofs.drill.answer_lines.Goals as goal

pub returns-clause-reads : goal.returns-clause-reads
returns-clause-reads g c = (c.answer_all.new.self.hub, c.answer_all.ensures.reads)

pub returns-clause-site_cause : goal.returns-clause-site_cause
returns-clause-site_cause g c = c.answer_all.ensures.leaves.stands.cause

pub returns-clause-sink_cause : goal.returns-clause-sink_cause
returns-clause-sink_cause g c = c.answer_all.ensures.leaves.sink
