use Rattle.std.proofs.Common.{rules, ◌∙◌}
use Rattle.qc_recorder.proofs.Adding.{list-more}
use Rattle.qc_recorder.proofs.recorder.record_calls.Goals as goal

pub loop-call-preserved : goal.loop-call-preserved
loop-call-preserved c = c.loop-call.invariant ∙ list-more c.args.catalogue.now c.args.calls.now c.loop-call.call-index c.call-item.result c.loop-call.recorder c.add.new.self (search rules) c.call-item.is c.in-Ok-add.ensures.recorded
