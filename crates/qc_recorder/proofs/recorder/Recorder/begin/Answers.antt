use Rattle.qc_recorder.proofs.Adding.{begun-is}
use Rattle.qc_recorder.proofs.recorder.Recorder.begin.Goals as goal

pub returns : goal.returns
returns c = begun-is c.args.catalogue.now c.args.app.now c.args.component.now c.in-Some.app.now c.in-Some-component.component.now c.empty.result c.in-Some.ensures c.in-Some-component.ensures c.empty.ensures
