use Rattle.std.proofs.Common.{rules, ◌+◌, length, option_map, Bor}
use Rattle.qc_catalogue.specs.declared.catalogue.Method.{Method}
use Rattle.qc_recorder.proofs.Adding.{refused-call}
use Rattle.qc_recorder.proofs.recorder.Recorder.add.Goals as goal

pub returns-in-Err-clause-refused : goal.returns-in-Err-clause-refused
returns-in-Err-clause-refused c =
    refused-call c.args.catalogue.now c.args.self.now c.args.call.now (length c.as_slice-held.result.now + 1) c.as_slice-2.result.now (option_map (λ (m : Bor Method). m.now) c.method_for-method.result) c.in-Err.error
    (search rules) (search rules) (search rules) c.in-Err.ensures.taken
