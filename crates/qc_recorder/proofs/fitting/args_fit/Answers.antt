use Rattle.std.proofs.Common.{rules, sym}
use Rattle.qc_recorder.proofs.Again.{other_lengths}
use Rattle.qc_recorder.proofs.fitting.args_fit.Goals as goal

pub returns-then-params-args : goal.returns-then-params-args
returns-then-params-args c = sym (other_lengths c.args.params.now c.args.args.now (search rules))
