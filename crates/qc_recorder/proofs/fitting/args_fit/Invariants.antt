use Rattle.std.proofs.Common.{◌≡◌, drop}
use Rattle.qc_recorder.specs.Fits.{args_fit}
use Rattle.qc_recorder.proofs.fitting.args_fit.Given as goal

abbrev pub invariant-loop-index : goal.invariant-loop-index
invariant-loop-index l = args_fit l.params l.args ≡ args_fit (drop l.index l.params) (drop l.index l.args)
