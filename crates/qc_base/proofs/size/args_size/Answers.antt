use Rattle.std.proofs.Common.{arith}
use Rattle.qc_base.proofs.Parts.{fits_more}
use Rattle.qc_base.specs.Spelling.{spelled_arg}
use Rattle.qc_base.proofs.size.args_size.Goals as goal

pub overflow_add-size : goal.overflow_add-size
overflow_add-size c = omega (arith, fits_more spelled_arg c.args.args.now c.loop-arg.arg-index c.arg-item.result (omega arith) c.arg-item.is, c.loop-arg.invariant, c.arg_size-size.ensures, c.requires)
