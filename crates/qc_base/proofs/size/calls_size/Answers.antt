use Rattle.std.proofs.Common.{arith}
use Rattle.qc_base.proofs.Parts.{fits_more}
use Rattle.qc_base.specs.Spelling.{spelled_call}
use Rattle.qc_base.proofs.size.calls_size.Goals as goal

pub call_size-size-requires : goal.call_size-size-requires
call_size-size-requires c = omega (arith, fits_more spelled_call c.args.calls.now c.loop-call.call-index c.call-item.result (omega arith) c.call-item.is, c.requires)

pub overflow_add-size : goal.overflow_add-size
overflow_add-size c = omega (arith, fits_more spelled_call c.args.calls.now c.loop-call.call-index c.call-item.result (omega arith) c.call-item.is, c.loop-call.invariant, c.call_size-size.ensures, c.requires)
