use Rattle.std.proofs.Common.{rules, arith}
use Rattle.qc_recorder.proofs.Sizes.{call-within, name-length}
use Rattle.qc_recorder.proofs.calls.call_size.Goals as goal

pub returns-clause-limits : goal.returns-clause-limits
returns-clause-limits c = call-within c.args.call.now c.as_bytes.ensures.is_name c.requires.few c.requires.limits
