use Rattle.std.proofs.Common.{rules, ◌≡◌, ◌+◌, length, Err, subst, arith}
use Rattle.qc_protocol.specs.declared.reply.Refusal.TheVariants.{BadArguments}
use Rattle.qc_recorder.specs.Fits.{arguments}
use Rattle.qc_recorder.proofs.Gathering.{missing, too-many}
use Rattle.qc_recorder.proofs.arguments.take_arguments.Goals as goal

pub returns-in_default-get-clause-taken : goal.returns-in_default-get-clause-taken
returns-in_default-get-clause-taken c = missing c.args.call c.args.params.now c.args.args.now c.loop-index.taken.items c.loop-index.index c.loop-index.invariant.gathered (omega arith) (search rules)

pub returns-then-args-params-clause-taken : goal.returns-then-args-params-clause-taken
returns-then-args-params-clause-taken c =
    let ended : c.loop-index.index ≡ length c.args.params.now = omega arith in
    subst (λ i. arguments c.args.call 1 c.args.params.now c.args.args.now ≡ Err (BadArguments c.args.call (i + 1))) ended (too-many c.args.call c.args.params.now c.args.args.now c.loop-index.taken.items c.loop-index.index c.loop-index.invariant.gathered (omega arith) (omega arith))
