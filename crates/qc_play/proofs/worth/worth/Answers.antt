use Rattle.std.proofs.Common.{◌∙◌, true, false, to_z, arith}
use Rattle.std.proofs.lemmas.Int.{ints}
use mir.Syntax.{w128}
use Rattle.qc_play.specs.Board.{applied}
use Rattle.qc_play.proofs.Worths.{worth_step}
use Rattle.qc_play.proofs.worth.worth.Goals as goal
use Rattle.qc_play.proofs.worth.worth.Goals.{then-signed, else-signed}

pub loop-signed-preserved : goal.loop-signed-preserved
loop-signed-preserved c =
    let view = applied c.args.writes.now c.args.view.now in
    let loop = c.loop-signed in
    let sum = to_z w128 loop.sum-bits in
    let new = to_z w128 c.if-signed.sum-bits in
    elim c.if-signed.branch [
      | then-signed w ↦ (
        worth_step c.args.args.now view c.args.terms.now loop.signed-index c.signed-item.result true sum new c.worth_of_term.result
            c.loop-signed-test.true c.signed-item.is w.if-signed.true c.worth_of_term.ensures.value (omega (arith, ints)) ∙ loop.invariant.0,
        omega (arith, ints),
        omega (arith, ints),
      )
      | else-signed w ↦ (
        worth_step c.args.args.now view c.args.terms.now loop.signed-index c.signed-item.result false sum new c.worth_of_term.result
            c.loop-signed-test.true c.signed-item.is w.if-signed.false c.worth_of_term.ensures.value (omega (arith, ints)) ∙ loop.invariant.0,
        omega (arith, ints),
        omega (arith, ints),
      )
    ]
