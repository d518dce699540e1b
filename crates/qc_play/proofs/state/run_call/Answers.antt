use Rattle.std.proofs.Common.{List, length, ap, arith}
use Rattle.qc_script.specs.declared.step.Step.{Step}
use Rattle.qc_script.specs.Naming.{effects}
use Rattle.qc_play.specs.State.{StateView}
use Rattle.qc_play.proofs.EffectCounts.{effects_few}
use Rattle.qc_play.proofs.state.run_call.Goals as goal

pub run_steps-requires-clause-room : goal.run_steps-requires-clause-room
run_steps-requires-clause-room c =
    let begun = c.begin.ensures.begun in
    let board = c.begin.new.board in
    let within = c.state.invariant in
    let room = ap (λ (s : StateView). s.room) c.state.view_is in
    let steps = ap (λ (s : List Step). length s) c.steps.ensures.steps in
    let shown = ap effects c.steps.ensures.steps in
    let few = effects_few c.steps.result.now in
    record {
      written = omega (arith, board.writes.ok.0, ap length begun.writes);
      shown = omega (arith, board.effects.ok.0, ap length begun.effects);
      recorded = omega (arith, board.records.ok.0, ap length begun.records);
      few = omega arith;
    }
