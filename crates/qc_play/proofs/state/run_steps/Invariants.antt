use Rattle.std.proofs.Common.{◌≡◌, ◌+◌, ◌*◌, false, drop, take}
use Rattle.qc_script.specs.Naming.{effects}
use Rattle.qc_play.specs.Board.{play_of, Grows}
use Rattle.qc_play.specs.Play.{run_steps}
use Rattle.qc_play.proofs.state.run_steps.Given as goal

abbrev pub invariant-loop-step : goal.invariant-loop-step
invariant-loop-step l = record {
  ran : run_steps l.args l.skipping (l.number + 1) (drop l.step-index l.steps) (play_of l.view l.board) ≡ run_steps l.args false 1 l.steps (play_of l.view l.fn.board);
  number : l.number ≡ l.step-index;
  grown : Grows l.fn.board l.board (2 * l.step-index) (effects (take l.step-index l.steps));
}
