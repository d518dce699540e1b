use Rattle.std.proofs.Common.{◌≡◌, get_or, arith}
use Rattle.qc_script.proofs.Gaps.{space_behind}
use Rattle.qc_script.proofs.words.behind_spaces.Goals as goal

pub loop-index-preserved : goal.loop-index-preserved
loop-index-preserved c =
    let e : get_or c.args.line.now c.loop-index.index 0 ≡ 32 = omega arith in
    space_behind c.args.line.now c.loop-index.index (omega arith) c.loop-index.invariant e
