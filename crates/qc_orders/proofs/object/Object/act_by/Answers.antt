use Rattle.std.proofs.Common.{refl, codes}
use Rattle.qc_orders.proofs.Rows.{differs}
use Rattle.qc_orders.proofs.object.Object.act_by.Goals as goal

pub returns-in_default : goal.returns-in_default
returns-in_default c =
    let is = c.in_default in
    let w = c.args.word.now in
    rw (
      differs w (codes "open") is.not-open,
      differs w (codes "call") is.not-call,
      differs w (codes "commit") is.not-commit,
      differs w (codes "cancel") is.not-cancel,
      differs w (codes "send") is.not-send,
      differs w (codes "take") is.not-take,
      differs w (codes "play") is.not-play,
      differs w (codes "work") is.not-work,
      differs w (codes "end") is.not-end,
      differs w (codes "phase") is.not-phase,
      differs w (codes "move") is.not-move,
      differs w (codes "switch") is.not-switch,
      differs w (codes "queues") is.not-queues,
      differs w (codes "table") is.not-table,
      differs w (codes "outside") is.not-outside,
    ) refl
