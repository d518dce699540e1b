use Rattle.std.proofs.Common.{◌∙◌, ◌==◌, get_or, sym, arith}
use Rattle.qc_base.specs.declared.message.Message.{Message}
use Rattle.std.specs.List.{list_any}
use Rattle.qc_base.specs.Messages.{moved_place}
use Rattle.qc_store.proofs.Placing.{placed_here, passed_here}
use Rattle.qc_store.proofs.change.move_to.Goals as goal
use Rattle.qc_store.proofs.change.move_to.Goals.{then-contains, else-contains}

pub loop-message-preserved : goal.loop-message-preserved
loop-message-preserved c =
    let test = λ (m : Message). list_any (λ id. id == m.id) c.args.ids.now in
    let to = λ (m : Message). moved_place c.args.queue c.args.at in
    let xs = c.args.messages.now in
    let ys = c.loop-message.messages in
    let i = c.loop-message.message-index in
    let d = c.message-item.result in
    let x = get_or ys i d in
    elim c.if-contains.branch [
      | then-contains w ↦ w.messages-is ∙ placed_here test to xs ys i d (omega arith) (omega arith) c.loop-message.invariant w.moved_place-message.result (w.moved_place-message.ensures) (sym c.contains.ensures.value ∙ w.if-contains.true)
      | else-contains w ↦ w.messages-is ∙ passed_here test to xs ys i d (omega arith) (omega arith) c.loop-message.invariant (sym c.contains.ensures.value ∙ w.if-contains.false)
    ]
