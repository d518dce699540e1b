use Rattle.std.proofs.Common.{◌∙◌, ◌==◌, get_or, eq-eqb, arith}
use Rattle.std.proofs.lemmas.Bool.{ne_eqb}
use Rattle.qc_base.specs.declared.message.Message.{Message}
use Rattle.qc_base.specs.Messages.{next_place}
use Rattle.qc_store.proofs.Placing.{placed_here, passed_here}
use Rattle.qc_store.proofs.change.fail.Goals as goal
use Rattle.qc_store.proofs.change.fail.Goals.{then-message-id, else-message-id}

pub loop-message-preserved : goal.loop-message-preserved
loop-message-preserved c =
    let test = λ (m : Message). m.id == c.args.id in
    let to = λ (m : Message). next_place m.place m.final_class c.args.at in
    let xs = c.args.messages.now in
    let ys = c.loop-message.messages in
    let i = c.loop-message.message-index in
    let d = c.message-item.result in
    let x = get_or ys i d in
    elim c.if-message-id.branch [
      | then-message-id w ↦ w.messages-is ∙ placed_here test to xs ys i d (omega arith) (omega arith) c.loop-message.invariant w.next_place-message.result (w.next_place-message.ensures) (eq-eqb x.id c.args.id w.if-message-id.true)
      | else-message-id w ↦ w.messages-is ∙ passed_here test to xs ys i d (omega arith) (omega arith) c.loop-message.invariant (ne_eqb x.id c.args.id w.if-message-id.false)
    ]
