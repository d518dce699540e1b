use Rattle.std.proofs.Common.{◌∙◌, Bor, Option, Some, option_map, option_and_then, sym, ap, arith}
use Rattle.qc_base.specs.declared.message.Message.{Message}
use Rattle.qc_store.specs.Due.{may_be_next, queued_as}
use Rattle.qc_store.proofs.First.{first_more, first_kept, next_is}
use Rattle.qc_store.proofs.store.Store.next_due.Goals as goal
use Rattle.qc_store.proofs.store.Store.next_due.Goals.{then-may_be_next, else-may_be_next}

abbrev seen : Option (Bor Message) → Option Message
seen o = option_map (λ (r : Bor Message). r.now) o

pub loop-message-preserved : goal.loop-message-preserved
loop-message-preserved c =
    let test = may_be_next c.args.app.now c.args.after in
    let items = c.all-message-items.result.now in
    let i = c.loop-message.message-index in
    let x = c.message-item.result in
    let o = seen c.loop-message.first in
    let next = seen c.if-may_be_next.first in
    elim c.if-may_be_next.branch [
      | then-may_be_next w ↦ first_more test items i x (omega arith) c.message-item.is o c.loop-message.invariant next (sym c.may_be_next.ensures ∙ w.if-may_be_next.true) (ap seen w.first-is ∙ ap (λ (m : Message). Some m) w.sooner.ensures)
      | else-may_be_next w ↦ first_kept test items i x (omega arith) c.message-item.is o c.loop-message.invariant next (sym c.may_be_next.ensures ∙ w.if-may_be_next.false) (ap seen w.first-is)
    ]

pub returns-in_err-message : goal.returns-in_err-message
returns-in_err-message c =
    let items = c.all-message-items.result.now in
    let found = next_is c.args.app.now c.args.after items c.args.self.now.messages c.loop-message.message-index (seen c.loop-message.first) c.loop-message-test.false c.all-message-items.ensures.messages c.all-message-items.ensures.rises c.loop-message.invariant in
    c.from_residual.ensures ∙ sym (found ∙ ap (λ (o : Option (Bor Message)). option_and_then (λ (m : Message). queued_as m.id m.place) (seen o)) c.in_err-message.was)

pub returns : goal.returns
returns c =
    let items = c.all-message-items.result.now in
    let found = next_is c.args.app.now c.args.after items c.args.self.now.messages c.loop-message.message-index (seen c.loop-message.first) c.loop-message-test.false c.all-message-items.ensures.messages c.all-message-items.ensures.rises c.loop-message.invariant in
    c.queued.ensures ∙ sym (found ∙ ap (λ (o : Option (Bor Message)). option_and_then (λ (m : Message). queued_as m.id m.place) (seen o)) c.in_ok-message.was)
