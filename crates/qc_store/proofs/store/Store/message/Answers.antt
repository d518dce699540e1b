use Rattle.std.proofs.Common.{◌≡◌, ◌∙◌, ◌==◌, List, find, sym, ap, arith, eq-eqb, option_map, option_and_then, rules}
use Rattle.std.proofs.lemmas.Bool.{ne_eqb}
use Rattle.qc_base.specs.declared.message.Message.{Message}
use Rattle.qc_store.specs.Live.{unless_consumed, told_of}
use Rattle.qc_store.proofs.Placing.{not_yet, found_here}
use Rattle.qc_store.proofs.store.Store.message.Goals as goal

pub returns-then-message-id : goal.returns-then-message-id
returns-then-message-id c =
    let test = λ (m : Message). m.id == c.args.id in
    let items : List Message = c.deref-message-items.result.now in
    let found = found_here test items c.loop-message.message-index c.message-item.result (omega arith) c.message-item.is c.loop-message.invariant (eq-eqb _ _ c.if-message-id.true) in
    let whole : items ≡ c.args.self.now.messages = search rules in
    c.shown.ensures ∙ ap (λ o. option_map told_of (option_and_then unless_consumed o)) (sym found ∙ ap (find test) whole)

pub loop-message-preserved : goal.loop-message-preserved
loop-message-preserved c =
    let test = λ (m : Message). m.id == c.args.id in
    not_yet test c.deref-message-items.result.now c.loop-message.message-index c.message-item.result (omega arith) c.message-item.is c.loop-message.invariant (ne_eqb _ _ c.if-message-id.false)
