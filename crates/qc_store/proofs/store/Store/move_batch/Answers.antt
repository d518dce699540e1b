use Rattle.std.proofs.Common.{◌≡◌, ◌∙◌, List, true, sym, ap, subst}
use Rattle.std.specs.Vec.{with_items}
use Rattle.std.proofs.lemmas.List.{with_items_is}
use Rattle.qc_base.specs.declared.message.Message.{Message}
use Rattle.qc_base.specs.Messages.{after_moved}
use Rattle.qc_store.specs.Live.{are_live}
use Rattle.qc_store.specs.Stored.{Stored}
use Rattle.qc_store.specs.Tallies.{AreCounted}
use Rattle.qc_store.proofs.Counted.{counted_moved}
use Rattle.qc_store.proofs.store.Store.move_batch.Goals as goal

pub invariant_of-self : goal.invariant_of-self
invariant_of-self c =
    let items = c.self.inside.messages.items in
    let sent = c.self.inside.sent in
    let tallies = c.self.inside.tallies.items in
    let whole : (with_items c.self.inside.messages c.move_to.new.messages).items ≡ after_moved c.args.ids.now c.args.queue c.args.at items =
    with_items_is c.self.inside.messages c.move_to.new.messages (c.move_to.auto.messages ∙ c.as_mut_slice.ensures.len) ∙ c.move_to.ensures ∙ ap (after_moved c.args.ids.now c.args.queue c.args.at) c.as_mut_slice.ensures.value in
    let here : are_live c.args.ids.now items ≡ true = subst (λ (v : Stored). are_live c.args.ids.now v.messages ≡ true) (sym c.self.view_is) c.requires.ids in
    subst (λ (l : List Message). AreCounted l sent tallies) (sym whole) (counted_moved c.args.ids.now c.args.queue c.args.at items sent tallies here c.self.invariant)
