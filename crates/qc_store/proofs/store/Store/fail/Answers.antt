use Rattle.std.proofs.Common.{◌≡◌, ◌∙◌, List, true, sym, ap, subst}
use Rattle.std.specs.Vec.{with_items}
use Rattle.std.proofs.lemmas.List.{with_items_is}
use Rattle.qc_base.specs.declared.message.Message.{Message}
use Rattle.qc_base.specs.Messages.{after_failed}
use Rattle.qc_store.specs.Live.{is_waiting}
use Rattle.qc_store.specs.Stored.{Stored}
use Rattle.qc_store.specs.Tallies.{AreCounted}
use Rattle.qc_store.proofs.Counted.{counted_failed}
use Rattle.qc_store.proofs.store.Store.fail.Goals as goal

pub invariant_of-self : goal.invariant_of-self
invariant_of-self c =
    let items = c.self.inside.messages.items in
    let sent = c.self.inside.sent in
    let tallies = c.self.inside.tallies.items in
    let whole : (with_items c.self.inside.messages c.fail.new.messages).items ≡ after_failed c.args.id c.args.at items =
    with_items_is c.self.inside.messages c.fail.new.messages (c.fail.auto.messages ∙ c.as_mut_slice.ensures.len) ∙ c.fail.ensures ∙ ap (after_failed c.args.id c.args.at) c.as_mut_slice.ensures.value in
    let here : is_waiting c.args.id items ≡ true = subst (λ (v : Stored). is_waiting c.args.id v.messages ≡ true) (sym c.self.view_is) c.requires in
    subst (λ (l : List Message). AreCounted l sent tallies) (sym whole) (counted_failed c.args.id c.args.at items sent tallies here c.self.invariant)
