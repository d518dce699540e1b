use Rattle.std.proofs.Common.{◌≡◌, ◌∙◌, ◌<◌, ◌^◌, List, length, true, sym, ap, subst, arith}
use Rattle.std.specs.Vec.{with_items}
use Rattle.std.proofs.lemmas.List.{with_items_is}
use Rattle.qc_base.specs.declared.message.Message.{Message}
use Rattle.qc_base.specs.Messages.{after_consumed}
use Rattle.qc_store.specs.declared.tally.Tally.{Tally}
use Rattle.qc_store.specs.Live.{is_live}
use Rattle.qc_store.specs.Stored.{Stored}
use Rattle.qc_store.specs.Tallies.{AreCounted, after_played, tally_of}
use Rattle.qc_store.proofs.Counted.{counted_played, few_consumed}
use Rattle.qc_store.proofs.store.Store.consume.Goals as goal

pub add_played-requires : goal.add_played-requires
add_played-requires c = λ app.
    let items = c.self.inside.messages.items in
    let few : length items < 2 ^ 63 = omega arith in
    omega (arith, ap (tally_of app) c.as_mut_slice.ensures.value, c.self.invariant.all_consumed app, few_consumed app items)

pub invariant_of-self : goal.invariant_of-self
invariant_of-self c =
    let id = c.args.id in
    let attempt = c.args.attempt in
    let items = c.self.inside.messages.items in
    let sent = c.self.inside.sent in
    let tallies = c.self.inside.tallies.items in
    let whole : (with_items c.self.inside.messages c.consume.new.messages).items ≡ after_consumed id attempt items =
    with_items_is c.self.inside.messages c.consume.new.messages (c.consume.auto.messages ∙ c.as_mut_slice-2.ensures.len) ∙ c.consume.ensures ∙ ap (after_consumed id attempt) c.as_mut_slice-2.ensures.value in
    let counts : (with_items c.self.inside.tallies c.add_played.new.tallies).items ≡ after_played id items tallies =
    with_items_is c.self.inside.tallies c.add_played.new.tallies (c.add_played.auto.tallies ∙ c.as_mut_slice.ensures.len) ∙ c.add_played.ensures
    ∙ ap (λ (l : List Message). after_played id l c.as_mut_slice.result.now) c.as_slice.ensures.value ∙ ap (after_played id items) c.as_mut_slice.ensures.value in
    let here : is_live id items ≡ true = subst (λ (v : Stored). is_live id v.messages ≡ true) (sym c.self.view_is) c.requires in
    subst (λ (l : List Message). AreCounted l sent (with_items c.self.inside.tallies c.add_played.new.tallies).items) (sym whole)
    (subst (λ (l : List Tally). AreCounted (after_consumed id attempt items) sent l) (sym counts) (counted_played id attempt items sent tallies here c.self.invariant))
