use Rattle.std.proofs.Common.{◌≡◌, ◌∙◌, List, Bor, filter, map, ap, subst, rules}
use Rattle.std.proofs.lemmas.List.{take_all}
use Rattle.std.specs.List.Sorted.{IsPermutation}
use Rattle.qc_base.specs.declared.message.Message.{Message}
use Rattle.qc_base.specs.declared.queue.Waiting.{Waiting}
use Rattle.qc_base.specs.Messages.{in_queue, waiting_as}
use Rattle.qc_store.proofs.Listings.{gathered, listed}
use Rattle.qc_store.proofs.listing.queue_of.Goals as goal

pub returns : goal.returns
returns c = λ app messages given.
    let shown : List Message → List Waiting = λ l. map (λ (m : Message). waiting_as m.id m.place) (filter (λ (m : Message). in_queue c.args.queue m.place) l) in
    let all : c.loop-message.list.items ≡ gathered app c.args.queue messages =
    c.loop-message.invariant ∙ ap (λ l. shown (map (λ (r : Bor Message). r.now) l)) (take_all c.loop-message.message-index c.args.own.now c.loop-message-test.false) ∙ ap shown given.1 in
    let same : IsPermutation (gathered app c.args.queue messages) c.sort_unstable_by_key.new.self.items = subst (λ (l : List Waiting). IsPermutation l c.sort_unstable_by_key.new.self.items) all c.sort_unstable_by_key.ensures.permutation in
    c.over.ensures ∙ listed app c.args.queue messages c.sort_unstable_by_key.new.self.items given.0 same c.sort_unstable_by_key.ensures.sorted (λ a r f k. search rules)
