use Rattle.std.proofs.Common.{◌≡◌, ◌∙◌, ◌++◌, ◌∷◌, [], List, ℕ, true, false, append-nil, take, sym, ap, rules}
use Rattle.std.proofs.lemmas.List.{take_all}
use Rattle.qc_base.specs.declared.queue.Waiting.{Waiting}
use Rattle.qc_base.specs.Messages.{listing}
use Rattle.qc_rows.specs.Holdings.{Holding}
use Rattle.qc_hub.proofs.MovedIds.{free-are-moved, free_in, one-listed}
use Rattle.qc_hub.proofs.hub.Hub.ids_moved.Goals.{then-not-has+in_ok-map_err, else-not-has}
use Rattle.qc_hub.proofs.hub.Hub.ids_moved.Goals as goal

pub loop-waiting-preserved : goal.loop-waiting-preserved
loop-waiting-preserved c =
    let held : List Holding = c.held-held.result.now in
    let waiting : List Waiting = c.as_slice-waiting-items.result.now in
    let i = c.loop-waiting.waiting-index in
    let w : Waiting = c.waiting-item.result in
    elim c.if-not-has.branch [
      | then-not-has+in_ok-map_err b ↦
          let more : b.push.new.self.items ≡ c.loop-waiting.ids.items ++ w.id ∷ [] = search rules in
          let free : c.has.result ≡ false = search rules in
          (λ k. (b.ids-is k).items) ∙ more ∙ ap (λ (l : List ℕ). l ++ w.id ∷ []) c.loop-waiting.invariant
          ∙ sym (one-listed held waiting i w false c.loop-waiting-test.true c.waiting-item.is (sym c.has.ensures ∙ free))
      | else-not-has b ↦
          let busy : c.has.result ≡ true = search rules in
          (λ k. (b.ids-is k).items) ∙ c.loop-waiting.invariant ∙ sym (append-nil (free_in held (take i waiting)))
          ∙ sym (one-listed held waiting i w true c.loop-waiting-test.true c.waiting-item.is (sym c.has.ensures ∙ busy))
    ]

pub returns : goal.returns
returns c s h =
    let held : List Holding = c.held-held.result.now in
    let waiting : List Waiting = c.as_slice-waiting-items.result.now in
    let is : waiting ≡ listing c.args.route.now.app c.args.route.now.queue c.args.self.now.history.store.messages = search rules in
    c.loop-waiting.invariant ∙ ap (λ (l : List Waiting). free_in held l) (take_all c.loop-waiting.waiting-index waiting c.loop-waiting-test.false)
    ∙ free-are-moved c.args.self.now s h held c.held-held.ensures c.args.route.now.app c.args.route.now.queue waiting is
