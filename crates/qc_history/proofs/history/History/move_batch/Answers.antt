use Rattle.std.proofs.Common.{◌≡◌, ◌∙◌, ◌≤◌, List, true, refl, sym, ap, subst, arith}
use Rattle.qc_base.specs.declared.message.Message.{Message}
use Rattle.qc_base.specs.Messages.{after_moved}
use Rattle.qc_store.specs.Live.{are_live}
use Rattle.qc_history.specs.View.{HistoryView, IsSound}
use Rattle.qc_history.proofs.Kept.{sound-moved}
use Rattle.qc_history.proofs.Settled.{Counts, adds-moved}
use Rattle.qc_history.proofs.history.History.move_batch.Goals as goal

pub move_batch-requires-clause-ids : goal.move_batch-requires-clause-ids
move_batch-requires-clause-ids c = subst (λ (v : HistoryView). are_live c.args.ids.now v.store.messages ≡ true) (sym c.self.view_is) c.requires.live

pub invariant_of-self : goal.invariant_of-self
invariant_of-self c =
    let in_it = c.self.inside in
    let more = c.saturating_add-self-inside.result in
    let some : 1 ≤ more = omega (arith, c.saturating_add-self-inside.ensures) in
    let live : are_live c.args.ids.now in_it.store.messages ≡ true = subst (λ (v : HistoryView). are_live c.args.ids.now v.store.messages ≡ true) (sym c.self.view_is) c.requires.live in
    subst (λ (l : List Message). IsSound in_it.catalogue l in_it.rows more) (sym c.move_batch.ensures.messages)
    (sound-moved in_it.catalogue in_it.store.messages in_it.rows in_it.facts more c.self.invariant some c.args.ids.now c.args.queue c.args.at live)

pub returns : goal.returns
returns c = λ app.
    let old : HistoryView = c.args.self.now in
    let in_it = c.self.inside in
    let ids = c.args.ids.now in
    let queue = c.args.queue in
    let at = c.args.at in
    let new : HistoryView = record { catalogue = in_it.catalogue; store = c.move_batch.new.self; tables = in_it.tables; outside = in_it.outside; rows = in_it.rows; off = in_it.off; facts = c.saturating_add-self-inside.result; last = at; attempt = in_it.attempt } in
    let facts : in_it.facts ≡ old.facts = ap (λ (v : HistoryView). v.facts) c.self.view_is in
    let counts : Counts at old new = record {
      counted = λ few. omega (arith, facts, few, c.saturating_add-self-inside.ensures);
      last = refl;
      catalogue = ap (λ (v : HistoryView). v.catalogue) c.self.view_is;
      places = ap (λ (v : HistoryView). v.tables.places) c.self.view_is;
    } in
    adds-moved old new at counts app queue ids (c.move_batch.ensures.messages ∙ ap (λ (v : HistoryView). after_moved ids queue at v.store.messages) c.self.view_is)
    (record { tables = ap (λ (v : HistoryView). v.tables.tables) c.self.view_is; outside = ap (λ (v : HistoryView). v.outside) c.self.view_is }) (ap (λ (v : HistoryView). v.off.names) c.self.view_is) (ap (λ (v : HistoryView). v.attempt) c.self.view_is)
