use Rattle.std.proofs.Common.{◌≡◌, ◌∙◌, true, sym, ap, subst, is_some, IfOk}
use Rattle.std.proofs.lemmas.Option.{none-some}
use Rattle.qc_listener.specs.Index.{rows_kept}
use Rattle.qc_txn.specs.Attempt.{begun, effects_in}
use Rattle.qc_txn.specs.Outcome.{new_play}
use Rattle.qc_txn.specs.Parts.{parts_of}
use Rattle.qc_history.specs.contracts.history.History.{the_view}
use Rattle.qc_history.specs.Playing.{BeginsOn, kind_of_attempt}
use Rattle.qc_history.specs.View.{HistoryView}
use Rattle.qc_history.proofs.Begins.{begins-if, can-play, told-short}
use Rattle.qc_history.proofs.Found.{told-some}
use Rattle.qc_history.proofs.history.History.begin.Goals as goal

pub unreachable-requires-in_default-rows : goal.unreachable-requires-in_default-rows
unreachable-requires-in_default-rows c =
    let in_it = c.self.inside in
    let ms = in_it.store.messages in
    let id = c.args.id in
    let some : is_some (kind_of_attempt in_it.catalogue id ms) ≡ true = subst (λ (v : HistoryView). is_some (kind_of_attempt v.catalogue id v.store.messages) ≡ true) (sym c.self.view_is) c.requires in
    let told = told-some id ms c.in-Some.recording.now c.in-Some.place c.in-Some.ensures in
    let can = can-play in_it.catalogue ms in_it.rows in_it.facts c.self.invariant id c.in-Some.recording.now c.in-Some.place told some in
    none-some _ (c.in_default-rows.ensures ∙ ap (λ k. rows_kept id k in_it.rows) c.kind_at-kind.ensures ∙ can.kept)

pub effects_of-requires-clause-few : goal.effects_of-requires-clause-few
effects_of-requires-clause-few c =
    let in_it = c.self.inside in
    let ms = in_it.store.messages in
    let told = told-some c.args.id ms c.in-Some.recording.now c.in-Some.place c.in-Some.ensures in
    told-short in_it.catalogue ms in_it.rows in_it.facts c.self.invariant c.args.id c.in-Some.recording.now c.in-Some.place told

pub begin-requires-clause-few : goal.begin-requires-clause-few
begin-requires-clause-few c =
    let in_it = c.self.inside in
    let ms = in_it.store.messages in
    let told = told-some c.args.id ms c.in-Some.recording.now c.in-Some.place c.in-Some.ensures in
    told-short in_it.catalogue ms in_it.rows in_it.facts c.self.invariant c.args.id c.in-Some.recording.now c.in-Some.place told

pub returns : goal.returns
returns c =
    let in_it = c.self.inside in
    let ms = in_it.store.messages in
    let id = c.args.id in
    let r = c.in-Some.recording.now in
    let place = c.in-Some.place in
    let some : is_some (kind_of_attempt in_it.catalogue id ms) ≡ true = subst (λ (v : HistoryView). is_some (kind_of_attempt v.catalogue id v.store.messages) ≡ true) (sym c.self.view_is) c.requires in
    let told = told-some id ms r place c.in-Some.ensures in
    let can = can-play in_it.catalogue ms in_it.rows in_it.facts c.self.invariant id r place told some in
    subst (λ (v : HistoryView). IfOk c.begin.result (λ a. BeginsOn v id c.args.number a)) c.self.view_is
    (begins-if (the_view in_it) id c.args.number r place told can c.in-Some-rows.rows.now c.in_ok-seen.seen.items c.in_ok-state.state c.begin.result
    (c.in-Some-rows.ensures ∙ ap (λ k. rows_kept id k in_it.rows) c.kind_at-kind.ensures) c.in_ok-seen.ensures (c.in_ok-state.ensures.play ∙ ap new_play c.as_slice.ensures.value)
    (c.in_ok-state.ensures.room ∙ c.from-room.ensures ∙ c.effects_of.ensures ∙ ap (λ k. effects_in (parts_of in_it.catalogue r k)) c.kind_at-kind.ensures)
    (subst (λ k. IfOk c.begin.result (λ a. a ≡ begun id c.args.number k r c.in_ok-state.state)) c.kind_at-kind.ensures c.begin.ensures.begun) c.begin.ensures.plays)
