use Rattle.std.proofs.Common.{◌≡◌, ◌∙◌, ◌+◌, ◌≤◌, List, length, refl, sym, ap, subst, arith, Some}
use Rattle.qc_base.specs.declared.message.Message.{Message}
use Rattle.qc_base.specs.Messages.{after_sent}
use Rattle.qc_listener.specs.Index.{entry_of, rows_for}
use Rattle.qc_machine.specs.History.{names_exception}
use Rattle.qc_history.specs.View.{HistoryView, IsSound}
use Rattle.qc_history.proofs.Kept.{sound-sent}
use Rattle.qc_history.proofs.Settled.{Counts, adds-sent}
use Rattle.qc_history.proofs.history.History.sent.Goals as goal

pub invariant_of-self : goal.invariant_of-self
invariant_of-self c =
    let in_it = c.self.inside in
    let r = c.args.recording in
    let more = c.saturating_add-self-inside.result in
    let some : 1 ≤ more = omega (arith, c.saturating_add-self-inside.ensures) in
    let next : c.len-id.result + 1 ≡ length in_it.store.messages + 1 = ap (λ n. n + 1) c.len-id.ensures.value in
    let kept : entry_of (length in_it.store.messages + 1) in_it.rows ≡ Some (rows_for in_it.catalogue (length in_it.store.messages + 1) r) =
    subst (λ (v : HistoryView). entry_of (length v.store.messages + 1) v.rows ≡ Some (rows_for v.catalogue (length v.store.messages + 1) r)) (sym c.self.view_is) c.requires.room.rows
    in
    subst (λ (l : List Message). IsSound in_it.catalogue l in_it.rows more) (sym c.insert.ensures.messages)
    (sound-sent in_it.catalogue in_it.store.messages in_it.rows in_it.facts more c.self.invariant some (c.len-id.result + 1) c.args.at r c.names_exception-final_class.result next c.requires.short
    (subst (λ n. entry_of n in_it.rows ≡ Some (rows_for in_it.catalogue n r)) (sym next) kept))

pub returns-clause-adds : goal.returns-clause-adds
returns-clause-adds c =
    let old : HistoryView = c.args.self.now in
    let in_it = c.self.inside in
    let r = c.args.recording in
    let at = c.args.at in
    let new : HistoryView = record { catalogue = in_it.catalogue; store = c.insert.new.self; tables = in_it.tables; outside = in_it.outside; rows = in_it.rows; off = in_it.off; facts = c.saturating_add-self-inside.result; last = c.args.at; attempt = in_it.attempt } in
    let facts : in_it.facts ≡ old.facts = ap (λ (v : HistoryView). v.facts) c.self.view_is in
    let counts : Counts c.args.at old new = record {
      counted = λ few. omega (arith, facts, few, c.saturating_add-self-inside.ensures);
      last = refl;
      catalogue = ap (λ (v : HistoryView). v.catalogue) c.self.view_is;
      places = ap (λ (v : HistoryView). v.tables.places) c.self.view_is;
    } in
    adds-sent old new at counts r
    (c.insert.ensures.messages ∙ ap (λ n. after_sent n r c.names_exception-final_class.result at in_it.store.messages) (ap (λ n. n + 1) c.len-id.ensures.value) ∙ ap (λ b. after_sent (length in_it.store.messages + 1) r b at in_it.store.messages) c.names_exception-final_class.ensures
    ∙ ap (λ (v : HistoryView). after_sent (length v.store.messages + 1) r (names_exception v.catalogue r) at v.store.messages) c.self.view_is)
    (record { tables = ap (λ (v : HistoryView). v.tables.tables) c.self.view_is; outside = ap (λ (v : HistoryView). v.outside) c.self.view_is }) (ap (λ (v : HistoryView). v.off.names) c.self.view_is) (ap (λ (v : HistoryView). v.attempt) c.self.view_is)
