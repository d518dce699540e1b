use Rattle.std.proofs.Common.{◌≡◌, ◌∙◌, ◌≤◌, List, max, refl, sym, ap, subst, arith}
use Rattle.qc_base.specs.declared.message.Message.{Message}
use Rattle.qc_base.specs.Messages.{after_consumed}
use Rattle.qc_listener.specs.Index.{MessageRows}
use Rattle.qc_play.specs.Play.{Play, Seen}
use Rattle.qc_rows.specs.Places.{TablesView}
use Rattle.qc_rows.specs.Outside.{outside_by}
use Rattle.qc_rows.specs.Settling.{settled_by}
use Rattle.qc_history.specs.contracts.history.History.{the_view}
use Rattle.qc_history.specs.View.{HistoryView, IsSound}
use Rattle.qc_history.proofs.Kept.{sound-consumed}
use Rattle.qc_history.proofs.Settled.{Counts, adds-committed}
use Rattle.qc_history.proofs.history.History.commit.Goals as goal

pub invariant_of-self : goal.invariant_of-self
invariant_of-self c =
    let in_it = c.self.inside in
    let more = c.saturating_add-self-inside.result in
    let some : 1 ≤ more = omega (arith, c.saturating_add-self-inside.ensures) in
    subst (λ (l : List Message). IsSound in_it.catalogue l c.remove.new.self more) (sym c.consume.ensures.messages)
    (subst (λ (l : List MessageRows). IsSound in_it.catalogue (after_consumed c.id-id.result c.number.result in_it.store.messages) l more) (sym c.remove.ensures)
    (sound-consumed in_it.catalogue in_it.store.messages in_it.rows in_it.facts more c.self.invariant some c.id-id.result c.number.result))

pub returns : goal.returns
returns c =
    let old : HistoryView = c.args.self.now in
    let in_it = c.self.inside in
    let a = c.args.attempt.now in
    let at = c.args.at in
    let new : HistoryView = the_view (record { catalogue = in_it.catalogue; store = c.consume.new.self; tables = c.apply_view.new.self; outside = c.apply_view-2.new.self; rows = c.remove.new.self; off = in_it.off; facts = c.saturating_add-self-inside.result; last = at; attempt = c.greater-self-inside.result }) in
    let facts : in_it.facts ≡ old.facts = ap (λ (v : HistoryView). v.facts) c.self.view_is in
    let settled = c.apply_view.ensures in
    let seen : c.view.result.now ≡ a.play.view = c.view.ensures ∙ ap (λ (p : Play). p.view) c.state.ensures.play in
    let seen_again : c.view-2.result.now ≡ a.play.view = c.view-2.ensures ∙ ap (λ (p : Play). p.view) c.state-2.ensures.play in
    let counts : Counts at old new = record {
      counted = λ few. omega (arith, facts, few, c.saturating_add-self-inside.ensures);
      last = refl;
      catalogue = ap (λ (v : HistoryView). v.catalogue) c.self.view_is;
      places = ap (λ (t : TablesView). t.places) settled ∙ ap (λ (v : HistoryView). v.tables.places) c.self.view_is;
    } in
    adds-committed old new at counts a (ap (λ (v : HistoryView). v.off.names) c.self.view_is)
    (c.greater-self-inside.ensures ∙ ap (λ n. max in_it.attempt n) c.number-2.ensures ∙ ap (λ (v : HistoryView). max v.attempt a.number) c.self.view_is)
    c.requires.waiting c.requires.committed
    (c.consume.ensures.messages ∙ ap (λ n. after_consumed n c.number.result in_it.store.messages) c.id-id.ensures ∙ ap (λ n. after_consumed a.id n in_it.store.messages) c.number.ensures
    ∙ ap (λ (v : HistoryView). after_consumed a.id a.number v.store.messages) c.self.view_is)
    (record {
      tables = ap (λ (t : TablesView). t.tables) settled ∙ ap (λ (l : List Seen). settled_by l in_it.tables.tables) seen ∙ ap (λ (v : HistoryView). settled_by a.play.view v.tables.tables) c.self.view_is;
      outside = c.apply_view-2.ensures ∙ ap (λ (l : List Seen). outside_by l in_it.outside) seen_again ∙ ap (λ (v : HistoryView). outside_by a.play.view v.outside) c.self.view_is;
    })
