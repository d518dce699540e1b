use Rattle.std.proofs.Common.{◌≡◌, ◌∙◌, ◌≤◌, List, max, refl, sym, ap, subst, arith}
use Rattle.qc_base.specs.declared.message.Message.{Message}
use Rattle.qc_base.specs.Messages.{after_failed}
use Rattle.qc_history.specs.contracts.history.History.{the_view}
use Rattle.qc_history.specs.View.{HistoryView, IsSound}
use Rattle.qc_history.proofs.Kept.{sound-failed}
use Rattle.qc_history.proofs.Settled.{Counts, adds-failing}
use Rattle.qc_history.proofs.history.History.fail.Goals as goal

pub invariant_of-self : goal.invariant_of-self
invariant_of-self c =
    let in_it = c.self.inside in
    let more = c.saturating_add-self-inside.result in
    let some : 1 ≤ more = omega (arith, c.saturating_add-self-inside.ensures) in
    subst (λ (l : List Message). IsSound in_it.catalogue l in_it.rows more) (sym c.fail.ensures.messages)
    (sound-failed in_it.catalogue in_it.store.messages in_it.rows in_it.facts more c.self.invariant some c.id.result c.args.at)

pub returns : goal.returns
returns c =
    let old : HistoryView = c.args.self.now in
    let in_it = c.self.inside in
    let a = c.args.attempt.now in
    let at = c.args.at in
    let new : HistoryView = the_view (record { catalogue = in_it.catalogue; store = c.fail.new.self; tables = in_it.tables; outside = in_it.outside; rows = in_it.rows; off = in_it.off; facts = c.saturating_add-self-inside.result; last = at; attempt = c.greater-self-inside.result }) in
    let facts : in_it.facts ≡ old.facts = ap (λ (v : HistoryView). v.facts) c.self.view_is in
    let counts : Counts at old new = record {
      counted = λ few. omega (arith, facts, few, c.saturating_add-self-inside.ensures);
      last = refl;
      catalogue = ap (λ (v : HistoryView). v.catalogue) c.self.view_is;
      places = ap (λ (v : HistoryView). v.tables.places) c.self.view_is;
    } in
    adds-failing old new at counts a (ap (λ (v : HistoryView). v.off.names) c.self.view_is)
    (c.greater-self-inside.ensures ∙ ap (λ n. max in_it.attempt n) c.number.ensures ∙ ap (λ (v : HistoryView). max v.attempt a.number) c.self.view_is)
    c.requires.failed
    (c.fail.ensures.messages ∙ ap (λ n. after_failed n at in_it.store.messages) c.id.ensures ∙ ap (λ (v : HistoryView). after_failed a.id at v.store.messages) c.self.view_is)
    (record { tables = ap (λ (v : HistoryView). v.tables.tables) c.self.view_is; outside = ap (λ (v : HistoryView). v.outside) c.self.view_is })
