use Rattle.std.proofs.Common.{◌≡◌, ◌∙◌, ◌≤◌, refl, ap, arith}
use Rattle.qc_history.specs.Switches.{switched}
use Rattle.qc_history.specs.View.{HistoryView}
use Rattle.qc_history.proofs.Kept.{sound-same}
use Rattle.qc_history.proofs.Settled.{Counts, adds-switched}
use Rattle.qc_history.proofs.history.History.switch.Goals as goal

pub invariant_of-self : goal.invariant_of-self
invariant_of-self c =
    let in_it = c.self.inside in
    let more = c.saturating_add-self-inside.result in
    let some : 1 ≤ more = omega (arith, c.saturating_add-self-inside.ensures) in
    sound-same in_it.catalogue in_it.store.messages in_it.rows in_it.facts more c.self.invariant some

pub returns : goal.returns
returns c =
    let old : HistoryView = c.args.self.now in
    let in_it = c.self.inside in
    let new : HistoryView = record { catalogue = in_it.catalogue; store = in_it.store; tables = in_it.tables; outside = in_it.outside; rows = in_it.rows; off = c.set.new.self; facts = c.saturating_add-self-inside.result; last = c.args.at; attempt = in_it.attempt } in
    let facts : in_it.facts ≡ old.facts = ap (λ (v : HistoryView). v.facts) c.self.view_is in
    let counts : Counts c.args.at old new = record {
      counted = λ few. omega (arith, facts, few, c.saturating_add-self-inside.ensures);
      last = refl;
      catalogue = ap (λ (v : HistoryView). v.catalogue) c.self.view_is;
      places = ap (λ (v : HistoryView). v.tables.places) c.self.view_is;
    } in
    adds-switched old new c.args.at counts c.args.app c.args.on (ap (λ (v : HistoryView). v.store.messages) c.self.view_is) (record { tables = ap (λ (v : HistoryView). v.tables.tables) c.self.view_is; outside = ap (λ (v : HistoryView). v.outside) c.self.view_is })
    (c.set.ensures ∙ ap (λ (v : HistoryView). switched c.args.app c.args.on v.off.names) c.self.view_is) (ap (λ (v : HistoryView). v.attempt) c.self.view_is)
