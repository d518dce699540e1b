use Rattle.std.proofs.Common.{subst}
use Rattle.qc_listener.specs.Choice.{AreKept}
use Rattle.qc_history.specs.View.{HistoryView}
use Rattle.qc_history.proofs.Kept.{kept-of}
use Rattle.qc_history.proofs.history.History.rows.Goals as goal

pub returns-clause-kept : goal.returns-clause-kept
returns-clause-kept c = λ app.
    let in_it = c.self.inside in
    subst (λ (v : HistoryView). AreKept v.catalogue in_it.rows app v.store.messages) c.self.view_is
    (kept-of in_it.catalogue in_it.store.messages in_it.rows in_it.facts c.self.invariant app)
