use Rattle.qc_history.proofs.Begins.{told-short}
use Rattle.qc_history.proofs.Found.{told-some}
use Rattle.qc_history.proofs.history.History.plays_inside.Goals as goal

pub plays_inside-requires : goal.plays_inside-requires
plays_inside-requires c =
    let in_it = c.self.inside in
    let told = told-some c.args.id in_it.store.messages c.in-Some.recording.now c.in-Some.place c.in-Some.ensures in
    told-short in_it.catalogue in_it.store.messages in_it.rows in_it.facts c.self.invariant c.args.id c.in-Some.recording.now c.in-Some.place told
