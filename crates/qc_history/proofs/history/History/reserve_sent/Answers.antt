use Rattle.std.proofs.Common.{◌+◌, ap}
use Rattle.qc_history.specs.View.{HistoryView}
use Rattle.qc_history.proofs.Aside.{room-next, sound-next}
use Rattle.qc_history.proofs.history.History.reserve_sent.Goals as goal

pub invariant_of-self-2 : goal.invariant_of-self-2
invariant_of-self-2 c =
    let in_it = c.self.inside in
    sound-next in_it.catalogue in_it.store.messages c.reserve.new.self.messages in_it.rows c.set.new.self in_it.facts c.self.invariant (c.len-id.result + 1) c.args.recording.now c.set.result c.reserve.ensures.messages (ap (λ n. n + 1) c.len-id.ensures.value)
    c.set.ensures.kept c.set.ensures.same

pub returns-clause-room : goal.returns-clause-room
returns-clause-room c =
    let in_it = c.self.inside in
    let old : HistoryView = record { catalogue = in_it.catalogue; store = in_it.store; tables = in_it.tables; outside = in_it.outside; rows = in_it.rows; off = in_it.off; facts = in_it.facts; last = in_it.last; attempt = in_it.attempt } in
    room-next old c.reserve.new.self c.set.new.self (c.len-id.result + 1) c.args.recording.now c.set.result c.in_ok-reserve.ensures.room (ap (λ n. n + 1) c.len-id.ensures.value) c.set.ensures.kept
