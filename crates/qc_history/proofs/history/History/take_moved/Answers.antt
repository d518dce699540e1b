use Rattle.std.proofs.Common.{◌≡◌, ◌∙◌, true, false, sym, rules}
use Rattle.qc_history.specs.View.{HistoryView}
use Rattle.qc_history.proofs.Follows.{doubly-moved, early-moved, moved-taken, wrongly-moved}
use Rattle.qc_history.proofs.Taken.{moved-live, moved-queue}
use Rattle.qc_history.proofs.history.History.take_moved.Goals as goal

pub returns-then-not-is_later : goal.returns-then-not-is_later
returns-then-not-is_later c = λ numbers.
    let early : c.is_later.result ≡ false = search rules in
    early-moved c.args.self.now numbers c.args.app c.args.queue c.args.at c.args.ids.now (sym c.is_later.ensures ∙ early)

pub returns-then-not-are_distinct : goal.returns-then-not-are_distinct
returns-then-not-are_distinct c = λ numbers.
    let twice : c.are_distinct.result ≡ false = search rules in
    doubly-moved c.args.self.now numbers c.args.app c.args.queue c.args.at c.args.ids.now (sym c.are_distinct.ensures ∙ twice)

pub returns-then-not-are_movable : goal.returns-then-not-are_movable
returns-then-not-are_movable c = λ numbers.
    let wrong : c.are_movable.result ≡ false = search rules in
    wrongly-moved c.args.self.now numbers c.args.app c.args.queue c.args.at c.args.ids.now (sym c.are_movable.ensures ∙ wrong)

pub move_batch-requires-clause-live : goal.move_batch-requires-clause-live
move_batch-requires-clause-live c =
    let right : c.are_movable.result ≡ true = search rules in
    moved-live c.args.app c.args.ids.now c.args.self.now.store.messages (sym c.are_movable.ensures ∙ right)

pub move_batch-requires-clause-queue : goal.move_batch-requires-clause-queue
move_batch-requires-clause-queue c = moved-queue c.args.app c.args.queue c.args.at c.args.ids.now c.requires.limits

pub returns : goal.returns
returns c = λ numbers.
    let old : HistoryView = c.args.self.now in
    let later : c.is_later.result ≡ true = search rules in
    let once : c.are_distinct.result ≡ true = search rules in
    let right : c.are_movable.result ≡ true = search rules in
    moved-taken old numbers c.args.app c.args.queue c.args.at c.args.ids.now c.move_batch.new.self (c.move_batch.ensures c.args.app) (sym c.is_later.ensures ∙ later) (sym c.are_distinct.ensures ∙ once) (sym c.are_movable.ensures ∙ right)
    c.requires.few
