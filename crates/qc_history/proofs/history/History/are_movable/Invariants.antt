use Rattle.std.proofs.Common.{◌≡◌, drop}
use Rattle.std.specs.List.{list_all}
use Rattle.qc_machine.specs.History.{is_movable}
use Rattle.qc_history.proofs.history.History.are_movable.Given as goal

abbrev pub invariant-loop-id : goal.invariant-loop-id
invariant-loop-id l = list_all (is_movable l.app l.self.store.messages) (drop l.id-index l.ids) ≡ list_all (is_movable l.app l.self.store.messages) l.ids
