use Rattle.std.proofs.Common.{◌≡◌, filter, map, take, not}
use Rattle.qc_base.specs.declared.queue.Waiting.{Waiting}
use Rattle.qc_rows.specs.Holdings.{is_held}
use Rattle.qc_hub.proofs.hub.Hub.ids_moved.Given as goal

abbrev pub invariant-loop-waiting : goal.invariant-loop-waiting
invariant-loop-waiting l = l.ids.items ≡ filter (λ id. not (is_held l.held id)) (map (λ (w : Waiting). w.id) (take l.waiting-index l.waiting-items))
