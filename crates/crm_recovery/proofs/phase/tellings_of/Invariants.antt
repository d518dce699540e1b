use Rattle.std.proofs.Common.{◌≡◌, filter_map, map, take}
use Rattle.crm_recovery.specs.Tellings.{plan_of, plan_by}
use Rattle.crm_recovery.proofs.phase.tellings_of.Given as goal

abbrev pub invariant-loop-line : goal.invariant-loop-line
invariant-loop-line l = map plan_of l.tellings.items ≡ filter_map (plan_by l.catalogue l.lines l.attempt l.committed) (take l.line-index l.lines)
