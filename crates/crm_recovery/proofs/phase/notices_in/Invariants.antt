use Rattle.std.proofs.Common.{◌≡◌, map, take}
use Rattle.crm_recovery.specs.Tellings.{plan_of, notices_in}
use Rattle.crm_recovery.proofs.phase.notices_in.Given as goal

abbrev pub invariant-loop-telling : goal.invariant-loop-telling
invariant-loop-telling l = l.count ≡ notices_in (map plan_of (take l.telling-index l.tellings))
