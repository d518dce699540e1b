use Rattle.std.proofs.Common.{map, drop, vec_len, vec_capacity}
use Rattle.crm_recovery.specs.Tellings.{plan_of}
use Rattle.crm_recovery.proofs.Delivering.{Delivering}
use Rattle.crm_recovery.proofs.phase.deliver_all.Given as goal

abbrev pub invariant-loop-place : goal.invariant-loop-place
invariant-loop-place g l =
    Delivering g.S.Site l.committed (map plan_of l.fn.tellings) l.fn.notices.items l.fn.site (map plan_of (drop l.place l.tellings)) l.notices.items (vec_len l.notices) (vec_capacity l.notices) l.site
