use Rattle.std.proofs.Common.{◌≡◌, ◌+◌, ◌++◌, take, vec_len, vec_capacity}
use Rattle.qc_base.specs.LogLines.{notices_to}
use Rattle.crm_recovery.proofs.phase.tell.Given as goal

abbrev pub invariant-loop-heard : goal.invariant-loop-heard
invariant-loop-heard l = (l.notices.items ≡ l.fn.notices.items ++ notices_to l.telling.name (take l.heard-index l.heard-items))
    × (vec_len l.notices ≡ vec_len l.fn.notices + l.heard-index) × (vec_capacity l.notices ≡ vec_capacity l.fn.notices)
