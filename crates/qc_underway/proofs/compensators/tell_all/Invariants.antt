use Rattle.std.proofs.Common.{◌≡◌, ◌+◌, ◌++◌, take, vec_len, vec_capacity}
use Rattle.qc_base.specs.LogLines.{notices_to}
use Rattle.qc_underway.proofs.compensators.tell_all.Given as goal

abbrev pub invariant-loop-entry : goal.invariant-loop-entry
invariant-loop-entry l = (l.notices.items ≡ l.fn.notices.items ++ notices_to l.resource (take l.entry-index l.heard))
    × (vec_len l.notices ≡ vec_len l.fn.notices + l.entry-index) × (vec_capacity l.notices ≡ vec_capacity l.fn.notices)
