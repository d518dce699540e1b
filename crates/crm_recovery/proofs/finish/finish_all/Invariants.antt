use Rattle.std.proofs.Common.{◌≤◌, take, length, vec_len, vec_capacity}
use Rattle.crm_recovery.proofs.OneByOne.{FinishedSoFar}
use Rattle.crm_recovery.proofs.finish.finish_all.Given as goal

abbrev pub invariant-loop-attempt : goal.invariant-loop-attempt
invariant-loop-attempt g l =
    FinishedSoFar g.S.Site l.catalogue l.ended l.lines (take l.attempt-index l.attempt-items) l.recovered.items l.fn.log l.fn.site l.log l.site
    × (vec_len l.recovered ≤ l.attempt-index) × (length l.attempt-items ≤ vec_capacity l.recovered)
