use Rattle.std.proofs.Common.{◌≡◌, ◌++◌, ◌&&◌, ◌||◌, ℕ, drop, not, filter_map}
use Rattle.std.specs.List.{list_any}
use Rattle.std.specs.List.Sorted.{IsStrictlySortedBy}
use Rattle.std.specs.Ordering.{nat_cmp}
use Rattle.std.specs.BTreeMap.{is_at}
use Rattle.qc_base.specs.LogLines.{opened_by, is_done}
use Rattle.crm_log.proofs.Rising.{has}
use Rattle.crm_log.proofs.attempts.unfinished.Given as goal

abbrev pub invariant-loop-line : goal.invariant-loop-line
invariant-loop-line l =
    ((n : ℕ) → list_any (is_at (nat_cmp n)) l.open.keys || has (filter_map opened_by (drop l.line-index l.lines)) n ≡ has (filter_map opened_by l.lines) n)
    × IsStrictlySortedBy nat_cmp l.open.keys

abbrev pub invariant-loop-line-2 : goal.invariant-loop-line-2
invariant-loop-line-2 l =
    ((n : ℕ) → list_any (is_at (nat_cmp n)) l.open.keys && not (is_done (drop l.line-index l.lines) n) ≡ has (filter_map opened_by l.lines) n && not (is_done l.lines n))
    × IsStrictlySortedBy nat_cmp l.open.keys

abbrev pub invariant-loop-attempt : goal.invariant-loop-attempt
invariant-loop-attempt l = (goal.iterator-loop-attempt).can_next l.attempt-iterator × (goal.iterator-loop-attempt).is_finite l.attempt-iterator × (l.attempts.items ++ l.attempt-iterator ≡ l.initial.attempt-iterator)
