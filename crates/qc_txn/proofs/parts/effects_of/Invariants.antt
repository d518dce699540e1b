use Rattle.std.proofs.Common.{◌≡◌, ◌+◌, ◌≤◌, ◌*◌, drop}
use Rattle.qc_txn.specs.Attempt.{effects_in}
use Rattle.qc_txn.specs.Parts.{parts_of}
use Rattle.qc_txn.proofs.parts.effects_of.Given as goal

abbrev pub invariant-loop-place : goal.invariant-loop-place
invariant-loop-place l =
    (l.sum + effects_in (drop l.place (parts_of l.catalogue l.recording l.kind)) ≡ effects_in (parts_of l.catalogue l.recording l.kind))
    × (l.sum ≤ 255 * l.place)
