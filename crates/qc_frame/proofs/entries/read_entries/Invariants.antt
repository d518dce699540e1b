use Rattle.std.proofs.Common.{◌≤◌, ◌-◌, length, take}
use Rattle.qc_frame.specs.Frame.{EntriesOf}
use Rattle.qc_frame.proofs.entries.read_entries.Given as goal

abbrev pub invariant-loop-place : goal.invariant-loop-place
invariant-loop-place l = (l.place ≤ length l.payload) × EntriesOf l.at l.entries.items (take l.place l.payload)

abbrev pub decreases-loop-place : goal.decreases-loop-place
decreases-loop-place l = length l.payload - l.place
