use Rattle.std.proofs.Common.{◌≡◌, ◌≤◌, ◌-◌, IfSome, length}
use Rattle.qc_realsite.proofs.Parts.{HasWritten}
use Rattle.qc_realsite.proofs.guarded.Guarded.write_all.Given as goal

abbrev pub invariant-loop-done : goal.invariant-loop-done
invariant-loop-done g l = (l.done ≤ length l.bytes) × (l.self.faults ≡ l.initial.self.faults) × (l.self.trusted ≡ l.initial.self.trusted) × (g.F.RawFile.troubles l.initial.self.file ≤ g.F.RawFile.troubles l.self.file) × IfSome (g.F.RawFile.holds l.initial.self.file) (HasWritten l.at l.done l.bytes (g.F.RawFile.holds l.self.file))

abbrev pub decreases-loop-done : goal.decreases-loop-done
decreases-loop-done g l = length l.bytes - l.done
