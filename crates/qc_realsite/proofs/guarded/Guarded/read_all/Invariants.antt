use Rattle.std.proofs.Common.{◌≡◌, ◌≤◌, ◌-◌, IfSome, length}
use Rattle.qc_realsite.proofs.Parts.{HasRead}
use Rattle.qc_realsite.proofs.guarded.Guarded.read_all.Given as goal

abbrev pub invariant-loop-done : goal.invariant-loop-done
invariant-loop-done g l = (l.done ≤ length l.into) × (length l.into ≡ length l.initial.into) × (g.F.RawFile.holds l.self.file ≡ g.F.RawFile.holds l.initial.self.file) × (l.self.faults ≡ l.initial.self.faults) × (l.self.trusted ≡ l.initial.self.trusted) × (g.F.RawFile.troubles l.initial.self.file ≤ g.F.RawFile.troubles l.self.file) × IfSome (g.F.RawFile.holds l.initial.self.file) (HasRead l.at l.done l.into)

abbrev pub decreases-loop-done : goal.decreases-loop-done
decreases-loop-done g l = length l.initial.into - l.done
