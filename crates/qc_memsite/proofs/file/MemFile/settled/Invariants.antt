use Rattle.std.proofs.Common.{◌≡◌, ◌-◌, length, take}
use Rattle.qc_memsite.specs.Edits.{undone}
use Rattle.qc_memsite.proofs.file.MemFile.settled.Given as goal

abbrev pub invariant-loop-index : goal.invariant-loop-index
invariant-loop-index l = (l.count ≡ length l.self.steps.items) × (undone (take (l.count - l.index) l.self.steps.items) l.file.items ≡ undone l.self.steps.items l.self.bytes.items)
