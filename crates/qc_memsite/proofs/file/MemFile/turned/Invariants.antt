use Rattle.std.proofs.Common.{◌≡◌, drop}
use Rattle.qc_memsite.specs.Edits.{turned_by}
use Rattle.qc_memsite.specs.Left.{settled}
use Rattle.qc_memsite.proofs.file.MemFile.turned.Given as goal

abbrev pub invariant-loop-step : goal.invariant-loop-step
invariant-loop-step l = turned_by (drop l.step-index l.step-items) l.replay.shown.items l.replay.image.items ≡ turned_by l.self.steps.items (settled l.self) (settled l.self)
