use Rattle.std.proofs.Common.{◌≡◌, ◌≤◌, ◌<◌}
use Rattle.qc_site.specs.Causes.{Rose}
use Rattle.qc_realsite.proofs.guarded.write_some.Given as goal

-- each turn so far was interrupted
abbrev pub invariant-loop : goal.invariant-loop
invariant-loop g l = (g.F.RawFile.holds l.file ≡ g.F.RawFile.holds l.initial.file) × (g.F.RawFile.troubles l.initial.file ≤ g.F.RawFile.troubles l.file) × (0 < l.counter → Rose (g.F.RawFile.troubles l.initial.file) (g.F.RawFile.troubles l.file))
