use Rattle.std.proofs.Common.{◌≡◌, map, take}
use Rattle.qc_underway.specs.Compensators.{kept_for, kept_of}
use Rattle.qc_underway.proofs.compensators.Compensators.make.Given as goal

abbrev pub invariant-loop-name : goal.invariant-loop-name
invariant-loop-name l = map kept_of l.each.items ≡ kept_for l.catalogue (take l.name-index l.names) l.records
