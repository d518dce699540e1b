use Rattle.std.proofs.Common.{◌≡◌, filter_map, take}
use Rattle.crm_recovery.specs.Tellings.{kept_by}
use Rattle.crm_recovery.proofs.records.unforgotten.Given as goal

abbrev pub invariant-loop-line : goal.invariant-loop-line
invariant-loop-line l = l.records.items ≡ filter_map (kept_by l.lines l.attempt l.resource) (take l.line-index l.lines)
