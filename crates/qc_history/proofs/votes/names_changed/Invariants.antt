use Rattle.std.proofs.Common.{◌≡◌, drop, map}
use Rattle.qc_play.specs.declared.record.PlayRecord.{PlayRecord}
use Rattle.qc_script.specs.Naming.{names_with}
use Rattle.qc_history.specs.Votes.{names_changed}
use Rattle.qc_history.proofs.votes.names_changed.Given as goal

abbrev pub invariant-loop-record : goal.invariant-loop-record
invariant-loop-record l = names_with l.names.items (map (λ (r : PlayRecord). r.resource) (drop l.record-index l.records)) ≡ names_changed l.records
