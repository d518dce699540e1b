use Rattle.std.proofs.Common.{◌≡◌, ◌++◌, drop}
use Rattle.qc_play.specs.Effects.{records_of}
use Rattle.qc_history.proofs.votes.records_of.Given as goal

abbrev pub invariant-loop-record : goal.invariant-loop-record
invariant-loop-record l = l.own.items ++ records_of l.resource (drop l.record-index l.records) ≡ records_of l.resource l.records
