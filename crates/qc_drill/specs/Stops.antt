-- Why a drill ends, as a status.
use Rattle.std.specs.Prelude.{Ok, Err}
use Rattle.std.specs.declared.result.Result.{Result}
use Rattle.qc_protocol.specs.declared.status.Status.{Status}
use Rattle.qc_protocol.specs.declared.status.Status.TheVariants.{Done, SourceFault as source, SinkFault as sink, SiteFault as site, InputLong as long, NoMemory as memory}
use Rattle.qc_drill.specs.declared.stop.Stop.{Stop}
use Rattle.qc_drill.specs.declared.stop.Stop.TheVariants.{SourceFault, SinkFault, SiteFault, InputLong, NoMemory}

abbrev pub status_of : Stop → Status
status_of SourceFault = source
status_of SinkFault = sink
status_of SiteFault = site
status_of InputLong = long
status_of NoMemory = memory

-- a drill that ended, or was stopped
abbrev pub ended_as : Result (Unit {0}) Stop → Status
ended_as (Ok done) = Done
ended_as (Err stop) = status_of stop

-- all lines that were read are answered

abbrev pub AllAt : Stop → Type 0
AllAt SourceFault = Unit {0}
AllAt InputLong = Unit {0}
AllAt _ = ⊥

abbrev pub AnswersAll : {A : Type 0} → Result A Stop → Type 0
AnswersAll (Ok n) = Unit {0}
AnswersAll (Err stop) = AllAt stop
