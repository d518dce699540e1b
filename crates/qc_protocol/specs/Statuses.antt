-- The exit status of each status.
use Rattle.std.specs.Prelude.{ℕ}
use Rattle.qc_protocol.specs.declared.status.Status.{Status}
use Rattle.qc_protocol.specs.declared.status.Status.TheVariants.{Done, BadWords, SourceFault, SinkFault, SiteFault, NotMade, NoCatalogue, AlreadyMade, BadCatalogue, Damaged, InputLong, NoMemory, DoorFault, SpawnFault}

abbrev pub status_code : Status → ℕ
status_code Done = 0
status_code BadWords = 1
status_code SourceFault = 2
status_code SinkFault = 3
status_code SiteFault = 4
status_code NotMade = 5
status_code NoCatalogue = 6
status_code AlreadyMade = 7
status_code BadCatalogue = 8
status_code Damaged = 9
status_code InputLong = 10
status_code NoMemory = 11
status_code DoorFault = 12
status_code SpawnFault = 13
