-- What a call is noted as.
use Rattle.qc_memsite.specs.declared.history.Note.{Note}
use Rattle.qc_memsite.specs.declared.history.Note.TheVariants as note
use Rattle.qc_memsite.specs.Call.{Call, Wrote, CutTo, Synced, Put}

abbrev pub call_of : Note → Call
call_of (note.Wrote file at bytes) = Wrote file at bytes.now
call_of (note.CutTo file len) = CutTo file len
call_of (note.Synced file) = Synced file
call_of (note.Put resource key amount) = Put resource.now key.now amount
