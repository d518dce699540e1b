-- What the calls of a recorder answer.
use Rattle.std.specs.Prelude.{◌≡◌, ⊤, Result, Ok, Err}
use Rattle.qc_protocol.specs.declared.reply.Refusal.{Refusal}
use Rattle.qc_recorder.specs.declared.error.RecordError.{RecordError}
use Rattle.qc_recorder.specs.declared.error.RecordError.TheVariants.{Refused, NoMemory}

-- A call answers what is asked for, or its refusal. Want of memory is answered of anything.
abbrev pub Tells : {A : Type 0} → Result A RecordError → Result A Refusal → Type 0
Tells (Ok x) asked = asked ≡ Ok x
Tells (Err (Refused refusal)) asked = asked ≡ Err refusal
Tells (Err NoMemory) asked = ⊤

-- an error is the refusal of what was asked for, or want of memory
abbrev pub IsRefusalOf : {A : Type 0} → Result A Refusal → RecordError → Type 0
IsRefusalOf asked (Refused refusal) = asked ≡ Err refusal
IsRefusalOf asked NoMemory = ⊤
