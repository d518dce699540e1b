-- What is recorded of the calls that an order asks for, and why it isn't.
use Rattle.std.specs.Prelude.{ℕ, [], ◌∷◌, Option, Some, None, option_map, option_and_then, Result, Ok, Err}
use Rattle.qc_base.specs.declared.recording.Recording.{Recording}
use Rattle.qc_protocol.specs.declared.order.Act.{Act}
use Rattle.qc_protocol.specs.declared.order.Act.TheVariants.{OpenSlot, CallSlot, CommitSlot, Send}
use Rattle.qc_protocol.specs.declared.order.RawCall.{RawCall}
use Rattle.qc_protocol.specs.declared.reply.Refusal.{Refusal}
use Rattle.qc_recorder.specs.Recording.{begun, called, recorded}
use Rattle.qc_machine.specs.State.{State, in_slot}

-- what a client's recorder holds with one call more
abbrev pub called_by : State → ℕ → RawCall → Option (Result Recording Refusal)
called_by s n call = option_map (λ (r : Recording). called s.history.catalogue r call) (in_slot n s.clients)

-- the recording that an order begins or goes on with, or its first refusal by number
abbrev pub recording_asked : State → Act → Option (Result Recording Refusal)
recording_asked s (OpenSlot n app component) = Some (begun s.history.catalogue app component)
recording_asked s (CallSlot n call) = called_by s n call
recording_asked s (Send app component calls) = Some (recorded s.history.catalogue app component calls)
recording_asked s _ = None

abbrev pub if_refused : {A : Type 0} → Result A Refusal → Option Refusal
if_refused (Ok a) = None
if_refused (Err refusal) = Some refusal

abbrev pub not_recorded : State → Act → Option Refusal
not_recorded s act = option_and_then if_refused (recording_asked s act)

-- a recording that has calls
abbrev pub if_called : Recording → Option Recording
if_called r = elim r.calls [ [] ↦ None | call ∷ calls ↦ Some r ]

abbrev pub if_recorded : Result Recording Refusal → Option Recording
if_recorded (Ok r) = if_called r
if_recorded (Err refusal) = None

-- what an order sends
abbrev pub recording_sent : State → Act → Option Recording
recording_sent s (CommitSlot n) = option_and_then if_called (in_slot n s.clients)
recording_sent s (Send app component calls) = if_recorded (recorded s.history.catalogue app component calls)
recording_sent s _ = None
