-- What a recorder holds, and what one call more makes of it.
use Rattle.std.specs.Prelude.{◌≡◌, ℕ, ◌+◌, ◌≤◌, nat_le, nat_lt, List, [], ◌∷◌, ◌++◌, length, map, Bool, true, if◌then◌else◌, Result, Ok, Err}
use Rattle.std.specs.List.{list_all}
use Rattle.qc_base.specs.Names.{is_name}
use Rattle.qc_base.specs.Spelling.{is_call, spelled_recording}
use Rattle.qc_base.specs.declared.recording.Arg.{Arg}
use Rattle.qc_base.specs.declared.recording.Arg.TheVariants.{Text as ArgText, Whole as ArgWhole}
use Rattle.qc_base.specs.declared.recording.Call.{Call}
use Rattle.qc_base.specs.declared.recording.Recording.{Recording}
use Rattle.qc_protocol.specs.declared.order.RawArg.{RawArg}
use Rattle.qc_protocol.specs.declared.order.RawArg.TheVariants.{Text as RawText, Whole as RawWhole}
use Rattle.qc_protocol.specs.declared.order.RawCall.{RawCall}
use Rattle.qc_protocol.specs.declared.reply.Refusal.{Refusal}
use Rattle.qc_protocol.specs.declared.reply.Refusal.TheVariants.{TooManyCalls, TooLong}
use Rattle.qc_catalogue.specs.declared.catalogue.Catalogue.{Catalogue}
use Rattle.qc_catalogue.specs.declared.catalogue.Component.{Component}
use Rattle.qc_catalogue.specs.declared.catalogue.Method.{Method}
use Rattle.qc_recorder.specs.Fits.{and_then, component_in, call_taken, recording_fits}

-- a recorder that was just begun holds no call

abbrev pub no_calls : List ℕ → List ℕ → Recording
no_calls app component = record { app = app; component = component; calls = [] }

abbrev pub begun : Catalogue → List ℕ → List ℕ → Result Recording Refusal
begun c app component = and_then (component_in c app component) (λ k. Ok (no_calls app component))

-- one call more

abbrev pub with_call : Recording → Call → Recording
with_call r call = record r { calls = r.calls ++ call ∷ [] }

abbrev pub if_short : Recording → Result Recording Refusal
if_short r = if nat_le (length (spelled_recording r)) 16384 then Ok r else Err (TooLong (length (spelled_recording r)))

abbrev pub if_few : Recording → Call → Result Recording Refusal
if_few r call = if nat_lt (length r.calls) 64 then if_short (with_call r call) else Err TooManyCalls

-- a recording with one call more by these methods, or the first refusal by number
abbrev pub add_call : List Method → Recording → RawCall → Result Recording Refusal
add_call methods r call = and_then (call_taken methods (length r.calls + 1) call) (if_few r)

-- with more calls, which are tried one by one
abbrev pub add_calls : List Method → List RawCall → Recording → Result Recording Refusal
add_calls methods [] r = Ok r
add_calls methods (call ∷ calls) r = and_then (add_call methods r call) (add_calls methods calls)

-- the methods that may be called: none where the component isn't there

abbrev pub methods_by : Result Component Refusal → List Method
methods_by (Ok k) = k.methods
methods_by (Err refusal) = []

abbrev pub methods_for : Catalogue → Recording → List Method
methods_for c r = methods_by (component_in c r.app r.component)

-- one call more under a catalogue
abbrev pub called : Catalogue → Recording → RawCall → Result Recording Refusal
called c r call = add_call (methods_for c r) r call

-- the recording of a whole list of calls
abbrev pub recorded : Catalogue → List ℕ → List ℕ → List RawCall → Result Recording Refusal
recorded c app component calls = and_then (begun c app component) (λ r. add_calls (methods_for c r) calls r)

-- within the limits, but that no call may be held
pub record IsWithin (r : Recording) : Type 0 where
  pub app : is_name r.app ≡ true
  pub component : is_name r.component ≡ true
  pub calls : list_all is_call r.calls ≡ true
  pub few : length r.calls ≤ 64
  pub short : length (spelled_recording r) ≤ 16384

-- and it fits the catalogue
pub record IsHeld (c : Catalogue) (r : Recording) : Type 0 where
  pub within : IsWithin r
  pub fits : recording_fits c r ≡ true

-- a recorded call as it would be sent anew

abbrev pub raw_arg : Arg → RawArg
raw_arg (ArgText text) = RawText text
raw_arg (ArgWhole n) = RawWhole n

abbrev pub raw_call : Call → RawCall
raw_call call = record { method = call.method; args = map raw_arg call.args }
