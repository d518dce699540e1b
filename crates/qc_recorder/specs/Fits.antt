-- Which calls a component takes, and which recordings fit a catalogue.
use Rattle.std.specs.Prelude.{ℕ, ◌+◌, nat_le, length, List, [], ◌∷◌, Bool, true, false, ◌&&◌, Option, Some, None, option_and_then, if◌then◌else◌, Result, Ok, Err}
use Rattle.std.specs.List.{list_all}
use Rattle.std.specs.Option.{option_map_or, ok_or}
use Rattle.qc_base.specs.Names.{is_text}
use Rattle.qc_base.specs.Spelling.{is_amount}
use Rattle.qc_base.specs.declared.recording.Arg.{Arg}
use Rattle.qc_base.specs.declared.recording.Arg.TheVariants.{Text as ArgText, Whole as ArgWhole}
use Rattle.qc_base.specs.declared.recording.Call.{Call}
use Rattle.qc_base.specs.declared.recording.Recording.{Recording}
use Rattle.qc_protocol.specs.declared.order.RawArg.{RawArg}
use Rattle.qc_protocol.specs.declared.order.RawArg.TheVariants.{Text as RawText, Whole as RawWhole, Other}
use Rattle.qc_protocol.specs.declared.order.RawCall.{RawCall}
use Rattle.qc_protocol.specs.declared.reply.Refusal.{Refusal}
use Rattle.qc_protocol.specs.declared.reply.Refusal.TheVariants.{UnknownApp, UnknownComponent, UnknownMethod, BadArguments}
use Rattle.qc_catalogue.specs.Lookup.{app_named, component_named, method_of}
use Rattle.qc_catalogue.specs.declared.catalogue.App.{App}
use Rattle.qc_catalogue.specs.declared.catalogue.Catalogue.{Catalogue}
use Rattle.qc_catalogue.specs.declared.catalogue.Component.{Component}
use Rattle.qc_catalogue.specs.declared.catalogue.Method.{Method}
use Rattle.qc_script.specs.declared.names.Param.{Param}
use Rattle.qc_script.specs.declared.names.ParamKind.{ParamKind}
use Rattle.qc_script.specs.declared.names.ParamKind.TheVariants.{Text, Whole}

-- what is asked for is there, or the first refusal
abbrev pub and_then : {A B : Type 0} → Result A Refusal → (A → Result B Refusal) → Result B Refusal
and_then (Ok x) go = go x
and_then (Err refusal) go = Err refusal

-- the component of an application

abbrev pub component_of_app : List ℕ → Option App → Result Component Refusal
component_of_app component None = Err UnknownApp
component_of_app component (Some a) = ok_or (component_named component a.components) UnknownComponent

abbrev pub component_in : Catalogue → List ℕ → List ℕ → Result Component Refusal
component_in c app component = component_of_app component (app_named app c.apps)

-- an argument of a parameter's kind
abbrev pub argument : ParamKind → RawArg → Option Arg
argument Text (RawText word) = if is_text word then Some (ArgText word) else None
argument Text (RawWhole n) = None
argument Text Other = None
argument Whole (RawWhole n) = if is_amount n then Some (ArgWhole n) else None
argument Whole (RawText word) = None
argument Whole Other = None

-- The arguments of a call of this number by the parameters from a place on. The places at fault are the first argument
-- that isn't of its parameter's kind, then the first that is missing, or the first that is one too many.
abbrev pub arguments : ℕ → ℕ → List Param → List RawArg → Result (List Arg) Refusal
arguments call place [] [] = Ok []
arguments call place [] (a ∷ args) = Err (BadArguments call place)
arguments call place (p ∷ params) [] = Err (BadArguments call place)
arguments call place (p ∷ params) (a ∷ args) =
    and_then (ok_or (argument p.kind a) (BadArguments call place)) (λ arg. and_then (arguments call (place + 1) params args) (λ more. Ok (arg ∷ more)))

-- A call of a method. A method of a catalogue has at most 16 parameters: of one with more, the seventeenth would be one
-- too many in each call.
abbrev pub call_by : ℕ → List RawArg → Option Method → Result Call Refusal
call_by number args None = Err (UnknownMethod number)
call_by number args (Some m) =
    if nat_le (length m.params) 16 then and_then (arguments number 1 m.params args) (λ taken. Ok (record { method = m.name; args = taken })) else Err (BadArguments number 17)

-- a call as these methods take it; number is its place in the recording, from 1
abbrev pub call_taken : List Method → ℕ → RawCall → Result Call Refusal
call_taken methods number call = call_by number call.args (method_of call.method methods)

-- a recorded call fits: the method is there, and the arguments are as many as its parameters and of their kinds

abbrev pub kind_fits : ParamKind → Arg → Bool
kind_fits Text (ArgText text) = true
kind_fits Text (ArgWhole n) = false
kind_fits Whole (ArgText text) = false
kind_fits Whole (ArgWhole n) = true

abbrev pub args_fit : List Param → List Arg → Bool
args_fit [] [] = true
args_fit [] (a ∷ args) = false
args_fit (p ∷ params) [] = false
args_fit (p ∷ params) (a ∷ args) = kind_fits p.kind a && args_fit params args

abbrev pub call_fits : List Method → Call → Bool
call_fits methods call = option_map_or (λ (m : Method). args_fit m.params call.args) (method_of call.method methods) false

-- a recording fits: its component is there, and each of its calls fits
abbrev pub fits_component : List Call → Result Component Refusal → Bool
fits_component calls (Ok k) = list_all (call_fits k.methods) calls
fits_component calls (Err refusal) = false

abbrev pub recording_fits : Catalogue → Recording → Bool
recording_fits c r = fits_component r.calls (component_in c r.app r.component)
