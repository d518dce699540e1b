-- What an attempt plays, and the rows that it names.
use Rattle.std.specs.Prelude.{◌≡◌, ℕ, ◌+◌, ◌*◌, List, [], ◌∷◌, length, map, flat_map, sum_by, Bool, false, Option, Some, None, option_map, option_and_then, is_some}
use Rattle.std.specs.List.{list_all}
use Rattle.std.specs.Option.{option_map_or}
use Rattle.qc_base.specs.declared.fact.Kind.{Kind}
use Rattle.qc_base.specs.declared.fact.Kind.TheVariants.{Normal, Final}
use Rattle.qc_base.specs.declared.recording.Arg.{Arg}
use Rattle.qc_base.specs.declared.recording.Call.{Call}
use Rattle.qc_base.specs.declared.recording.Recording.{Recording}
use Rattle.qc_base.specs.declared.recording.Row.{Row}
use Rattle.qc_script.specs.declared.script.Script.{Script}
use Rattle.qc_script.specs.Naming.{effect_of, names_with, outs, rows_of}
use Rattle.qc_catalogue.specs.declared.catalogue.App.{App}
use Rattle.qc_catalogue.specs.declared.catalogue.Catalogue.{Catalogue}
use Rattle.qc_catalogue.specs.declared.catalogue.Component.{Component}
use Rattle.qc_catalogue.specs.declared.catalogue.Exception.{Exception}
use Rattle.qc_catalogue.specs.declared.catalogue.Method.{Method}
use Rattle.qc_catalogue.specs.Lookup.{app_named, component_named, exception_named, method_of}

-- a call to play: its number, its script and its arguments
pub record Part : Type 0 where
  pub number : ℕ
  pub script : Script
  pub args : List Arg

abbrev pub component_at : List ℕ → App → Option Component
component_at name a = component_named name a.components

-- the exception class that a component names
abbrev pub exception_by : App → Component → Option Exception
exception_by a k = option_and_then (λ name. exception_named name a.exceptions) k.exception

abbrev pub script_named : List Method → List ℕ → Script
script_named methods name = option_map_or (λ (m : Method). m.script) (method_of name methods) []

abbrev pub part_of_call : ℕ → List Method → Call → Part
part_of_call n methods call = record { number = n; script = script_named methods call.method; args = call.args }

-- the calls, numbered from n on
abbrev pub parts_from : ℕ → List Method → List Call → List Part
parts_from n methods [] = []
parts_from n methods (call ∷ calls) = part_of_call n methods call ∷ parts_from (n + 1) methods calls

-- the exception class's own script, as call 0
abbrev pub part_of_class : Exception → Part
part_of_class x = record { number = 0; script = x.last; args = [] }

-- A normal attempt plays the recorded calls by the component's scripts, a final one the exception class's own script
-- and then the recorded calls by the exception class's scripts.
abbrev pub parts_in : App → Recording → Kind → Option Component → List Part
parts_in a r Normal k = option_map_or (λ (k : Component). parts_from 1 k.methods r.calls) k []
parts_in a r Final k =
    option_map_or (λ (x : Exception). part_of_class x ∷ parts_from 1 x.methods r.calls) (option_and_then (exception_by a) k) []

abbrev pub parts_of : Catalogue → Recording → Kind → List Part
parts_of c r kind = option_map_or (λ (a : App). parts_in a r kind (component_at r.component a)) (app_named r.app c.apps) []

-- the methods whose scripts the recorded calls are played by
abbrev pub methods_in : App → Kind → Option Component → Option (List Method)
methods_in a Normal k = option_map (λ (k : Component). k.methods) k
methods_in a Final k = option_map (λ (x : Exception). x.methods) (option_and_then (exception_by a) k)

abbrev pub methods_at : Catalogue → Recording → Kind → Option (List Method)
methods_at c r kind = option_and_then (λ (a : App). methods_in a kind (component_at r.component a)) (app_named r.app c.apps)

abbrev pub has_method : List Method → Call → Bool
has_method methods call = is_some (method_of call.method methods)

-- whether a recording can be played: its component is there, for a final attempt with its exception class, and each
-- of its calls has its method
abbrev pub is_playable : Catalogue → Recording → Kind → Bool
is_playable c r kind = option_map_or (λ methods. list_all (has_method methods) r.calls) (methods_at c r kind) false

-- the rows that any step of the played scripts names, in the order first met
abbrev pub rows_of_parts : List Part → List Row → List Row
rows_of_parts [] rows = rows
rows_of_parts (p ∷ parts) rows = rows_of_parts parts (rows_of p.script p.args rows)

abbrev pub rows_of_attempt : Catalogue → Recording → Kind → List Row
rows_of_attempt c r kind = rows_of_parts (parts_of c r kind) []

-- the resources that steps with an effect name, call by call
abbrev pub effects_of_parts : List Part → List (List ℕ)
effects_of_parts parts = flat_map (λ (p : Part). flat_map effect_of p.script) parts

abbrev pub outs_of_parts : List Part → ℕ
outs_of_parts parts = sum_by (λ (p : Part). outs p.script) parts

-- what an attempt sets aside of the log, in bytes
abbrev pub log_room : List Part → ℕ
log_room parts = 256 * (2 + length (names_with [] (effects_of_parts parts)) + 2 * outs_of_parts parts)
