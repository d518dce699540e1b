-- What is found first in the table of a method whose parameters are inputs.
use Rattle.std.proofs.Common.{◌≡◌, List, ℕ, [], ◌∷◌, true, map, Some, sym, ap, ◌∙◌}
use Rattle.toml.specs.Data.{Members}
use Rattle.qc_catalogue.specs.declared.field.Field.TheVariants.{Params, Script as ScriptField}
use Rattle.qc_catalogue.specs.declared.params.Declared.{Declared}
use Rattle.qc_script.specs.declared.names.Names.{Names}
use Rattle.qc_script.specs.declared.names.Param.{Param}
use Rattle.qc_catalogue.specs.Fields.{value_at}
use Rattle.qc_catalogue.specs.Findings.{Finding, field_path, first_found, unknown}
use Rattle.qc_catalogue.specs.Methods.{params_at, is_queueable, script_found, method_found}
use Rattle.qc_catalogue.proofs.Findings.{first_append}

-- parameters that are read, all of them inputs
pub record AreInputs (ms : Members) (declared : List Declared) (params : List Param) : Type 0 where
  pub there : params_at ms ≡ Some declared
  pub inputs : is_queueable declared ≡ true
  pub taken : params ≡ map (λ (d : Declared). d.param) declared

abbrev script_at : Names → List Param → List ℕ → Members → List Finding
script_at names params path ms = script_found names params (field_path path ScriptField) (value_at ScriptField ms)

pub first_in_script : (names : Names) (name path : List ℕ) (ms : Members) (ds : List Declared) (ps : List Param) (f : Finding) → AreInputs ms ds ps
    → first_found (script_at names ps path ms) ≡ Some f → first_found (method_found names name path ms) ≡ Some f
first_in_script names name path ms ds ps f are first =
    rw (are.there, are.inputs) (first_append _ _ f (rw are.taken at first))

pub first_behind_script : (names : Names) (name path : List ℕ) (ms : Members) (ds : List Declared) (ps : List Param) (f : Finding) → AreInputs ms ds ps
    → script_at names ps path ms ≡ [] → first_found (unknown (Params ∷ ScriptField ∷ []) path ms) ≡ Some f → first_found (method_found names name path ms) ≡ Some f
first_behind_script names name path ms ds ps f are clean first =
    rw (are.there, are.inputs, rw are.taken at clean) (first_append _ [] f first)
