-- Each method of a catalogue has at most 16 parameters.
use Rattle.std.proofs.Common.{◌≡◌, ◌≤◌, List, ℕ, [], ◌∷◌, map, length, Bool, true, false, cond, Option, Some, None, Ok, refl, subst, arith}
use Rattle.std.specs.Prelude.{unwrap_or, option_and_then}
use Rattle.std.specs.List.{All}
use Rattle.std.proofs.lemmas.Bool.{and_parts, leb-true}
use Rattle.std.proofs.lemmas.List.Elements.{All-nil, All-cons}
use Rattle.toml.specs.Data.{Data, Items, Members, no_members, member, as_array}
use Rattle.qc_catalogue.specs.declared.catalogue.App.{App}
use Rattle.qc_catalogue.specs.declared.catalogue.Catalogue.{Catalogue}
use Rattle.qc_catalogue.specs.declared.catalogue.Component.{Component}
use Rattle.qc_catalogue.specs.declared.catalogue.Exception.{Exception}
use Rattle.qc_catalogue.specs.declared.field.Field.TheVariants.{Params}
use Rattle.qc_catalogue.specs.declared.params.Declared.{Declared}
use Rattle.qc_script.specs.declared.names.Names.{Names}
use Rattle.qc_catalogue.specs.Applications.{methods_in, exception_in, component_in, app_in}
use Rattle.qc_catalogue.specs.Catalogue.{catalogue_in, catalogue_of, names_in}
use Rattle.qc_catalogue.specs.Fields.{value_at}
use Rattle.qc_catalogue.specs.Findings.{each}
use Rattle.qc_catalogue.specs.Laws.{HasFewParams, TakesFew}
use Rattle.qc_catalogue.specs.Methods.{are_params, params_of, declared_in, declared_at, params_in, method_in}
use Rattle.qc_catalogue.specs.Rows.{members_of}
use Rattle.qc_catalogue.proofs.Documents.{made_of}

every : {A : Type 0} (of : List ℕ → Data → A) (P : A → Type 0) → ((key : List ℕ) (d : Data) → P (of key d)) → (ms : Members) → All P (each of ms)
every of P h no_members = All-nil P
every of P h (member key d rest) = All-cons P (of key d) (each of rest) (h key d) (every of P h rest)

few_by : (ds : List Declared) (b : Bool) → are_params ds ≡ b → length (unwrap_or (cond b (Some ds) None) []) ≤ 16
few_by ds true e = leb-true (length ds) 16 (and_parts _ _ e).0
few_by ds false e = omega arith

few_of : (o : Option (List Declared)) → length (unwrap_or (option_and_then (λ ds. cond (are_params ds) (Some ds) None) o) []) ≤ 16
few_of None = omega arith
few_of (Some ds) = few_by ds (are_params ds) refl

few_at : (o : Option Items) → length (unwrap_or (option_and_then params_of o) []) ≤ 16
few_at None = omega arith
few_at (Some items) = few_of (declared_in items)

as_many : (ds : List Declared) → length (map (λ (d : Declared). d.param) ds) ≡ length ds
as_many [] = refl
as_many (d ∷ ds) = omega (arith, as_many ds)

pub few_params : (ms : Members) → length (params_in ms) ≤ 16
few_params ms = omega (arith, as_many (declared_at ms), few_at (option_and_then as_array (value_at Params ms)))

few_methods : (names : Names) (ms : Members) → All HasFewParams (methods_in names ms)
few_methods names ms = every (method_in names) HasFewParams (λ key d. few_params (members_of d)) _

few_in : (ms : Members) → TakesFew (catalogue_in ms)
few_in ms =
    let names = names_in ms in
    every (app_in names) (λ (a : App). All (λ (k : Component). All HasFewParams k.methods) a.components × All (λ (x : Exception). All HasFewParams x.methods) a.exceptions)
    (λ key d. (
      every (component_in names) (λ (k : Component). All HasFewParams k.methods) (λ name e. few_methods names (members_of e)) _,
      every (exception_in names) (λ (x : Exception). All HasFewParams x.methods) (λ name e. few_methods names (members_of e)) _,
    )) _

pub takes_few : (text : List ℕ) (c : Catalogue) → catalogue_of text ≡ Ok c → TakesFew c
takes_few text c h =
    let made = made_of text c h in
    subst TakesFew made.says (few_in made.document)
