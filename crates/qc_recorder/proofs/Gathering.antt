-- Arguments that are gathered one by one.
use Rattle.std.proofs.Common.{◌≡◌, ◌∙◌, ℕ, ◌+◌, ◌<◌, ◌≤◌, List, [], ◌∷◌, ◌++◌, length, drop, Result, Ok, Err, refl, ap, arith}
use Rattle.std.proofs.lemmas.List.{at_drop_all, length-drop}
use Rattle.qc_base.specs.declared.recording.Arg.{Arg}
use Rattle.qc_protocol.specs.declared.order.RawArg.{RawArg}
use Rattle.qc_protocol.specs.declared.reply.Refusal.{Refusal}
use Rattle.qc_protocol.specs.declared.reply.Refusal.TheVariants.{BadArguments}
use Rattle.qc_script.specs.declared.names.Param.{Param}
use Rattle.qc_recorder.specs.Fits.{and_then, arguments}

-- what is behind these arguments
abbrev pub behind : List Arg → List Arg → Result (List Arg) Refusal
behind taken more = Ok (taken ++ more)

-- the arguments before a place are taken, and what is left decides
abbrev pub IsGathered : ℕ → List Param → List RawArg → List Arg → ℕ → Type 0
IsGathered call params args taken index = arguments call 1 params args ≡ and_then (arguments call (index + 1) (drop index params) (drop index args)) (behind taken)

-- the parameters or the arguments end first

params-left : (call place : ℕ) (params : List Param) → 1 ≤ length params → arguments call place params [] ≡ Err (BadArguments call place)
params-left call place [] some = absurd (omega arith)
params-left call place (p ∷ params) some = refl

args-left : (call place : ℕ) (args : List RawArg) → 1 ≤ length args → arguments call place [] args ≡ Err (BadArguments call place)
args-left call place [] some = absurd (omega arith)
args-left call place (a ∷ args) some = refl

pub missing : (call : ℕ) (params : List Param) (args : List RawArg) (taken : List Arg) (index : ℕ) → IsGathered call params args taken index → index < length params → length args ≤ index
    → arguments call 1 params args ≡ Err (BadArguments call (index + 1))
missing call params args taken index g lt none =
    g ∙ at_drop_all (λ xs. and_then (arguments call (index + 1) (drop index params) xs) (behind taken)) args index none
    ∙ ap (λ o. and_then o (behind taken)) (params-left call (index + 1) (drop index params) (omega (arith, length-drop index params, lt)))

pub too-many : (call : ℕ) (params : List Param) (args : List RawArg) (taken : List Arg) (index : ℕ) → IsGathered call params args taken index → length params ≤ index → index < length args
    → arguments call 1 params args ≡ Err (BadArguments call (index + 1))
too-many call params args taken index g all more =
    g ∙ at_drop_all (λ xs. and_then (arguments call (index + 1) xs (drop index args)) (behind taken)) params index all
    ∙ ap (λ o. and_then o (behind taken)) (args-left call (index + 1) (drop index args) (omega (arith, length-drop index args, more)))
