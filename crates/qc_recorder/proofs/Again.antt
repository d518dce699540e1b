-- A recorded call that fits is taken again as it is.
use Rattle.std.proofs.Common.{◌≡◌, ◌≢◌, ◌∙◌, ℕ, ◌+◌, ◌≤◌, leb, List, [], ◌∷◌, Bool, true, false, cond, ◌&&◌, length, map, Option, Some, None, Result, Ok, Err, refl, sym, ap, arith, leb-true, le-leb}
use Rattle.std.specs.List.{list_all}
use Rattle.std.specs.Option.{option_map_or, ok_or}
use Rattle.std.proofs.lemmas.Bool.{false≢true, and_parts, and_from}
use Rattle.qc_base.specs.Names.{is_name, is_text}
use Rattle.qc_base.specs.Spelling.{is_amount, is_arg, are_args, is_call}
use Rattle.qc_base.specs.declared.recording.Arg.{Arg}
use Rattle.qc_base.specs.declared.recording.Arg.TheVariants.{Text as ArgText, Whole as ArgWhole}
use Rattle.qc_base.specs.declared.recording.Call.{Call}
use Rattle.qc_protocol.specs.declared.reply.Refusal.{Refusal}
use Rattle.qc_protocol.specs.declared.reply.Refusal.TheVariants.{UnknownMethod, BadArguments}
use Rattle.qc_catalogue.specs.Lookup.{method_of}
use Rattle.qc_catalogue.specs.declared.catalogue.Method.{Method}
use Rattle.qc_script.specs.declared.names.Param.{Param}
use Rattle.qc_script.specs.declared.names.ParamKind.{ParamKind}
use Rattle.qc_script.specs.declared.names.ParamKind.TheVariants.{Text, Whole}
use Rattle.qc_catalogue.proofs.Lookups.{found_name}
use Rattle.qc_recorder.specs.Fits.{and_then, argument, arguments, call_by, call_taken, kind_fits, args_fit, call_fits}
use Rattle.qc_recorder.specs.Recording.{raw_arg, raw_call}
use Rattle.qc_recorder.proofs.Found.{err-ok}

argument-again : (kind : ParamKind) (a : Arg) → kind_fits kind a ≡ true → is_arg a ≡ true → argument kind (raw_arg a) ≡ Some a
argument-again Text (ArgText text) fit is = ap (λ b. cond b (Some (ArgText text)) None) is
argument-again Text (ArgWhole n) fit is = absurd (false≢true fit)
argument-again Whole (ArgText text) fit is = absurd (false≢true fit)
argument-again Whole (ArgWhole n) fit is = ap (λ b. cond b (Some (ArgWhole n)) None) is

pub record Again (call place : ℕ) (params : List Param) (args : List Arg) : Type 0 where
  pub taken : arguments call place params (map raw_arg args) ≡ Ok args
  pub long : length params ≡ length args

pub arguments-again : (call place : ℕ) (params : List Param) (args : List Arg) → args_fit params args ≡ true → list_all is_arg args ≡ true → Again call place params args
arguments-again call place [] [] fit is = record { taken = refl; long = refl }
arguments-again call place [] (a ∷ args) fit is = absurd (false≢true fit)
arguments-again call place (p ∷ params) [] fit is = absurd (false≢true fit)
arguments-again call place (p ∷ params) (a ∷ args) fit is =
    let fits = and_parts (kind_fits p.kind a) (args_fit params args) fit in
    let limits = and_parts (is_arg a) (list_all is_arg args) is in
    let more = arguments-again call (place + 1) params args fits.1 limits.1 in
    record {
      taken = ap (λ o. and_then (ok_or o (BadArguments call place)) (λ arg. and_then (arguments call (place + 1) params (map raw_arg args)) (λ rest. Ok (arg ∷ rest)))) (argument-again p.kind a fits.0 limits.0)
          ∙ ap (λ o. and_then o (λ rest. Ok (a ∷ rest))) more.taken;
      long = omega (arith, more.long);
    }

pub call-again : (methods : List Method) (number : ℕ) (call : Call) → is_call call ≡ true → call_fits methods call ≡ true → call_taken methods number (raw_call call) ≡ Ok call
call-again methods number call is fit = by (method_of call.method methods) refl fit
  where
    args_are : are_args call.args ≡ true
    args_are = (and_parts (is_name call.method) (are_args call.args) is).1

    limits : (leb (length call.args) 16 ≡ true) × (list_all is_arg call.args ≡ true)
    limits = and_parts (leb (length call.args) 16) (list_all is_arg call.args) args_are

    by : (o : Option Method) → method_of call.method methods ≡ o → option_map_or (λ (m : Method). args_fit m.params call.args) o false ≡ true → call_taken methods number (raw_call call) ≡ Ok call
    by None f fit = absurd (false≢true fit)
    by (Some m) f fit =
        let again = arguments-again number 1 m.params call.args fit limits.1 in
        let few : leb (length m.params) 16 ≡ true = ap (λ n. leb n 16) again.long ∙ limits.0 in
        let named : m.name ≡ call.method = found_name (λ (x : Method). x.name) call.method methods m f in
        ap (call_by number (map raw_arg call.args)) f
        ∙ ap (λ b. cond b (and_then (arguments number 1 m.params (map raw_arg call.args)) (λ args. Ok (record { method = m.name; args = args }))) (Err (BadArguments number 17))) few
        ∙ ap (λ o. and_then o (λ args. Ok (record { method = m.name; args = args }))) again.taken
        ∙ ap (λ name. Ok (record { method = name; args = call.args })) named

-- and one that is taken again fits

argument-fit : (kind : ParamKind) (a : Arg) → kind_fits kind a ≡ false → argument kind (raw_arg a) ≡ None
argument-fit Text (ArgText text) misfit = absurd (false≢true (sym misfit))
argument-fit Text (ArgWhole n) misfit = refl
argument-fit Whole (ArgText text) misfit = refl
argument-fit Whole (ArgWhole n) misfit = absurd (false≢true (sym misfit))

arguments-fit-again : (call place : ℕ) (params : List Param) (args taken : List Arg) → arguments call place params (map raw_arg args) ≡ Ok taken → args_fit params args ≡ true
arguments-fit-again call place [] [] taken e = refl
arguments-fit-again call place [] (a ∷ args) taken e = absurd (err-ok _ taken e)
arguments-fit-again call place (p ∷ params) [] taken e = absurd (err-ok _ taken e)
arguments-fit-again call place (p ∷ params) (a ∷ args) taken e =
    by (kind_fits p.kind a) refl (arguments call (place + 1) params (map raw_arg args)) refl (λ rest f. arguments-fit-again call (place + 1) params args rest f)
  where
    by : (fit : Bool) → kind_fits p.kind a ≡ fit → (more : Result (List Arg) Refusal) → arguments call (place + 1) params (map raw_arg args) ≡ more
        → ((rest : List Arg) → arguments call (place + 1) params (map raw_arg args) ≡ Ok rest → args_fit params args ≡ true) → kind_fits p.kind a && args_fit params args ≡ true
    by false f more g on =
        absurd (err-ok _ taken (ap (λ o. and_then (ok_or o (BadArguments call place)) (λ arg. and_then (arguments call (place + 1) params (map raw_arg args)) (λ rest. Ok (arg ∷ rest)))) (sym (argument-fit p.kind a f)) ∙ e))
    by true f (Ok rest) g on = and_from (kind_fits p.kind a) (args_fit params args) f (on rest g)
    by true f (Err refusal) g on = absurd (stopped (argument p.kind (raw_arg a)) (ap (λ o. and_then (ok_or (argument p.kind (raw_arg a)) (BadArguments call place)) (λ arg. and_then o (λ rest. Ok (arg ∷ rest)))) (sym g) ∙ e))
      where
        stopped : (o : Option Arg) → and_then (ok_or o (BadArguments call place)) (λ arg. and_then (Err refusal) (λ rest. Ok (arg ∷ rest))) ≡ Ok taken → ⊥
        stopped None h = err-ok _ taken h
        stopped (Some arg) h = err-ok _ taken h

pub call-fits-again : (methods : List Method) (number : ℕ) (call taken : Call) → call_taken methods number (raw_call call) ≡ Ok taken → call_fits methods call ≡ true
call-fits-again methods number call taken e = by (method_of call.method methods) refl e
  where
    by : (o : Option Method) → method_of call.method methods ≡ o → call_by number (map raw_arg call.args) o ≡ Ok taken → call_fits methods call ≡ true
    by None f e = absurd (err-ok _ taken e)
    by (Some m) f e = ap (λ o. option_map_or (λ (x : Method). args_fit x.params call.args) o false) f ∙ few (leb (length m.params) 16) (arguments number 1 m.params (map raw_arg call.args)) refl e
      where
        few : (b : Bool) (o : Result (List Arg) Refusal) → arguments number 1 m.params (map raw_arg call.args) ≡ o → cond b (and_then o (λ args. Ok (record { method = m.name; args = args }))) (Err (BadArguments number 17)) ≡ Ok taken → args_fit m.params call.args ≡ true
        few false o g e = absurd (err-ok _ taken e)
        few true (Err refusal) g e = absurd (err-ok _ taken e)
        few true (Ok args) g e = arguments-fit-again number 1 m.params call.args args g

-- arguments that are more or less than the parameters don't fit
pub other_lengths : (params : List Param) (args : List Arg) → length params ≢ length args → args_fit params args ≡ false
other_lengths [] [] differ = absurd (differ refl)
other_lengths [] (a ∷ args) differ = refl
other_lengths (p ∷ params) [] differ = refl
other_lengths (p ∷ params) (a ∷ args) differ = by (kind_fits p.kind a) (other_lengths params args (λ e. differ (omega (arith, e))))
  where
    by : (b : Bool) → args_fit params args ≡ false → b && args_fit params args ≡ false
    by true e = e
    by false e = refl
