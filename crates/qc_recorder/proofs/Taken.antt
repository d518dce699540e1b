-- What is taken of a call fits its method.
use Rattle.std.proofs.Common.{◌≡◌, ◌∙◌, ℕ, ◌+◌, ◌≤◌, leb, List, [], ◌∷◌, Bool, true, false, cond, length, Option, Some, None, Result, Ok, Err, refl, sym, ap, subst, arith, leb-true, le-leb}
use Rattle.std.specs.List.{list_all}
use Rattle.std.specs.Option.{option_map_or, ok_or}
use Rattle.std.proofs.lemmas.Bool.{and_parts, and_from}
use Rattle.std.proofs.lemmas.Option.{same_Some, none-some}
use Rattle.qc_base.specs.Names.{is_name, is_text}
use Rattle.qc_base.specs.Spelling.{is_amount, is_arg, are_args, is_call}
use Rattle.qc_base.specs.declared.recording.Arg.{Arg}
use Rattle.qc_base.specs.declared.recording.Arg.TheVariants.{Text as ArgText, Whole as ArgWhole}
use Rattle.qc_base.specs.declared.recording.Call.{Call}
use Rattle.qc_protocol.specs.declared.order.RawArg.{RawArg}
use Rattle.qc_protocol.specs.declared.order.RawArg.TheVariants.{Text as RawText, Whole as RawWhole, Other}
use Rattle.qc_protocol.specs.declared.order.RawCall.{RawCall}
use Rattle.qc_protocol.specs.declared.reply.Refusal.{Refusal}
use Rattle.qc_protocol.specs.declared.reply.Refusal.TheVariants.{UnknownMethod, BadArguments}
use Rattle.qc_catalogue.specs.Lookup.{method_of}
use Rattle.qc_catalogue.specs.Orderly.{is_method}
use Rattle.qc_catalogue.specs.declared.catalogue.Method.{Method}
use Rattle.qc_script.specs.declared.names.Param.{Param}
use Rattle.qc_script.specs.declared.names.ParamKind.{ParamKind}
use Rattle.qc_script.specs.declared.names.ParamKind.TheVariants.{Text, Whole}
use Rattle.qc_catalogue.proofs.Lookups.{found_name}
use Rattle.qc_recorder.specs.Fits.{and_then, argument, arguments, call_by, call_taken, kind_fits, args_fit, call_fits}
use Rattle.qc_recorder.proofs.Found.{same_Ok, err-ok, found-passes}

-- an argument that is taken is of its kind

pub argument-fits : (kind : ParamKind) (raw : RawArg) (a : Arg) → argument kind raw ≡ Some a → (kind_fits kind a ≡ true) × (is_arg a ≡ true)
argument-fits Text (RawText word) a e = by (is_text word) refl e
  where
    by : (b : Bool) → is_text word ≡ b → cond b (Some (ArgText word)) None ≡ Some a → (kind_fits Text a ≡ true) × (is_arg a ≡ true)
    by true f e = subst (λ x. (kind_fits Text x ≡ true) × (is_arg x ≡ true)) (same_Some (ArgText word) a e) (refl, f)
    by false f e = absurd (none-some a e)
argument-fits Text (RawWhole n) a e = absurd (none-some a e)
argument-fits Text Other a e = absurd (none-some a e)
argument-fits Whole (RawWhole n) a e = by (is_amount n) refl e
  where
    by : (b : Bool) → is_amount n ≡ b → cond b (Some (ArgWhole n)) None ≡ Some a → (kind_fits Whole a ≡ true) × (is_arg a ≡ true)
    by true f e = subst (λ x. (kind_fits Whole x ≡ true) × (is_arg x ≡ true)) (same_Some (ArgWhole n) a e) (refl, f)
    by false f e = absurd (none-some a e)
argument-fits Whole (RawText word) a e = absurd (none-some a e)
argument-fits Whole Other a e = absurd (none-some a e)

-- the arguments that are taken are as many as the parameters, and of their kinds

pub record ArgumentsFit (params : List Param) (args : List Arg) : Type 0 where
  pub fit : args_fit params args ≡ true
  pub limits : list_all is_arg args ≡ true
  pub long : length args ≡ length params

pub arguments-fit : (call place : ℕ) (params : List Param) (raw : List RawArg) (args : List Arg) → arguments call place params raw ≡ Ok args → ArgumentsFit params args
arguments-fit call place [] [] args e = subst (ArgumentsFit []) (same_Ok [] args e) (record { fit = refl; limits = refl; long = refl })
arguments-fit call place [] (a ∷ raw) args e = absurd (err-ok _ args e)
arguments-fit call place (p ∷ params) [] args e = absurd (err-ok _ args e)
arguments-fit call place (p ∷ params) (a ∷ raw) args e = by (argument p.kind a) refl (arguments call (place + 1) params raw) (λ rest f. arguments-fit call (place + 1) params raw rest f) refl e
  where
    by : (o : Option Arg) → argument p.kind a ≡ o → (more : Result (List Arg) Refusal) → ((rest : List Arg) → arguments call (place + 1) params raw ≡ Ok rest → ArgumentsFit params rest) → arguments call (place + 1) params raw ≡ more
        → and_then (ok_or o (BadArguments call place)) (λ arg. and_then more (λ rest. Ok (arg ∷ rest))) ≡ Ok args → ArgumentsFit (p ∷ params) args
    by None f more on g e = absurd (err-ok _ args e)
    by (Some arg) f (Err refusal) on g e = absurd (err-ok _ args e)
    by (Some arg) f (Ok rest) on g e =
        let one = argument-fits p.kind a arg f in
        let more = on rest g in
        subst (ArgumentsFit (p ∷ params)) (same_Ok (arg ∷ rest) args e) (record {
          fit = and_from (kind_fits p.kind arg) (args_fit params rest) one.0 more.fit;
          limits = and_from (is_arg arg) (list_all is_arg rest) one.1 more.limits;
          long = omega (arith, more.long);
        })

-- a call that is taken fits

pub record CallFits (methods : List Method) (call : Call) : Type 0 where
  pub fits : call_fits methods call ≡ true
  pub limits : is_call call ≡ true

call-in : (methods : List Method) (number : ℕ) (raw : RawCall) (m : Method) (call : Call) → method_of raw.method methods ≡ Some m → is_method m ≡ true → call_by number raw.args (Some m) ≡ Ok call → CallFits methods call
call-in methods number raw m call found is e = few (leb (length m.params) 16) refl (arguments number 1 m.params raw.args) refl e
  where
    same : method_of m.name methods ≡ Some m
    same = ap (λ name. method_of name methods) (found_name (λ (x : Method). x.name) raw.method methods m found) ∙ found

    few : (b : Bool) → leb (length m.params) 16 ≡ b → (taken : Result (List Arg) Refusal) → arguments number 1 m.params raw.args ≡ taken
        → cond b (and_then taken (λ args. Ok (record { method = m.name; args = args }))) (Err (BadArguments number 17)) ≡ Ok call → CallFits methods call
    few false f taken g e = absurd (err-ok _ call e)
    few true f (Err refusal) g e = absurd (err-ok _ call e)
    few true f (Ok args) g e =
        let fit = arguments-fit number 1 m.params raw.args args g in
        let most = leb-true (length m.params) 16 f in
        subst (CallFits methods) (same_Ok (record { method = m.name; args = args }) call e) (record {
          fits = ap (λ o. option_map_or (λ (x : Method). args_fit x.params args) o false) same ∙ fit.fit;
          limits = and_from (is_name m.name) (are_args args) (and_parts (is_name m.name) _ is).0 (and_from (leb (length args) 16) (list_all is_arg args) (le-leb (length args) 16 (omega (arith, most, fit.long))) fit.limits);
        })

pub call-fits : (methods : List Method) (number : ℕ) (raw : RawCall) (call : Call) → list_all is_method methods ≡ true → call_taken methods number raw ≡ Ok call → CallFits methods call
call-fits methods number raw call good e = by (method_of raw.method methods) refl e
  where
    by : (o : Option Method) → method_of raw.method methods ≡ o → call_by number raw.args o ≡ Ok call → CallFits methods call
    by None f e = absurd (err-ok _ call e)
    by (Some m) f e = call-in methods number raw m call f (found-passes is_method _ methods m good f) e
