-- What one call more is answered.
use Rattle.std.proofs.Common.{◌≡◌, ◌∙◌, ℕ, ◌+◌, ◌<◌, ◌≤◌, leb, ltb, List, [], ◌∷◌, cond, length, drop, get_or, Bool, true, false, Option, Some, None, Result, Ok, Err, refl, sym, ap, subst, arith}
use Rattle.std.specs.List.{list_all}
use Rattle.std.specs.Option.{ok_or}
use Rattle.std.proofs.lemmas.Bool.{le-leb, lt-ltb}
use Rattle.std.proofs.lemmas.List.{at_drop_more, at_drop_all}
use Rattle.qc_base.specs.Spelling.{spelled_recording}
use Rattle.qc_base.specs.declared.recording.Call.{Call}
use Rattle.qc_base.specs.declared.recording.Recording.{Recording}
use Rattle.qc_protocol.specs.declared.order.RawArg.{RawArg}
use Rattle.qc_protocol.specs.declared.order.RawCall.{RawCall}
use Rattle.qc_protocol.specs.declared.reply.Refusal.{Refusal}
use Rattle.qc_protocol.specs.declared.reply.Refusal.TheVariants.{TooManyCalls, TooLong, UnknownComponent}
use Rattle.qc_catalogue.specs.Lookup.{app_named, component_named, method_of}
use Rattle.qc_catalogue.specs.declared.catalogue.App.{App}
use Rattle.qc_catalogue.specs.declared.catalogue.Catalogue.{Catalogue}
use Rattle.qc_catalogue.specs.declared.catalogue.Component.{Component}
use Rattle.qc_catalogue.specs.declared.catalogue.Method.{Method}
use Rattle.qc_catalogue.proofs.Lookups.{found_name}
use Rattle.qc_recorder.specs.Answers.{Tells, IsRefusalOf}
use Rattle.qc_recorder.specs.Fits.{and_then, component_of_app, component_in, call_by, call_fits, fits_component, recording_fits}
use Rattle.qc_recorder.specs.Recording.{no_calls, begun, with_call, if_few, add_calls, methods_for, called, recorded}
use Rattle.qc_recorder.specs.declared.error.RecordError.{RecordError}
use Rattle.qc_recorder.specs.declared.error.RecordError.TheVariants.{Refused, NoMemory}
use Rattle.qc_recorder.proofs.Held.{same-methods}

-- look-ups that found something

pub component-is : (c : Catalogue) (app component : List ℕ) (a : App) (k : Component) → Some a ≡ app_named app c.apps → Some k ≡ component_named component a.components → component_in c app component ≡ Ok k
component-is c app component a k f g = ap (component_of_app component) (sym f) ∙ ap (λ o. ok_or o UnknownComponent) (sym g)

pub begun-is : (c : Catalogue) (app component : List ℕ) (a : App) (k : Component) (r : Recording) → Some a ≡ app_named app c.apps → Some k ≡ component_named component a.components → r ≡ no_calls a.name k.name → begun c app component ≡ Ok r
begun-is c app component a k r f g e =
    ap (λ o. and_then o (λ x. Ok (no_calls app component))) (component-is c app component a k f g)
    ∙ ap (λ x. Ok (no_calls x component)) (sym (found_name (λ (x : App). x.name) app c.apps a (sym f)))
    ∙ ap (λ x. Ok (no_calls a.name x)) (sym (found_name (λ (x : Component). x.name) component a.components k (sym g)))
    ∙ ap (λ x. Ok x) (sym e)

pub fits-by : (c : Catalogue) (r : Recording) (app component : List ℕ) (calls : List Call) (a : App) (k : Component) → app ≡ r.app → component ≡ r.component → calls ≡ r.calls
    → Some a ≡ app_named app c.apps → Some k ≡ component_named component a.components → list_all (call_fits k.methods) calls ≡ recording_fits c r
fits-by c r app component calls a k same_app same_component same_calls f g =
    sym (ap (fits_component calls) (component-is c app component a k f g))
    ∙ ap (λ x. fits_component calls (component_in c x component)) same_app
    ∙ ap (λ x. fits_component calls (component_in c r.app x)) same_component
    ∙ ap (λ x. fits_component x (component_in c r.app r.component)) same_calls

-- the call as it is taken, by what was looked up
pub taken-as : (c : Catalogue) (r : Recording) (call : RawCall) (n : ℕ) (args : List RawArg) (o : Option Method) (taken : Result Call Refusal) → n ≡ length r.calls + 1 → args ≡ call.args → o ≡ method_of call.method (methods_for c r)
    → call_by n args o ≡ taken → called c r call ≡ and_then taken (if_few r)
taken-as c r call n args o taken number same found e =
    ap (λ x. and_then (call_by (length r.calls + 1) call.args x) (if_few r)) (sym found)
    ∙ ap (λ x. and_then (call_by (length r.calls + 1) x o) (if_few r)) (sym same)
    ∙ ap (λ x. and_then (call_by x args o) (if_few r)) (sym number)
    ∙ ap (λ x. and_then x (if_few r)) e

pub refused-call : (c : Catalogue) (r : Recording) (call : RawCall) (n : ℕ) (args : List RawArg) (o : Option Method) (e : RecordError) → n ≡ length r.calls + 1 → args ≡ call.args → o ≡ method_of call.method (methods_for c r)
    → Tells (Err e) (call_by n args o) → IsRefusalOf (called c r call) e
refused-call c r call n args o (Refused refusal) number same found told = taken-as c r call n args o (Err refusal) number same found told
refused-call c r call n args o NoMemory number same found told = tt

-- what is done with a call that is taken

pub few-and-short : (r : Recording) (call : Call) → length r.calls < 64 → length (spelled_recording (with_call r call)) ≤ 16384 → if_few r call ≡ Ok (with_call r call)
few-and-short r call few short =
    ap (λ b. cond b (cond (leb (length (spelled_recording (with_call r call))) 16384) (Ok (with_call r call)) (Err (TooLong (length (spelled_recording (with_call r call)))))) (Err TooManyCalls)) (lt-ltb _ _ few)
    ∙ ap (λ b. cond b (Ok (with_call r call)) (Err (TooLong (length (spelled_recording (with_call r call)))))) (le-leb _ _ short)

-- a list of calls

pub list-more : (c : Catalogue) (calls : List RawCall) (i : ℕ) (call : RawCall) (old new : Recording) → i < length calls → call ≡ get_or calls i call → called c old call ≡ Ok new
    → add_calls (methods_for c old) (drop i calls) old ≡ add_calls (methods_for c new) (drop (i + 1) calls) new
list-more c calls i call old new lt is e =
    at_drop_more (λ xs. add_calls (methods_for c old) xs old) calls i call lt
    ∙ ap (λ x. add_calls (methods_for c old) (x ∷ drop (i + 1) calls) old) (sym is)
    ∙ ap (λ o. and_then o (add_calls (methods_for c old) (drop (i + 1) calls))) e
    ∙ ap (λ methods. add_calls methods (drop (i + 1) calls) new) (sym (same-methods c (methods_for c old) old new call e))

pub list-refused : (c : Catalogue) (calls : List RawCall) (i : ℕ) (call : RawCall) (old : Recording) (e : RecordError) (asked : Result Recording Refusal) → i < length calls → call ≡ get_or calls i call
    → asked ≡ add_calls (methods_for c old) (drop i calls) old → IsRefusalOf (called c old call) e → Tells (Err e) asked
list-refused c calls i call old NoMemory asked lt is so told = tt
list-refused c calls i call old (Refused refusal) asked lt is so told =
    so ∙ at_drop_more (λ xs. add_calls (methods_for c old) xs old) calls i call lt
    ∙ ap (λ x. add_calls (methods_for c old) (x ∷ drop (i + 1) calls) old) (sym is)
    ∙ ap (λ o. and_then o (add_calls (methods_for c old) (drop (i + 1) calls))) told
