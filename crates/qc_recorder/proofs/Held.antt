-- What is recorded fits the catalogue, and is within the limits.
use Rattle.std.proofs.Common.{◌≡◌, ◌∙◌, ℕ, ◌+◌, ◌≤◌, ◌<◌, leb, ltb, List, [], ◌∷◌, ◌++◌, Bool, true, false, ◌&&◌, cond, length, Result, Ok, Err, refl, sym, ap, subst, arith, leb-true, le-leb}
use Rattle.std.specs.List.{list_all}
use Rattle.std.proofs.lemmas.Bool.{false≢true, and_parts, and_from, ltb-true}
use Rattle.std.proofs.lemmas.List.{length_push}
use Rattle.std.proofs.lemmas.List.Folds.{list_all-append}
use Rattle.qc_base.specs.Names.{is_name}
use Rattle.qc_base.specs.Spelling.{is_call, are_calls, is_between, is_recorded, is_recording, spelled_recording}
use Rattle.qc_base.specs.declared.recording.Call.{Call}
use Rattle.qc_base.specs.declared.recording.Recording.{Recording}
use Rattle.qc_protocol.specs.declared.order.RawCall.{RawCall}
use Rattle.qc_protocol.specs.declared.reply.Refusal.{Refusal}
use Rattle.qc_protocol.specs.declared.reply.Refusal.TheVariants.{TooManyCalls, TooLong}
use Rattle.qc_catalogue.specs.Orderly.{is_method, is_orderly}
use Rattle.qc_catalogue.specs.declared.catalogue.Catalogue.{Catalogue}
use Rattle.qc_catalogue.specs.declared.catalogue.Component.{Component}
use Rattle.qc_catalogue.specs.declared.catalogue.Method.{Method}
use Rattle.qc_recorder.specs.Fits.{and_then, component_in, call_taken, call_fits, fits_component, recording_fits}
use Rattle.qc_recorder.specs.Recording.{no_calls, begun, with_call, if_short, if_few, add_call, add_calls, methods_by, methods_for, called, recorded, IsWithin, IsHeld}
use Rattle.qc_recorder.proofs.Found.{same_Ok, err-ok, IsThere, there}
use Rattle.qc_recorder.proofs.Sizes.{name-length, size-empty}
use Rattle.qc_recorder.proofs.Taken.{call-fits}

-- a recorder that was just begun

pub begun-within : (app component : List ℕ) → is_name app ≡ true → is_name component ≡ true → IsWithin (no_calls app component)
begun-within app component a k = record {
  app = a;
  component = k;
  calls = refl;
  few = omega arith;
  short = omega (arith, size-empty app component, name-length app a, name-length component k);
}

pub begun-held : (c : Catalogue) (app component : List ℕ) (r : Recording) → is_orderly c ≡ true → begun c app component ≡ Ok r → IsHeld c r
begun-held c app component r orderly e = by (component_in c app component) refl e
  where
    by : (o : Result Component Refusal) → component_in c app component ≡ o → and_then o (λ k. Ok (no_calls app component)) ≡ Ok r → IsHeld c r
    by (Err refusal) f e = absurd (err-ok _ r e)
    by (Ok k) f e =
        let is = there c app component k orderly f in
        subst (IsHeld c) (same_Ok (no_calls app component) r e) (record {
          within = begun-within app component is.app_named is.component_named;
          fits = ap (fits_component []) f;
        })

-- one call more

pub within-more : (r : Recording) (call : Call) → IsWithin r → is_call call ≡ true → length r.calls < 64 → length (spelled_recording (with_call r call)) ≤ 16384 → IsWithin (with_call r call)
within-more r call is limits few short = record {
  app = is.app;
  component = is.component;
  calls = list_all-append is_call r.calls (call ∷ []) ∙ and_from (list_all is_call r.calls) (is_call call && true) is.calls (and_from (is_call call) true limits refl);
  few = omega (arith, length_push r.calls call, few);
  short = short;
}

pub record IsMore (r : Recording) (call : Call) (more : Recording) : Type 0 where
  pub is : more ≡ with_call r call
  pub few : length r.calls < 64
  pub short : length (spelled_recording (with_call r call)) ≤ 16384

few-more : (r : Recording) (call : Call) (more : Recording) → if_few r call ≡ Ok more → IsMore r call more
few-more r call more e = by (ltb (length r.calls) 64) refl (leb (length (spelled_recording (with_call r call))) 16384) refl e
  where
    by : (few : Bool) → ltb (length r.calls) 64 ≡ few → (short : Bool) → leb (length (spelled_recording (with_call r call))) 16384 ≡ short
        → cond few (cond short (Ok (with_call r call)) (Err (TooLong (length (spelled_recording (with_call r call)))))) (Err TooManyCalls) ≡ Ok more → IsMore r call more
    by false f short g e = absurd (err-ok _ more e)
    by true f false g e = absurd (err-ok _ more e)
    by true f true g e = record { is = sym (same_Ok (with_call r call) more e); few = ltb-true _ _ f; short = leb-true _ _ g }

held-more : (c : Catalogue) (r more : Recording) (raw : RawCall) (k : Component) → IsHeld c r → component_in c r.app r.component ≡ Ok k → list_all is_method k.methods ≡ true → list_all (call_fits k.methods) r.calls ≡ true → add_call k.methods r raw ≡ Ok more → IsHeld c more
held-more c r more raw k is found good fit e = by (call_taken k.methods (length r.calls + 1) raw) refl e
  where
    by : (o : Result Call Refusal) → call_taken k.methods (length r.calls + 1) raw ≡ o → and_then o (if_few r) ≡ Ok more → IsHeld c more
    by (Err refusal) f e = absurd (err-ok _ more e)
    by (Ok call) f e =
        let one = call-fits k.methods (length r.calls + 1) raw call good f in
        let longer = few-more r call more e in
        subst (IsHeld c) (sym longer.is) (record {
          within = within-more r call is.within one.limits longer.few longer.short;
          fits = ap (fits_component (r.calls ++ call ∷ [])) found ∙ list_all-append (call_fits k.methods) r.calls (call ∷ []) ∙ and_from (list_all (call_fits k.methods) r.calls) (call_fits k.methods call && true) fit (and_from (call_fits k.methods call) true one.fits refl);
        })

pub called-held : (c : Catalogue) (r more : Recording) (raw : RawCall) → is_orderly c ≡ true → IsHeld c r → called c r raw ≡ Ok more → IsHeld c more
called-held c r more raw orderly is e = by (component_in c r.app r.component) refl is.fits e
  where
    by : (o : Result Component Refusal) → component_in c r.app r.component ≡ o → fits_component r.calls o ≡ true → add_call (methods_by o) r raw ≡ Ok more → IsHeld c more
    by (Err refusal) f fits e = absurd (false≢true fits)
    by (Ok k) f fits e = held-more c r more raw k is f (there c r.app r.component k orderly f).methods fits e

-- a call more is of the same component

pub same-component : (methods : List Method) (r more : Recording) (raw : RawCall) → add_call methods r raw ≡ Ok more → (more.app ≡ r.app) × (more.component ≡ r.component)
same-component methods r more raw e = by (call_taken methods (length r.calls + 1) raw) e
  where
    by : (o : Result Call Refusal) → and_then o (if_few r) ≡ Ok more → (more.app ≡ r.app) × (more.component ≡ r.component)
    by (Err refusal) e = absurd (err-ok _ more e)
    by (Ok call) e = let longer = few-more r call more e in (ap (λ (x : Recording). x.app) longer.is, ap (λ (x : Recording). x.component) longer.is)

pub same-methods : (c : Catalogue) (methods : List Method) (r more : Recording) (raw : RawCall) → add_call methods r raw ≡ Ok more → methods_for c more ≡ methods_for c r
same-methods c methods r more raw e =
    let same = same-component methods r more raw e in
    ap (λ app. methods_by (component_in c app more.component)) same.0 ∙ ap (λ component. methods_by (component_in c r.app component)) same.1

-- a list of calls

pub all-held : (c : Catalogue) (calls : List RawCall) (r more : Recording) → is_orderly c ≡ true → IsHeld c r → add_calls (methods_for c r) calls r ≡ Ok more → IsHeld c more
all-held c [] r more orderly is e = subst (IsHeld c) (same_Ok r more e) is
all-held c (call ∷ calls) r more orderly is e = by (add_call (methods_for c r) r call) refl (λ x held f. all-held c calls x more orderly held f) e
  where
    by : (o : Result Recording Refusal) → add_call (methods_for c r) r call ≡ o → ((x : Recording) → IsHeld c x → add_calls (methods_for c x) calls x ≡ Ok more → IsHeld c more)
        → and_then o (add_calls (methods_for c r) calls) ≡ Ok more → IsHeld c more
    by (Err refusal) f on e = absurd (err-ok _ more e)
    by (Ok x) f on e = on x (called-held c r x call orderly is f) (ap (λ methods. add_calls methods calls x) (same-methods c (methods_for c r) r x call f) ∙ e)

pub recorded-held : (c : Catalogue) (app component : List ℕ) (calls : List RawCall) (r : Recording) → is_orderly c ≡ true → recorded c app component calls ≡ Ok r → IsHeld c r
recorded-held c app component calls r orderly e = by (begun c app component) refl e
  where
    by : (o : Result Recording Refusal) → begun c app component ≡ o → and_then o (λ x. add_calls (methods_for c x) calls x) ≡ Ok r → IsHeld c r
    by (Err refusal) f e = absurd (err-ok _ r e)
    by (Ok x) f e = all-held c calls x r orderly (begun-held c app component x orderly f) e

-- with a call it is a recording

pub within-recording : (r : Recording) → IsWithin r → 1 ≤ length r.calls → is_recording r ≡ true
within-recording r is some =
    and_from (is_recorded r) _ (
    and_from (is_name r.app) _ is.app (
    and_from (is_name r.component) (are_calls r.calls) is.component (and_from (is_between 1 64 (length r.calls)) (list_all is_call r.calls) (and_from (leb 1 (length r.calls)) _ (le-leb _ _ some) (le-leb _ _ is.few)) is.calls)
    )
    ) (le-leb _ _ is.short)
