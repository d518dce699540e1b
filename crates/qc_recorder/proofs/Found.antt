-- What a catalogue's look-ups find.
use Rattle.std.proofs.Common.{◌≡◌, ◌∙◌, ℕ, List, [], ◌∷◌, Bool, true, false, ◌&&◌, cond, map, Option, Some, None, Result, Ok, Err, find, refl, sym, ap}
use Rattle.std.specs.List.{list_all}
use Rattle.std.specs.Option.{ok_or}
use Rattle.std.proofs.lemmas.Bool.{and_parts}
use Rattle.std.proofs.lemmas.Option.{same_Some, none-some}
use Rattle.qc_base.specs.Names.{is_name, is_app_name}
use Rattle.qc_protocol.specs.declared.reply.Refusal.{Refusal}
use Rattle.qc_protocol.specs.declared.reply.Refusal.TheVariants.{UnknownComponent}
use Rattle.qc_catalogue.specs.Lookup.{app_named, component_named}
use Rattle.qc_catalogue.specs.Orderly.{are_apart, keys_apart, is_method, is_component_of, is_app, is_orderly}
use Rattle.qc_catalogue.specs.declared.catalogue.App.{App}
use Rattle.qc_catalogue.specs.declared.catalogue.Catalogue.{Catalogue}
use Rattle.qc_catalogue.specs.declared.catalogue.Component.{Component}
use Rattle.qc_catalogue.specs.declared.catalogue.Opening.{Opening}
use Rattle.qc_catalogue.specs.declared.catalogue.Resource.{Resource}
use Rattle.qc_catalogue.proofs.Lookups.{found_name}
use Rattle.qc_recorder.specs.Fits.{component_of_app, component_in}

abbrev pub taken : {A : Type 0} → A → Result A Refusal
taken x = Ok x

abbrev pub refused : {A : Type 0} → Refusal → Result A Refusal
refused refusal = Err refusal

pub same_Ok : {A : Type 0} (x y : A) → taken x ≡ taken y → x ≡ y
same_Ok x y e = cc

pub err-ok : {A : Type 0} (refusal : Refusal) (x : A) → refused refusal ≡ taken x → ⊥
err-ok refusal x h = cc

-- what is found passes where all do
pub found-passes : {A : Type 0} (p q : A → Bool) (xs : List A) (x : A) → list_all p xs ≡ true → find q xs ≡ Some x → p x ≡ true
found-passes p q [] x all e = absurd (none-some x e)
found-passes p q (y ∷ ys) x all e = by (q y) (found-passes p q ys x (and_parts (p y) (list_all p ys) all).1) e
  where
    by : (b : Bool) → (find q ys ≡ Some x → p x ≡ true) → cond b (Some y) (find q ys) ≡ Some x → p x ≡ true
    by true on e = ap p (sym (same_Some y x e)) ∙ (and_parts (p y) (list_all p ys) all).0
    by false on e = on e

-- a component that is there: names, and methods with names and few parameters
pub record IsThere (app component : List ℕ) (k : Component) : Type 0 where
  pub app_named : is_name app ≡ true
  pub component_named : is_name component ≡ true
  pub methods : list_all is_method k.methods ≡ true

pub there-in : (app component : List ℕ) (a : App) (k : Component) → is_app a ≡ true → a.name ≡ app → ok_or (component_named component a.components) UnknownComponent ≡ Ok k → IsThere app component k
there-in app component a k is named e = by (component_named component a.components) refl e
  where
    parts : (is_app_name a.name ≡ true) × (list_all (is_component_of a) a.components ≡ true)
    parts = and_parts (is_app_name a.name) (list_all (is_component_of a) a.components) is

    by : (o : Option Component) → component_named component a.components ≡ o → ok_or o UnknownComponent ≡ Ok k → IsThere app component k
    by None f e = absurd (err-ok UnknownComponent k e)
    by (Some x) f e =
        let found : component_named component a.components ≡ Some k = f ∙ ap (λ y. Some y) (same_Ok x k e) in
        let component_is = found-passes (is_component_of a) _ a.components k parts.1 found in
        let inner = and_parts (is_name k.name) _ component_is in
        record {
          app_named = ap is_name (sym named) ∙ (and_parts (is_name a.name) _ parts.0).0;
          component_named = ap is_name (sym (found_name (λ (x : Component). x.name) component a.components k found)) ∙ inner.0;
          methods = (and_parts (list_all is_method k.methods) _ inner.1).0;
        }

orderly-apps : (c : Catalogue) → is_orderly c ≡ true → list_all is_app c.apps ≡ true
orderly-apps c orderly =
    let outside = list_all (λ (r : Resource). keys_apart r.rows) c.resources in
    let inside = list_all (λ (t : Opening). keys_apart t.rows) c.tables in
    let resources = are_apart (map (λ (r : Resource). r.name) c.resources) in
    let tables = are_apart (map (λ (t : Opening). t.name) c.tables) in
    let apps = are_apart (map (λ (a : App). a.name) c.apps) in
    let behind_outside = outside && list_all is_app c.apps in
    let behind_inside = inside && behind_outside in
    let behind_resources = resources && behind_inside in
    (and_parts outside _ (and_parts inside behind_outside (and_parts resources behind_inside (and_parts tables behind_resources (and_parts apps (tables && behind_resources) orderly).1).1).1).1).1

pub there : (c : Catalogue) (app component : List ℕ) (k : Component) → is_orderly c ≡ true → component_in c app component ≡ Ok k → IsThere app component k
there c app component k orderly e = by (app_named app c.apps) refl e
  where
    apps : list_all is_app c.apps ≡ true
    apps = orderly-apps c orderly

    by : (o : Option App) → app_named app c.apps ≡ o → component_of_app component o ≡ Ok k → IsThere app component k
    by None f e = absurd (err-ok _ k e)
    by (Some a) f e = there-in app component a k (found-passes is_app _ c.apps a apps f) (found_name (λ (x : App). x.name) app c.apps a f) e
