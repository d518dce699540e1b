-- An attempt on any message has its scripts.
use Rattle.std.proofs.Common.{◌≡◌, ◌∙◌, ℕ, ◌==◌, List, [], ◌∷◌, Bool, true, false, refl, sym, ap, subst, true≢false, Option, Some, None, Ok, Err, option_map, option_and_then, is_some, unwrap_or, cond, eqb-true}
use Rattle.std.specs.List.{list_all}
use Rattle.std.specs.Option.{option_map_or, ok_or}
use Rattle.std.specs.Str.{bytes_eq}
use Rattle.std.specs.declared.result.Result.{Result}
use Rattle.std.proofs.lemmas.Bool.{and_parts, and_from}
use Rattle.qc_base.specs.declared.fact.Fact.{Fact}
use Rattle.qc_base.specs.declared.fact.Kind.{Kind}
use Rattle.qc_base.specs.declared.fact.Kind.TheVariants.{Normal, Final}
use Rattle.qc_base.specs.declared.fact.Place.{Place}
use Rattle.qc_base.specs.declared.fact.Place.TheVariants.{Queue, Dead, Consumed}
use Rattle.qc_base.specs.declared.message.Message.{Message}
use Rattle.qc_base.specs.declared.recording.Call.{Call}
use Rattle.qc_base.specs.declared.recording.Recording.{Recording}
use Rattle.qc_base.specs.Messages.{message_of}
use Rattle.qc_base.specs.Names.{is_name, is_app_name}
use Rattle.qc_protocol.specs.declared.reply.Refusal.TheVariants.{UnknownComponent}
use Rattle.qc_catalogue.specs.declared.catalogue.App.{App}
use Rattle.qc_catalogue.specs.declared.catalogue.Catalogue.{Catalogue}
use Rattle.qc_catalogue.specs.declared.catalogue.Component.{Component}
use Rattle.qc_catalogue.specs.declared.catalogue.Exception.{Exception}
use Rattle.qc_catalogue.specs.declared.catalogue.Method.{Method}
use Rattle.qc_catalogue.specs.declared.error.CatalogueError.{CatalogueError}
use Rattle.qc_catalogue.specs.declared.error.CatalogueError.TheVariants.{BadField}
use Rattle.qc_catalogue.specs.declared.field.Field.TheVariants.{Table, Resource as ResourceField, Application, Id, Exception as ExceptionField, Component as ComponentField, Class, Method as MethodField}
use Rattle.qc_catalogue.specs.Applications.{app_found, app_from, class_of, component_found, component_from, exception_found, exceptions_in, id_found, methods_found, methods_in, names_class, same_kinds, taken_by, taken_by_class, takes}
use Rattle.qc_catalogue.specs.Catalogue.{apps_found, catalogue_in, catalogue_of, names_in}
use Rattle.qc_catalogue.specs.Fields.{members_at, value_at}
use Rattle.qc_catalogue.specs.Findings.{field_path, in_names, in_optional, in_table, rule, under}
use Rattle.qc_catalogue.specs.Lookup.{app_named, component_named, exception_named, method_of}
use Rattle.qc_catalogue.specs.Orderly.{is_app, is_component_of, is_orderly}
use Rattle.qc_catalogue.specs.Rows.{opening_found, resource_found}
use Rattle.qc_catalogue.proofs.Documents.{made_of}
use Rattle.qc_catalogue.proofs.Lookups.{found_name}
use Rattle.qc_catalogue.proofs.Passed.{Passed, passed_names, passed_parts, passed_rule}
use Rattle.qc_listener.specs.Choice.{kind_at}
use Rattle.qc_recorder.specs.Fits.{args_fit, call_fits, component_of_app, fits_component, recording_fits}
use Rattle.qc_recorder.proofs.Found.{found-passes}
use Rattle.qc_txn.specs.Parts.{exception_by, has_method, is_playable, methods_in as methods_by}
use Rattle.qc_machine.specs.History.{by_text, history_of, if_ok, is_legal, names_exception}
use Rattle.qc_machine.specs.Orderly.{is_place}
use Rattle.qc_machine.proofs.Histories.{holds-in-force, orderly-history}
use Rattle.qc_machine.proofs.Keeping.{legal-orderly, message-kept, queued}
use Rattle.qc_machine.proofs.Recorders.{reads-orderly}
use Rattle.qc_machine.proofs.Settled.{orderly-apps}

-- the exception class that a component names takes each method of the component

abbrev stands_in : App → Component → Bool
stands_in a k = option_map_or (λ (x : Exception). list_all (takes x.methods) k.methods) (exception_by a k) true

abbrev stand_in : App → Bool
stand_in a = list_all (stands_in a) a.components

abbrev classes_stand : Catalogue → Bool
classes_stand c = list_all stand_in c.apps

taken-all : (all : List Method) (path : List ℕ) (ms : List Method) → Passed (taken_by all path ms) → list_all (takes all) ms ≡ true
taken-all all path [] p = refl
taken-all all path (m ∷ ms) p =
    let (one, rest) = passed_parts (rule (takes all m) (BadField (under path m.name))) (taken_by all path ms) p in
    and_from (takes all m) _ (passed_rule (takes all m) (BadField (under path m.name)) one) (taken-all all path ms rest)

class-taken : (path : List ℕ) (ms : List Method) (o : Option Exception) → Passed (taken_by_class path ms o) → option_map_or (λ (x : Exception). list_all (takes x.methods) ms) o true ≡ true
class-taken path ms None p = refl
class-taken path ms (Some x) p = taken-all x.methods (field_path (under path x.name) MethodField) ms p

pub classes-read : (text : List ℕ) (c : Catalogue) → catalogue_of text ≡ Ok c → classes_stand c ≡ true
classes-read text c h =
    let made = made_of text c h in
    let ms = made.document in
    let names = names_in ms in
    let all : Passed _ = record { before = []; after = made.met; clean = made.clean } in
    let behind = passed_parts (in_optional (in_names is_name 0 256 opening_found) (field_path [] Table) (value_at Table ms)) _ all in
    let later = passed_parts (in_optional (in_names is_name 0 64 resource_found) (field_path [] ResourceField) (value_at ResourceField ms)) _ behind.1 in
    let apps = passed_parts (apps_found names ms) _ later.1 in
    let stand : classes_stand (catalogue_in ms) ≡ true =
    passed_names (app_from names) stand_in is_app_name 1 64 (app_found names) (field_path [] Application) (members_at Application ms)
    (λ app path inside is_it passed.
    let a : App = app_from names app inside in
    let ids = passed_parts (id_found (field_path path Id) (value_at Id inside)) _ passed in
    let classes = passed_parts (in_optional (in_names is_name 0 64 (exception_found names)) (field_path path ExceptionField) (value_at ExceptionField inside)) _ ids.1 in
    let components = passed_parts (in_table (in_names is_name 1 64 (component_found names (exceptions_in names inside) path)) (field_path path ComponentField) (members_at ComponentField inside)) _ classes.1 in
    passed_names (component_from names) (stands_in a) is_name 1 64 (component_found names (exceptions_in names inside) path) (field_path path ComponentField) (members_at ComponentField inside)
    (λ key at parts is_key met.
    let id = passed_parts (id_found (field_path at Class) (value_at Class parts)) _ met in
    let class = passed_parts (names_class (exceptions_in names inside) (field_path at ExceptionField) (value_at ExceptionField parts)) _ id.1 in
    let methods = passed_parts (methods_found names 1 at parts) _ class.1 in
    let taken = passed_parts (taken_by_class (field_path path ExceptionField) (methods_in names parts) (class_of (exceptions_in names inside) parts)) _ methods.1 in
    class-taken (field_path path ExceptionField) (methods_in names parts) (class_of (exceptions_in names inside) parts) taken.0) components.0) apps.0 in
    subst (λ (x : Catalogue). classes_stand x ≡ true) made.says stand

reads-classes : (text : List ℕ) (c : Catalogue) → by_text text ≡ Some c → classes_stand c ≡ true
unfolding by_text
reads-classes text c is = by_read (catalogue_of text) refl is
  where
    by_read : (r : Result Catalogue CatalogueError) → catalogue_of text ≡ r → if_ok r ≡ Some c → classes_stand c ≡ true
    by_read (Ok d) e is = let same : d ≡ c = cc in classes-read text c (e ∙ ap (λ (x : Catalogue). Ok x) same)
    by_read (Err error) e is = cc

-- a call that fits a component has its method there, and in a class that takes the component's methods

fits-known : (methods : List Method) (call : Call) → call_fits methods call ≡ true → has_method methods call ≡ true
fits-known methods call e = by (method_of call.method methods) e
  where
    by : (o : Option Method) → option_map_or (λ (m : Method). args_fit m.params call.args) o false ≡ true → is_some o ≡ true
    by None e = absurd (true≢false (sym e))
    by (Some m) e = refl

fits-taken : (methods class : List Method) (call : Call) → list_all (takes class) methods ≡ true → call_fits methods call ≡ true → has_method class call ≡ true
fits-taken methods class call all e = by (method_of call.method methods) refl e
  where
    there : (m : Method) (o : Option Method) → unwrap_or (option_map (λ (x : Method). same_kinds x.params m.params) o) false ≡ true → is_some o ≡ true
    there m None t = absurd (true≢false (sym t))
    there m (Some x) t = refl

    by : (o : Option Method) → method_of call.method methods ≡ o → option_map_or (λ (m : Method). args_fit m.params call.args) o false ≡ true → is_some (method_of call.method class) ≡ true
    by None f e = absurd (true≢false (sym e))
    by (Some m) f e =
        let taken : takes class m ≡ true = found-passes (takes class) (λ (x : Method). bytes_eq x.name call.method) methods m all f in
        subst (λ (name : List ℕ). is_some (method_of name class) ≡ true) (found_name (λ (x : Method). x.name) call.method methods m f) (there m (method_of m.name class) taken)

all-calls : (p q : Call → Bool) → ((call : Call) → p call ≡ true → q call ≡ true) → (calls : List Call) → list_all p calls ≡ true → list_all q calls ≡ true
all-calls p q on [] e = refl
all-calls p q on (call ∷ calls) e = let parts = and_parts (p call) _ e in and_from (q call) _ (on call parts.0) (all-calls p q on calls parts.1)

-- the calls that fit a component can be played by its exception class, where it names one

final-of : (a : App) (k : Component) (calls : List Call) → is_component_of a k ≡ true → stands_in a k ≡ true → is_some k.exception ≡ true → list_all (call_fits k.methods) calls ≡ true
    → option_map_or (λ methods. list_all (has_method methods) calls) (option_map (λ (x : Exception). x.methods) (exception_by a k)) false ≡ true
final-of a k calls is stood some fits = by k.exception (and_parts (list_all _ k.methods) _ (and_parts (is_name k.name) _ is).1).1 stood some
  where
    inner : (o : Option Exception) → is_some o ≡ true → option_map_or (λ (x : Exception). list_all (takes x.methods) k.methods) o true ≡ true
        → option_map_or (λ methods. list_all (has_method methods) calls) (option_map (λ (x : Exception). x.methods) o) false ≡ true
    inner None there stood = absurd (true≢false (sym there))
    inner (Some x) there stood = all-calls (call_fits k.methods) (has_method x.methods) (λ call e. fits-taken k.methods x.methods call stood e) calls fits

    by : (o : Option (List ℕ)) → option_map_or (λ name. is_some (exception_named name a.exceptions)) o true ≡ true
        → option_map_or (λ (x : Exception). list_all (takes x.methods) k.methods) (option_and_then (λ name. exception_named name a.exceptions) o) true ≡ true → is_some o ≡ true
        → option_map_or (λ methods. list_all (has_method methods) calls) (option_map (λ (x : Exception). x.methods) (option_and_then (λ name. exception_named name a.exceptions) o)) false ≡ true
    by None there stood some = absurd (true≢false (sym some))
    by (Some name) there stood some = inner (exception_named name a.exceptions) there stood

abbrev names_in_app : List ℕ → App → Bool
names_in_app component a = is_some (option_and_then (λ (k : Component). k.exception) (component_named component a.components))

abbrev plays_in_app : List Call → Kind → App → Option Component → Bool
plays_in_app calls kind a k = option_map_or (λ methods. list_all (has_method methods) calls) (methods_by a kind k) false

pub playable : (c : Catalogue) (r : Recording) (kind : Kind) → is_orderly c ≡ true → classes_stand c ≡ true → recording_fits c r ≡ true → (kind ≡ Final → names_exception c r ≡ true) → is_playable c r kind ≡ true
playable c r kind orderly stood fits named = by (app_named r.app c.apps) refl fits named
  where
    of_kind : (a : App) (k : Component) (kind : Kind) → is_component_of a k ≡ true → stands_in a k ≡ true → list_all (call_fits k.methods) r.calls ≡ true → (kind ≡ Final → is_some k.exception ≡ true) → plays_in_app r.calls kind a (Some k) ≡ true
    of_kind a k Normal is stood fits named = all-calls (call_fits k.methods) (has_method k.methods) (fits-known k.methods) r.calls fits
    of_kind a k Final is stood fits named = final-of a k r.calls is stood (named refl) fits

    inside : (a : App) → is_app a ≡ true → stand_in a ≡ true → (o : Option Component) → component_named r.component a.components ≡ o → fits_component r.calls (ok_or o UnknownComponent) ≡ true
        → (kind ≡ Final → is_some (option_and_then (λ (k : Component). k.exception) o) ≡ true) → plays_in_app r.calls kind a o ≡ true
    inside a is stood None f fits named = absurd (true≢false (sym fits))
    inside a is stood (Some k) f fits named =
        let component : is_component_of a k ≡ true = found-passes (is_component_of a) _ a.components k (and_parts (is_app_name a.name) _ is).1 f in
        of_kind a k kind component (found-passes (stands_in a) _ a.components k stood f) fits named

    by : (o : Option App) → app_named r.app c.apps ≡ o → fits_component r.calls (component_of_app r.component o) ≡ true → (kind ≡ Final → is_some (option_and_then (λ (a : App). option_and_then (λ (k : Component). k.exception) (component_named r.component a.components)) o) ≡ true)
        → option_map_or (λ methods. list_all (has_method methods) r.calls) (option_and_then (λ (a : App). methods_by a kind (component_named r.component a.components)) o) false ≡ true
    by None f fits named = absurd (true≢false (sym fits))
    by (Some a) f fits named =
        inside a (found-passes is_app _ c.apps a (orderly-apps c orderly) f) (found-passes stand_in _ c.apps a stood f) (component_named r.component a.components) refl fits named

-- a final attempt is one on a message whose component names an exception class

final-named : (final : Bool) (p : Place) → is_place final p ≡ true → kind_at p ≡ Final → final ≡ true
final-named final Dead is e = cc
final-named final (Consumed attempt) is e = cc
final-named final (Queue q tries due) is e = by (tries == 3) refl e
  where
    by : (b : Bool) → (tries == 3) ≡ b → cond b Final Normal ≡ Final → final ≡ true
    by true t e = ((queued final q tries due is).last (eqb-true tries 3 t)).1
    by false t e = cc

pub message-playable : (facts : List Fact) (id : ℕ) (m : Message) → is_legal by_text facts ≡ true → message_of id (history_of by_text facts).messages ≡ Some m → is_playable (history_of by_text facts).catalogue m.recording (kind_at m.place) ≡ true
message-playable facts id m legal found =
    let is = (message-kept (history_of by_text facts) id m (legal-orderly by_text facts legal) found).0 in
    playable (history_of by_text facts).catalogue m.recording (kind_at m.place) (orderly-history by_text facts reads-orderly) (holds-in-force by_text classes_stand refl reads-classes facts) is.fits
    (λ e. sym is.final ∙ final-named m.final_class m.place is.place e)
