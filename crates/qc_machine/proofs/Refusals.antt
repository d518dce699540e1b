-- An order that is refused by a rule of its own isn't refused as a line.
use Rattle.std.proofs.Common.{◌≡◌, ◌∙◌, ℕ, ◌+◌, leb, ltb, List, [], ◌∷◌, ◌++◌, Bool, true, false, not, cond, length, refl, sym, ap, Option, Some, None, option_map, Ok, Err}
use Rattle.std.specs.declared.result.Result.{Result}
use Rattle.std.specs.Option.{ok_or}
use Rattle.qc_base.specs.declared.recording.Call.{Call}
use Rattle.qc_base.specs.declared.recording.Recording.{Recording}
use Rattle.qc_base.specs.Spelling.{is_between, spelled_recording}
use Rattle.qc_protocol.specs.declared.order.RawArg.{RawArg}
use Rattle.qc_protocol.specs.declared.order.RawCall.{RawCall}
use Rattle.qc_protocol.specs.declared.reply.Refusal.{Refusal}
use Rattle.qc_protocol.specs.declared.reply.Refusal.TheVariants.{NoSuchSlot, SlotBusy, SlotIdle, UnknownApp, UnknownComponent, UnknownMethod, BadArguments, TooManyCalls, TooLong, UnknownQueue, BadBatch}
use Rattle.qc_protocol.specs.declared.reply.Side.TheVariants.{From, To}
use Rattle.qc_catalogue.specs.Lookup.{app_named, component_named, method_of}
use Rattle.qc_catalogue.specs.declared.catalogue.App.{App}
use Rattle.qc_catalogue.specs.declared.catalogue.Catalogue.{Catalogue}
use Rattle.qc_catalogue.specs.declared.catalogue.Method.{Method}
use Rattle.qc_script.specs.declared.names.Param.{Param}
use Rattle.qc_recorder.specs.Fits.{and_then, component_of_app, component_in, argument, arguments, call_by, call_taken}
use Rattle.qc_recorder.specs.Recording.{no_calls, begun, with_call, if_few, add_call, add_calls, methods_for, called, recorded}
use Rattle.qc_machine.specs.Moving.{Route, queue_named, queue_number, route, route_from}
use Rattle.qc_machine.specs.Recorded.{if_refused}
use Rattle.qc_machine.specs.Refuse.{refuse_if, first_some, is_of_line}
use Rattle.qc_machine.specs.Slots.{out_of_slots, client_busy, idle}
use Rattle.qc_machine.specs.State.{in_slot}

-- the first of some refusals and more

pub first-is : (os more : List (Option Refusal)) (r : Refusal) → first_some os ≡ Some r → first_some (os ++ more) ≡ Some r
first-is [] more r e = cc
first-is (Some x ∷ os) more r e = e
first-is (None ∷ os) more r e = first-is os more r e

pub first-none : (os more : List (Option Refusal)) → first_some os ≡ None → first_some (os ++ more) ≡ first_some more
first-none [] more e = refl
first-none (Some x ∷ os) more e = cc
first-none (None ∷ os) more e = first-none os more e

-- where the first of some is none, each is

pub none-first : (o : Option Refusal) (os : List (Option Refusal)) → first_some (o ∷ os) ≡ None → (o ≡ None) × (first_some os ≡ None)
none-first (Some x) os e = cc
none-first None os e = (refl, e)

pub not-refused : (b : Bool) (r : Refusal) → refuse_if b r ≡ None → b ≡ false
not-refused true r e = cc
not-refused false r e = refl

-- refusals of orders

abbrev pub IsOrders : Option Refusal → Type 0
IsOrders o = (r : Refusal) → o ≡ Some r → is_of_line r ≡ false

pub refuse-order : (b : Bool) (refusal : Refusal) → is_of_line refusal ≡ false → IsOrders (refuse_if b refusal)
refuse-order true refusal is r e = let same : refusal ≡ r = cc in ap is_of_line (sym same) ∙ is
refuse-order false refusal is r e = cc

pub first-order : (o : Option Refusal) (os : List (Option Refusal)) → IsOrders o → IsOrders (first_some os) → IsOrders (first_some (o ∷ os))
first-order (Some x) os one rest r e = one r e
first-order None os one rest r e = rest r e

pub none-order : IsOrders (first_some [])
none-order r e = cc

pub slot-order : (n : ℕ) → IsOrders (out_of_slots n)
slot-order n = refuse-order _ (NoSuchSlot n) refl

pub busy-order : (clients : List (Option Recording)) (n : ℕ) → IsOrders (client_busy clients n)
busy-order clients n = by (in_slot n clients)
  where
    by : (o : Option Recording) → IsOrders (option_map (λ (r : Recording). SlotBusy (length r.calls)) o)
    by None r e = cc
    by (Some held) r e = let same : SlotBusy (length held.calls) ≡ r = cc in ap is_of_line (sym same)

pub idle-order : {A : Type 0} (slots : List (Option A)) (n : ℕ) → IsOrders (idle slots n)
idle-order slots n = refuse-order _ SlotIdle refl

-- refusals of what is recorded

abbrev RefusesOrders : {A : Type 0} → Result A Refusal → Type 0
RefusesOrders answer = (r : Refusal) → answer ≡ Err r → is_of_line r ≡ false

given : {A : Type 0} (x : A) → RefusesOrders (Ok x)
given x r e = cc

refused : {A : Type 0} (refusal : Refusal) → is_of_line refusal ≡ false → RefusesOrders {A = A} (Err refusal)
refused refusal is r e = let same : refusal ≡ r = cc in ap is_of_line (sym same) ∙ is

then-order : {A B : Type 0} (x : Result A Refusal) (go : A → Result B Refusal) → RefusesOrders x → ((a : A) → RefusesOrders (go a)) → RefusesOrders (and_then x go)
then-order (Ok a) go first next r e = next a r e
then-order (Err refusal) go first next r e = first r (let same : refusal ≡ r = cc in ap (λ (x : Refusal). Err x) same)

or-order : {A : Type 0} (o : Option A) (refusal : Refusal) → is_of_line refusal ≡ false → RefusesOrders (ok_or o refusal)
or-order (Some a) refusal is = given a
or-order None refusal is = refused refusal is

component-order : (c : Catalogue) (app component : List ℕ) → RefusesOrders (component_in c app component)
component-order c app component = by (app_named app c.apps)
  where
    by : (o : Option App) → RefusesOrders (component_of_app component o)
    by None = refused UnknownApp refl
    by (Some a) = or-order (component_named component a.components) UnknownComponent refl

arguments-order : (number place : ℕ) (params : List Param) (args : List RawArg) → RefusesOrders (arguments number place params args)
arguments-order number place [] [] = given []
arguments-order number place [] (a ∷ args) = refused (BadArguments number place) refl
arguments-order number place (p ∷ params) [] = refused (BadArguments number place) refl
arguments-order number place (p ∷ params) (a ∷ args) =
    then-order (ok_or (argument p.kind a) (BadArguments number place)) _ (or-order (argument p.kind a) (BadArguments number place) refl)
    (λ arg. then-order (arguments number (place + 1) params args) (λ more. Ok (arg ∷ more)) (arguments-order number (place + 1) params args) (λ more. given (arg ∷ more)))

call-order : (number : ℕ) (args : List RawArg) (o : Option Method) → RefusesOrders (call_by number args o)
call-order number args None = refused (UnknownMethod number) refl
call-order number args (Some m) = by (leb (length m.params) 16)
  where
    by : (b : Bool) → RefusesOrders {A = Call} (cond b (and_then (arguments number 1 m.params args) (λ taken. Ok (record { method = m.name; args = taken }))) (Err (BadArguments number 17)))
    by true = then-order (arguments number 1 m.params args) (λ taken. Ok (record { method = m.name; args = taken })) (arguments-order number 1 m.params args) (λ taken. given {A = Call} (record { method = m.name; args = taken }))
    by false = refused (BadArguments number 17) refl

few-order : (r : Recording) (call : Call) → RefusesOrders (if_few r call)
few-order r call = by (ltb (length r.calls) 64) (leb (length (spelled_recording (with_call r call))) 16384)
  where
    by : (few short : Bool) → RefusesOrders (cond few (cond short (Ok (with_call r call)) (Err (TooLong (length (spelled_recording (with_call r call)))))) (Err TooManyCalls))
    by false short = refused TooManyCalls refl
    by true true = given (with_call r call)
    by true false = refused (TooLong (length (spelled_recording (with_call r call)))) refl

add-order : (methods : List Method) (r : Recording) (call : RawCall) → RefusesOrders (add_call methods r call)
add-order methods r call = then-order (call_taken methods (length r.calls + 1) call) (if_few r) (call-order (length r.calls + 1) call.args (method_of call.method methods)) (few-order r)

adds-order : (methods : List Method) (calls : List RawCall) (r : Recording) → RefusesOrders (add_calls methods calls r)
adds-order methods [] r = given r
adds-order methods (call ∷ calls) r = then-order (add_call methods r call) (add_calls methods calls) (add-order methods r call) (adds-order methods calls)

if-order : (answer : Result Recording Refusal) → RefusesOrders answer → IsOrders (if_refused answer)
if-order (Ok r) is x e = cc
if-order (Err refusal) is x e = is x (let same : refusal ≡ x = cc in ap (λ (y : Refusal). Err y) same)

begun-refuses : (c : Catalogue) (app component : List ℕ) → RefusesOrders (begun c app component)
begun-refuses c app component = then-order (component_in c app component) _ (component-order c app component) (λ k. given (no_calls app component))

pub begun-order : (c : Catalogue) (app component : List ℕ) → IsOrders (if_refused (begun c app component))
begun-order c app component = if-order (begun c app component) (begun-refuses c app component)

pub called-order : (c : Catalogue) (r : Recording) (call : RawCall) → IsOrders (if_refused (called c r call))
called-order c r call = if-order (called c r call) (add-order (methods_for c r) r call)

pub recorded-order : (c : Catalogue) (app component : List ℕ) (calls : List RawCall) → IsOrders (if_refused (recorded c app component calls))
recorded-order c app component calls =
    if-order (recorded c app component calls) (then-order (begun c app component) (λ r. add_calls (methods_for c r) calls r) (begun-refuses c app component) (λ r. adds-order (methods_for c r) calls r))

-- refusals of moves

pub route-order : (c : Catalogue) (from to : List ℕ) → IsOrders (if_refused (route c from to))
route-order c from to = by_route (route c from to) (then-order (ok_or (queue_named from c.apps) (UnknownQueue From)) (route_from to) (or-order (queue_named from c.apps) (UnknownQueue From) refl) (λ source. or-order (option_map (λ q. record { source = source; to = q }) (queue_number source.app to)) (UnknownQueue To) refl))
  where
    by_route : (answer : Result Route Refusal) → RefusesOrders answer → IsOrders (if_refused answer)
    by_route (Ok r) is x e = cc
    by_route (Err refusal) is x e = is x (let same : refusal ≡ x = cc in ap (λ (y : Refusal). Err y) same)

pub batch-order : (batch : ℕ) → IsOrders (refuse_if (not (is_between 1 1000 batch)) BadBatch)
batch-order batch = refuse-order _ BadBatch refl
