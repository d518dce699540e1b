-- The steps of orders on recorders and of listings, by what a hub has.
use Rattle.std.proofs.Common.{◌≡◌, ◌∙◌, ◌≤◌, ℕ, max, Bool, cond, find, List, [], ◌∷◌, length, true, false, is_none, map, refl, sym, ap, subst, inr, Option, Some, None, option_map, option_and_then, Ok, Err}
use Rattle.std.proofs.lemmas.Slice.Eq.{bytes_eq-Decides}
use Rattle.std.specs.declared.result.Result.{Result}
use Rattle.std.specs.Option.{option_map_or}
use Rattle.std.specs.Str.{bytes_eq}
use Rattle.qc_base.specs.declared.message.Message.{Message}
use Rattle.qc_base.specs.declared.queue.Waiting.{Waiting}
use Rattle.qc_base.specs.declared.recording.Recording.{Recording}
use Rattle.qc_base.specs.Messages.{waiting_queues, dead_ids, consumed_ids}
use Rattle.qc_base.specs.Rows.{OutsideRows}
use Rattle.qc_protocol.specs.declared.order.Act.TheVariants.{OpenSlot, CallSlot, CancelSlot, Queues, Table, Outside}
use Rattle.qc_protocol.specs.declared.order.Order.{Order}
use Rattle.qc_protocol.specs.declared.order.RawCall.{RawCall}
use Rattle.qc_protocol.specs.declared.reply.Refusal.{Refusal}
use Rattle.qc_protocol.specs.declared.reply.Refusal.TheVariants.{UnknownApp, UnknownTable}
use Rattle.qc_protocol.specs.declared.reply.ShownRow.{ShownRow}
use Rattle.qc_protocol.specs.declared.reply.Reply.TheVariants.{Opened, Recorded, SentNothing, Cancelled, Refused, Queues as ShowQueues, Table as ShowTable, Outside as ShowOutside}
use Rattle.qc_catalogue.specs.Lookup.{app_named, resource_named, table_named}
use Rattle.qc_catalogue.specs.Orderly.{is_orderly}
use Rattle.qc_catalogue.specs.declared.catalogue.App.{App}
use Rattle.qc_catalogue.specs.declared.catalogue.Opening.{Opening}
use Rattle.qc_catalogue.specs.declared.catalogue.Resource.{Resource}
use Rattle.qc_recorder.specs.Fits.{recording_fits}
use Rattle.qc_recorder.specs.Recording.{begun, called, recorded}
use Rattle.qc_recorder.proofs.Held.{recorded-held}
use Rattle.qc_machine.specs.History.{History, by_text}
use Rattle.qc_machine.specs.Laws.{IsSettled}
use Rattle.qc_rows.specs.Tables.{TableRows, rows_shown, total_in}
use Rattle.qc_machine.specs.Listing.{queues_shown, shown_row, table_shown, held_row, held_shown, shown_total}
use Rattle.qc_machine.specs.Recorded.{if_refused}
use Rattle.qc_machine.specs.Recording.{open_step, call_step, cancel_step}
use Rattle.qc_machine.specs.Refuse.{refuse_if, first_some, is_of_line}
use Rattle.qc_machine.specs.Sending.{added, fact_sent}
use Rattle.qc_machine.specs.Slots.{out_of_slots, client_busy, idle}
use Rattle.qc_machine.specs.State.{State, at_moment, in_slot, set_slot}
use Rattle.qc_machine.specs.Step.{step}
use Rattle.qc_machine.specs.Steps.{stays}
use Rattle.qc_machine.proofs.Histories.{orderly-history}
use Rattle.qc_machine.proofs.Recorders.{reads-orderly}
use Rattle.qc_machine.proofs.Refusals.{first-is, first-none, first-order, none-order, slot-order, busy-order, idle-order, begun-order, called-order}
use Rattle.qc_machine.proofs.Settled.{Sends, moment-settled, order-settled, with-slot}
use Rattle.qc_machine.proofs.Steps.{step-refused-by, step-taken, refusal-open, refusal-call, refusal-cancel, refusal-queues, refusal-table, refusal-outside}
use Rattle.qc_hub.specs.declared.hub.Hub.{Hub}
use Rattle.qc_hub.specs.Calls.{opening, calling, committing, cancelling, sending, listing, showing, outside_of}
use Rattle.qc_hub.specs.Rooms.{unsent}
use Rattle.qc_hub.specs.Stands.{IsHubOf}
use Rattle.qc_hub.proofs.Later.{later_state, soon-enough}
use Rattle.qc_hub.proofs.Sent.{called-some, called-none, commit-refused, commit-nothing, commit-unsent, commit-some, send-refused, send-nothing, send-unsent, send-some}

-- the catalogue of a hub's state is orderly
pub hub-orderly : (hub : Hub) (s : State) → IsHubOf hub s → is_orderly s.history.catalogue ≡ true
hub-orderly hub s h = subst (λ (x : History). is_orderly x.catalogue ≡ true) (sym h.settled.history) (orderly-history by_text s.history.facts reads-orderly)

-- what an order makes of a hub's state is settled
pub order-kept : (hub : Hub) (order : Order) → max order.at hub.last ≤ 1000000000000 → (Sends order.act → ⊥) → (s : State) → IsHubOf hub s → IsSettled by_text (step s order).state
order-kept hub order le none s h =
    order-settled by_text s (step s order).state order reads-orderly (soon-enough order.at hub.last le) (λ sends. absurd (none sends)) h.settled (inr (inr refl))

module _ (hub : Hub) (s : State) (h : IsHubOf hub s) (at n : ℕ) where
  abbrev then : State
  then = at_moment at s

  -- a state with another content of the slot, by the hub's recorders
  same-slot : (o : Option Recording) → later_state at (set_slot n o s.clients) s ≡ later_state at (set_slot n o hub.clients) s
  same-slot o = ap (λ (c : List (Option Recording)). later_state at (set_slot n o c) s) (sym h.clients)

  -- a recorder is opened

  module _ (app component : List ℕ) where
    abbrev busy : List (Option Recording) → List (Option Refusal)
    busy clients = out_of_slots n ∷ client_busy clients n ∷ []

    abbrev rest : List (Option Refusal)
    rest = if_refused (begun s.history.catalogue app component) ∷ []

    pub open-busy : (r : Refusal) → first_some (busy hub.clients) ≡ Some r → step s (opening at n app component) ≡ stays then (Refused r)
    open-busy r is =
        let here = subst (λ (c : List (Option Recording)). first_some (busy c) ≡ Some r) h.clients is in
        step-refused-by s at (OpenSlot n app component) r (refusal-open then n app component ∙ first-is (busy s.clients) rest r here)
        (first-order (out_of_slots n) (client_busy s.clients n ∷ []) (slot-order n) (first-order (client_busy s.clients n) [] (busy-order s.clients n) none-order) r here)

    open-past : first_some (busy hub.clients) ≡ None → (answer : Result Recording Refusal) → begun hub.history.catalogue app component ≡ answer → begun s.history.catalogue app component ≡ answer
    open-past free answer is = ap (λ c. begun c app component) (sym h.history.catalogue) ∙ is

    pub open-refused : (r : Refusal) → first_some (busy hub.clients) ≡ None → begun hub.history.catalogue app component ≡ Err r → step s (opening at n app component) ≡ stays then (Refused r)
    open-refused r free is =
        let here = subst (λ (c : List (Option Recording)). first_some (busy c) ≡ None) h.clients free in
        let answer = open-past free (Err r) is in
        step-refused-by s at (OpenSlot n app component) r (refusal-open then n app component ∙ first-none (busy s.clients) rest here ∙ ap (λ (a : Result Recording Refusal). first_some (if_refused a ∷ [])) answer)
        (begun-order s.history.catalogue app component r (ap (λ (a : Result Recording Refusal). if_refused a) answer))

    pub open-begun : (r : Recording) → first_some (busy hub.clients) ≡ None → begun hub.history.catalogue app component ≡ Ok r → step s (opening at n app component) ≡ stays (later_state at (set_slot n (Some r) hub.clients) s) Opened
    open-begun r free is =
        let here = subst (λ (c : List (Option Recording)). first_some (busy c) ≡ None) h.clients free in
        let answer = open-past free (Ok r) is in
        step-taken s at (OpenSlot n app component) (refusal-open then n app component ∙ first-none (busy s.clients) rest here ∙ ap (λ (a : Result Recording Refusal). first_some (if_refused a ∷ [])) answer)
        ∙ ap (open_step then n) answer ∙ ap (λ (t : State). stays t Opened) (same-slot (Some r))

  -- a slot that holds a recorder, or is refused

  abbrev vacant : List (Option Recording) → List (Option Refusal)
  vacant clients = out_of_slots n ∷ idle clients n ∷ []

  idle-here : (o : Option Refusal) → first_some (vacant hub.clients) ≡ o → first_some (vacant s.clients) ≡ o
  idle-here o is = subst (λ (c : List (Option Recording)). first_some (vacant c) ≡ o) h.clients is

  pub idle-refuses : (r : Refusal) → first_some (vacant hub.clients) ≡ Some r → is_of_line r ≡ false
  idle-refuses r is =
      first-order (out_of_slots n) (idle s.clients n ∷ []) (slot-order n) (first-order (idle s.clients n) [] (idle-order s.clients n) none-order) r (idle-here (Some r) is)

  slot-here : (o : Option Recording) → in_slot n hub.clients ≡ o → in_slot n s.clients ≡ o
  slot-here o is = ap (in_slot n) (sym h.clients) ∙ is

  -- one call more

  module _ (call : RawCall) where
    abbrev last : Option Recording → List (Option Refusal)
    last held = option_and_then (λ (a : Result Recording Refusal). if_refused a) (option_map (λ (r : Recording). called s.history.catalogue r call) held) ∷ []

    pub call-idle : (r : Refusal) → first_some (vacant hub.clients) ≡ Some r → step s (calling at n call) ≡ stays then (Refused r)
    call-idle r is =
        step-refused-by s at (CallSlot n call) r (refusal-call then n call ∙ first-is (vacant s.clients) (last (in_slot n s.clients)) r (idle-here (Some r) is)) (idle-refuses r is)

    called-here : (held : Recording) (answer : Result Recording Refusal) → called hub.history.catalogue held call ≡ answer → called s.history.catalogue held call ≡ answer
    called-here held answer is = ap (λ c. called c held call) (sym h.history.catalogue) ∙ is

    past : (held : Recording) (answer : Result Recording Refusal) → first_some (vacant hub.clients) ≡ None → in_slot n hub.clients ≡ Some held → called hub.history.catalogue held call ≡ answer
        → first_some (out_of_slots n ∷ idle s.clients n ∷ last (in_slot n s.clients)) ≡ first_some (if_refused answer ∷ [])
    past held answer free is e =
        first-none (vacant s.clients) (last (in_slot n s.clients)) (idle-here None free)
        ∙ ap (λ (o : Option Recording). first_some (last o)) (slot-here (Some held) is)
        ∙ ap (λ (a : Result Recording Refusal). first_some (if_refused a ∷ [])) (called-here held answer e)

    pub call-refused : (held : Recording) (r : Refusal) → first_some (vacant hub.clients) ≡ None → in_slot n hub.clients ≡ Some held → called hub.history.catalogue held call ≡ Err r → step s (calling at n call) ≡ stays then (Refused r)
    call-refused held r free is e =
        step-refused-by s at (CallSlot n call) r (refusal-call then n call ∙ past held (Err r) free is e) (called-order s.history.catalogue held call r (ap (λ (a : Result Recording Refusal). if_refused a) (called-here held (Err r) e)))

    pub call-recorded : (held more : Recording) → first_some (vacant hub.clients) ≡ None → in_slot n hub.clients ≡ Some held → called hub.history.catalogue held call ≡ Ok more
        → step s (calling at n call) ≡ stays (later_state at (set_slot n (Some more) hub.clients) s) (Recorded (length more.calls))
    call-recorded held more free is e =
        step-taken s at (CallSlot n call) (refusal-call then n call ∙ past held (Ok more) free is e)
        ∙ ap (λ (o : Option Recording). call_step then n (option_map (λ (r : Recording). called s.history.catalogue r call) o)) (slot-here (Some held) is)
        ∙ ap (λ (a : Result Recording Refusal). call_step then n (Some a)) (called-here held (Ok more) e)
        ∙ ap (λ (t : State). stays t (Recorded (length more.calls))) (same-slot (Some more))

  -- a recorder is dropped

  pub cancel-idle : (r : Refusal) → first_some (vacant hub.clients) ≡ Some r → step s (cancelling at n) ≡ stays then (Refused r)
  cancel-idle r is = step-refused-by s at (CancelSlot n) r (refusal-cancel then n ∙ idle-here (Some r) is) (idle-refuses r is)

  pub cancel-dropped : (held : Recording) → first_some (vacant hub.clients) ≡ None → in_slot n hub.clients ≡ Some held
      → step s (cancelling at n) ≡ stays (later_state at (set_slot n None hub.clients) s) (Cancelled (length held.calls))
  cancel-dropped held free is =
      step-taken s at (CancelSlot n) (refusal-cancel then n ∙ idle-here None free) ∙ ap (cancel_step then n) (slot-here (Some held) is) ∙ ap (λ (t : State). stays t (Cancelled (length held.calls))) (same-slot None)

-- what is sent

module _ (hub : Hub) (s : State) (h : IsHubOf hub s) (at n : ℕ) (held : Recording) (free : first_some (vacant hub s h at n hub.clients) ≡ None) (there : in_slot n hub.clients ≡ Some held) where
  abbrev gone : List (Option Recording)
  gone = set_slot n None hub.clients

  abbrev left : State
  left = later_state at gone s

  here : in_slot n s.clients ≡ Some held
  here = slot-here hub s h at n (Some held) there

  pub held-fits : recording_fits hub.history.catalogue held ≡ true
  held-fits = subst (λ c. recording_fits c held ≡ true) (sym h.history.catalogue) (h.settled.recorded n held here).fits

  pub commit-empty : length held.calls ≡ 0 → step s (committing at n) ≡ stays left SentNothing
  commit-empty none = commit-nothing s at n held here (idle-here hub s h at n None free) (called-none held none) ∙ ap (λ (t : State). stays t SentNothing) (same-slot hub s h at n None)

  pub commit-not : (why : Refusal) → 1 ≤ length held.calls → unsent (at_moment at s) held ≡ Some why → step s (committing at n) ≡ stays (at_moment at s) (Refused why)
  commit-not why some refused = commit-unsent s at n held why here (idle-here hub s h at n None free) (called-some held some) refused

  pub commit-sent : 1 ≤ length held.calls → unsent (at_moment at s) held ≡ None → step s (committing at n) ≡ added (fact_sent left held) left
  commit-sent some fits =
      commit-some s at n held here (idle-here hub s h at n None free) (called-some held some) fits
      ∙ ap (λ (t : State). added (fact_sent t held) t) (same-slot hub s h at n None)

module _ (hub : Hub) (s : State) (h : IsHubOf hub s) (at n : ℕ) where
  -- a state without what the client's recorder held
  pub gone-settled : max at hub.last ≤ 1000000000000 → IsSettled by_text (later_state at (set_slot n None hub.clients) s)
  gone-settled le =
      subst (IsSettled by_text) (same-slot hub s h at n None)
      (with-slot by_text (at_moment at s) n None (moment-settled by_text at s (soon-enough at hub.last le) h.settled) (λ r e. absurd cc))

  pub commit-idle : (r : Refusal) → first_some (vacant hub s h at n hub.clients) ≡ Some r → step s (committing at n) ≡ stays (at_moment at s) (Refused r)
  commit-idle r is = commit-refused s at n r (idle-here hub s h at n (Some r) is) (idle-refuses hub s h at n r is)

module _ (hub : Hub) (s : State) (h : IsHubOf hub s) (at : ℕ) (app component : List ℕ) (calls : List RawCall) where
  answer-here : (answer : Result Recording Refusal) → recorded hub.history.catalogue app component calls ≡ answer → recorded s.history.catalogue app component calls ≡ answer
  answer-here answer is = ap (λ c. recorded c app component calls) (sym h.history.catalogue) ∙ is

  pub sending-refused : (r : Refusal) → recorded hub.history.catalogue app component calls ≡ Err r → step s (sending at app component calls) ≡ stays (at_moment at s) (Refused r)
  sending-refused r is = send-refused s at app component calls r (answer-here (Err r) is)

  pub sending-empty : (r : Recording) → recorded hub.history.catalogue app component calls ≡ Ok r → length r.calls ≡ 0 → step s (sending at app component calls) ≡ stays (at_moment at s) SentNothing
  sending-empty r is none = send-nothing s at app component calls r (answer-here (Ok r) is) (called-none r none)

  pub sending-not : (r : Recording) (why : Refusal) → recorded hub.history.catalogue app component calls ≡ Ok r → 1 ≤ length r.calls → unsent (at_moment at s) r ≡ Some why → step s (sending at app component calls) ≡ stays (at_moment at s) (Refused why)
  sending-not r why is some refused = send-unsent s at app component calls r why (answer-here (Ok r) is) (called-some r some) refused

  pub sending-sent : (r : Recording) → recorded hub.history.catalogue app component calls ≡ Ok r → 1 ≤ length r.calls → unsent (at_moment at s) r ≡ None → step s (sending at app component calls) ≡ added (fact_sent (at_moment at s) r) (at_moment at s)
  sending-sent r is some fits = send-some s at app component calls r (answer-here (Ok r) is) (called-some r some) fits

  pub sending-fits : (r : Recording) → recorded hub.history.catalogue app component calls ≡ Ok r → recording_fits hub.history.catalogue r ≡ true
  sending-fits r is = subst (λ c. recording_fits c r ≡ true) (sym h.history.catalogue) (recorded-held s.history.catalogue app component calls r (hub-orderly hub s h) (answer-here (Ok r) is)).fits

-- a listing

found-is : {A : Type 0} (q : A → Bool) (xs : List A) (x : A) → find q xs ≡ Some x → q x ≡ true
found-is q [] x e = cc
found-is {A = A} q (y ∷ ys) x e = by (q y) refl (found-is q ys x) e
  where
    by : (b : Bool) → q y ≡ b → (find q ys ≡ Some x → q x ≡ true) → cond b (Some y) (find q ys) ≡ Some x → q x ≡ true
    by true t on e = let same : y ≡ x = cc in ap q (sym same) ∙ t
    by false t on e = on e

-- an application is found by its name
pub found-name : (apps : List App) (app : List ℕ) (a : App) → app_named app apps ≡ Some a → a.name ≡ app
found-name apps app a e = (bytes_eq-Decides a.name app).0 (found-is (λ (x : App). bytes_eq x.name app) apps a e)

-- what is listed under the application's own name
pub shown-is : (messages now : List Message) (app name : List ℕ) (queues : List (List Waiting)) (dead : List ℕ) (consumed : ℕ) → name ≡ app → messages ≡ now → queues ≡ waiting_queues name messages → dead ≡ dead_ids name messages → consumed ≡ length (consumed_ids name messages)
    → queues_shown now app ≡ ShowQueues name queues dead consumed
shown-is messages now app name queues dead consumed named same q d c =
    ap (λ (m : List Message). queues_shown m app) (sym same) ∙ ap (queues_shown messages) (sym named) ∙ (λ i. ShowQueues name ((sym q) i) ((sym d) i) ((sym c) i))

module _ (hub : Hub) (s : State) (h : IsHubOf hub s) (at : ℕ) (app : List ℕ) where
  pub list-unknown : app_named app hub.history.catalogue.apps ≡ None → step s (listing at app) ≡ stays (at_moment at s) (Refused UnknownApp)
  list-unknown is =
      let here = ap (λ c. app_named app c.apps) (sym h.history.catalogue) ∙ is in
      step-refused-by s at (Queues app) UnknownApp (refusal-queues (at_moment at s) app ∙ ap (λ (o : Option App). first_some (refuse_if (is_none o) UnknownApp ∷ [])) here) refl

  pub list-known : (a : App) → app_named app hub.history.catalogue.apps ≡ Some a → step s (listing at app) ≡ stays (at_moment at s) (queues_shown s.history.messages app)
  list-known a is =
      let here = ap (λ c. app_named app c.apps) (sym h.history.catalogue) ∙ is in
      step-taken s at (Queues app) (refusal-queues (at_moment at s) app ∙ ap (λ (o : Option App). first_some (refuse_if (is_none o) UnknownApp ∷ [])) here)

-- a table

pub found-table : (tables : List Opening) (name : List ℕ) (t : Opening) → table_named name tables ≡ Some t → t.name ≡ name
found-table tables name t e = (bytes_eq-Decides t.name name).0 (found-is (λ (x : Opening). bytes_eq x.name name) tables t e)

-- what is shown under the table's own name
pub table-is : (tables now : List TableRows) (table name : List ℕ) (shown : List ShownRow) (rows : List (List ℕ × ℕ)) (total : ℕ) → name ≡ table → tables ≡ now → shown ≡ map shown_row rows → rows ≡ rows_shown name tables → total ≡ total_in name tables
    → table_shown now table ≡ ShowTable name shown total
table-is tables now table name shown rows total named same s r t =
    ap (λ (l : List TableRows). table_shown l table) (sym same) ∙ ap (table_shown tables) (sym named) ∙ (λ i. ShowTable name ((sym (s ∙ ap (map shown_row) r)) i) ((sym t) i))

module _ (hub : Hub) (s : State) (h : IsHubOf hub s) (at : ℕ) (table : List ℕ) where
  pub show-unknown : table_named table hub.history.catalogue.tables ≡ None → step s (showing at table) ≡ stays (at_moment at s) (Refused UnknownTable)
  show-unknown is =
      let here = ap (λ c. table_named table c.tables) (sym h.history.catalogue) ∙ is in
      step-refused-by s at (Table table) UnknownTable (refusal-table (at_moment at s) table ∙ ap (λ (o : Option Opening). first_some (refuse_if (is_none o) UnknownTable ∷ [])) here) refl

  pub show-known : (t : Opening) → table_named table hub.history.catalogue.tables ≡ Some t → step s (showing at table) ≡ stays (at_moment at s) (table_shown s.history.tables table)
  show-known t is =
      let here = ap (λ c. table_named table c.tables) (sym h.history.catalogue) ∙ is in
      step-taken s at (Table table) (refusal-table (at_moment at s) table ∙ ap (λ (o : Option Opening). first_some (refuse_if (is_none o) UnknownTable ∷ [])) here)

-- a resource

pub found-resource : (resources : List Resource) (name : List ℕ) (r : Resource) → resource_named name resources ≡ Some r → r.name ≡ name
found-resource resources name r e = (bytes_eq-Decides r.name name).0 (found-is (λ (x : Resource). bytes_eq x.name name) resources r e)

-- what the site holds is shown under the resource's own name
pub outside-is : (rows now : OutsideRows) (resource name : List ℕ) (named : List (List ℕ × ℕ)) (shown : List ShownRow) (total : ℕ) → name ≡ resource → rows ≡ now → shown ≡ map (held_row rows resource) named → total ≡ shown_total shown
    → held_shown now resource named ≡ ShowOutside name shown total
outside-is rows now resource name named shown total same still s t =
    let there : map (held_row now resource) named ≡ shown = sym (s ∙ ap (λ (o : OutsideRows). map (held_row o resource) named) still) in
    (λ i. ShowOutside ((sym same) i) (there i) ((ap shown_total there ∙ sym t) i))

module _ (hub : Hub) (s : State) (h : IsHubOf hub s) (at : ℕ) (resource : List ℕ) where
  pub outside-unknown : resource_named resource hub.history.catalogue.resources ≡ None → step s (outside_of at resource) ≡ stays (at_moment at s) (Refused UnknownTable)
  outside-unknown is =
      let here = ap (λ c. resource_named resource c.resources) (sym h.history.catalogue) ∙ is in
      step-refused-by s at (Outside resource) UnknownTable (refusal-outside (at_moment at s) resource ∙ ap (λ (o : Option Resource). first_some (refuse_if (is_none o) UnknownTable ∷ [])) here) refl

  pub outside-known : (r : Resource) → resource_named resource hub.history.catalogue.resources ≡ Some r → step s (outside_of at resource) ≡ stays (at_moment at s) (held_shown s.rows resource r.rows)
  outside-known r is =
      let here = ap (λ c. resource_named resource c.resources) (sym h.history.catalogue) ∙ is in
      step-taken s at (Outside resource) (refusal-outside (at_moment at s) resource ∙ ap (λ (o : Option Resource). first_some (refuse_if (is_none o) UnknownTable ∷ [])) here)
      ∙ ap (λ (o : Option Resource). stays (at_moment at s) (held_shown s.rows resource (option_map_or (λ (x : Resource). x.rows) o []))) here
