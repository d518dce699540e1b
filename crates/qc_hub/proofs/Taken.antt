-- The message that is taken, and why none is.
use Rattle.std.proofs.Common.{◌≡◌, ◌∙◌, ℕ, ◌==◌, List, [], ◌∷◌, ◌++◌, Bool, true, false, not, cond, ◌&&◌, length, filter, is_none, refl, sym, ap, subst, Option, Some, None, option_map, option_and_then, eqb-true, is_some, Ok, Err}
use Rattle.std.specs.Option.{option_map_or}
use Rattle.std.proofs.lemmas.Bool.{not-false}
use Rattle.qc_base.specs.declared.message.Message.{Message}
use Rattle.qc_base.specs.declared.fact.Place.{Place}
use Rattle.qc_base.specs.declared.fact.Place.TheVariants.{Queue, Dead, Consumed}
use Rattle.qc_base.specs.Messages.{is_consumed}
use Rattle.qc_base.specs.Spelling.{is_attempt}
use Rattle.qc_protocol.specs.declared.order.Act.TheVariants.{Take}
use Rattle.qc_protocol.specs.declared.reply.Refusal.{Refusal}
use Rattle.qc_protocol.specs.declared.reply.Refusal.TheVariants.{Full, NotBuilt, NothingDue, SlotBusy, SwitchedOff, UnknownApp}
use Rattle.qc_catalogue.specs.declared.catalogue.App.{App}
use Rattle.qc_catalogue.specs.declared.catalogue.Catalogue.{Catalogue}
use Rattle.qc_catalogue.specs.Lookup.{app_named}
use Rattle.qc_history.specs.Playing.{kind_of_attempt, kind_on}
use Rattle.qc_listener.specs.Choice.{AreKept, chosen, chosen_by, due_messages, earliest_due, has_free_rows, is_due, kind_at}
use Rattle.qc_listener.specs.Index.{MessageRows}
use Rattle.qc_listener.specs.declared.chosen.Chosen.{Chosen}
use Rattle.qc_listener.specs.declared.chosen.Chosen.TheVariants.{Take as TakesOne, NothingDue as FindsNone}
use Rattle.qc_players.specs.Orders.{busy_for}
use Rattle.qc_players.specs.Players.{SameHoldings, holdings_in, players_of}
use Rattle.qc_players.proofs.Holdings.{free-same}
use Rattle.qc_rows.specs.Holdings.{Holding}
use Rattle.qc_store.specs.Due.{is_before, is_queued, first_by, queued_messages}
use Rattle.qc_store.specs.Live.{live_message, unless_consumed}
use Rattle.qc_store.specs.Stored.{Stored}
use Rattle.qc_txn.specs.Parts.{is_playable, parts_of, rows_of_attempt}
use Rattle.qc_players.proofs.Quiet.{quiet-room}
use Rattle.qc_journal.specs.Journal.{JournalView}
use Rattle.qc_machine.specs.History.{by_text}
use Rattle.qc_machine.specs.State.{FileEnd}
use Rattle.qc_machine.proofs.Bools.{and-left, and-right}
use Rattle.qc_machine.proofs.Keeping.{settled-orderly}
use Rattle.qc_machine.proofs.Taken.{IsChosen, chosen-is}
use Rattle.qc_machine.specs.Attempts.{blocked_count, chosen_message, earliest_of, next_attempt}
use Rattle.qc_machine.specs.History.{is_on, plays_inside}
use Rattle.qc_machine.specs.Names.{app_unknown}
use Rattle.qc_machine.specs.Refuse.{first_some, refuse_if}
use Rattle.qc_machine.specs.Rooms.{journal_full, log_full, no_number, room_for, take_full}
use Rattle.qc_machine.specs.Slots.{out_of_slots, player_busy}
use Rattle.qc_machine.specs.State.{State, HeldAttempt, in_slot}
use Rattle.qc_machine.specs.Step.{refusal}
use Rattle.qc_machine.specs.Taking.{can_play, app_off, no_room_to_take, app_none_due, app_not_built}
use Rattle.qc_machine.proofs.Refusals.{first-is, first-none, none-first, not-refused}
use Rattle.qc_machine.proofs.Steps.{refusal-take}
use Rattle.qc_hub.specs.declared.hub.Hub.{Hub}
use Rattle.qc_hub.specs.Rooms.{SameBut, attempt_number}
use Rattle.qc_hub.specs.Stands.{IsFit, IsHubOf}
use Rattle.qc_hub.specs.Taking.{Chooses, Numbers, untaken, unplayed}
use Rattle.qc_hub.proofs.AddedEnd.{due-queued}
use Rattle.qc_hub.proofs.Fit.{was-history}

-- what holds where a player may take a message

pub record IsFreeToTake (s : State) (n : ℕ) (app : List ℕ) : Type 0 where
  pub slot : in_slot n s.players ≡ None
  pub built : app_not_built s app ≡ None
  pub room : no_room_to_take s app ≡ None

none-busy : (o : Option HeldAttempt) → option_map (λ (a : HeldAttempt). SlotBusy a.id) o ≡ None → o ≡ None
none-busy None e = refl
none-busy (Some a) e = cc

pub free-to-take : (s : State) (n : ℕ) (app : List ℕ) → refusal s (Take n app) ≡ None → IsFreeToTake s n app
free-to-take s n app free =
    let all = sym (refusal-take s n app) ∙ free in
    let slot = none-first (out_of_slots n) (player_busy s.players n ∷ app_unknown s.history.catalogue app ∷ app_off s app ∷ app_none_due s app ∷ app_not_built s app ∷ no_room_to_take s app ∷ []) all in
    let busy = none-first (player_busy s.players n) (app_unknown s.history.catalogue app ∷ app_off s app ∷ app_none_due s app ∷ app_not_built s app ∷ no_room_to_take s app ∷ []) slot.1 in
    let known = none-first (app_unknown s.history.catalogue app) (app_off s app ∷ app_none_due s app ∷ app_not_built s app ∷ no_room_to_take s app ∷ []) busy.1 in
    let on = none-first (app_off s app) (app_none_due s app ∷ app_not_built s app ∷ no_room_to_take s app ∷ []) known.1 in
    let due = none-first (app_none_due s app) (app_not_built s app ∷ no_room_to_take s app ∷ []) on.1 in
    let built = none-first (app_not_built s app) (no_room_to_take s app ∷ []) due.1 in
    record { slot = none-busy (in_slot n s.players) busy.0; built = built.0; room = (none-first (no_room_to_take s app) [] built.1).0 }

-- the player holds nothing then
pub free-player : (s : State) (n : ℕ) (app : List ℕ) → refusal s (Take n app) ≡ None → busy_for n s.players ≡ None
free-player s n app free =
    let slot = none-first (out_of_slots n) (player_busy s.players n ∷ app_unknown s.history.catalogue app ∷ app_off s app ∷ app_none_due s app ∷ app_not_built s app ∷ no_room_to_take s app ∷ []) (sym (refusal-take s n app) ∙ free) in
    let busy = none-first (player_busy s.players n) (app_unknown s.history.catalogue app ∷ app_off s app ∷ app_none_due s app ∷ app_not_built s app ∷ no_room_to_take s app ∷ []) slot.1 in
    ap (λ (o : Option Refusal). first_some (o ∷ player_busy s.players n ∷ [])) slot.0 ∙ ap (λ (o : Option Refusal). first_some (o ∷ [])) busy.0

-- the refusals of a take, those of the choice before those of the attempt

behind-choice : (s : State) (n : ℕ) (app : List ℕ) → refusal s (Take n app) ≡ first_some ((out_of_slots n ∷ player_busy s.players n ∷ app_unknown s.history.catalogue app ∷ app_off s app ∷ app_none_due s app ∷ []) ++ (app_not_built s app ∷ no_room_to_take s app ∷ []))
behind-choice s n app = refusal-take s n app

pub take-untaken : (s : State) (n : ℕ) (app : List ℕ) (r : Refusal) → untaken s n app ≡ Some r → refusal s (Take n app) ≡ Some r
take-untaken s n app r e = behind-choice s n app ∙ first-is (out_of_slots n ∷ player_busy s.players n ∷ app_unknown s.history.catalogue app ∷ app_off s app ∷ app_none_due s app ∷ []) (app_not_built s app ∷ no_room_to_take s app ∷ []) r e

pub take-behind : (s : State) (n : ℕ) (app : List ℕ) (m : Message) (o : Option Refusal) → untaken s n app ≡ None → chosen_message s app ≡ Some m → unplayed s m ≡ o → refusal s (Take n app) ≡ o
take-behind s n app m o free chosen e =
    behind-choice s n app
    ∙ first-none (out_of_slots n ∷ player_busy s.players n ∷ app_unknown s.history.catalogue app ∷ app_off s app ∷ app_none_due s app ∷ []) (app_not_built s app ∷ no_room_to_take s app ∷ []) free
    ∙ ap (λ (x : Option Message). first_some (option_and_then (λ (m : Message). refuse_if (not (can_play s.history.catalogue m)) NotBuilt) x ∷ option_and_then (take_full s) x ∷ [])) chosen ∙ e

-- the choice is the same for the same holdings

module _ (xs ys : List Holding) (same : SameHoldings xs ys) (c : Catalogue) (now : ℕ) (app : List ℕ) (messages : List Message) where
  due-same : due_messages xs now app messages ≡ due_messages ys now app messages
  due-same = λ i. filter (λ (m : Message). is_due now m.place && not (same (λ (h : Holding). h.id == m.id) i)) (queued_messages app messages)

  free-rows : (m : Message) → has_free_rows c xs m ≡ has_free_rows c ys m
  free-rows m = free-same xs ys (rows_of_attempt c m.recording (kind_at m.place)) same

  pub chosen-same : chosen c xs now app messages ≡ chosen c ys now app messages
  chosen-same = λ i. chosen_by (first_by is_before (filter (λ (m : Message). free-rows m i) (due-same i))) (earliest_due now app messages) (length (due-same i))

-- what is chosen from a store
pub chosen-in : (store other : Stored) (rows : List MessageRows) (held : List Holding) (now : ℕ) (app : List ℕ) (x : Chosen) → store ≡ other → ((c : Catalogue) → AreKept c rows app store.messages → x ≡ chosen c held now app store.messages) → (c : Catalogue) → AreKept c rows app other.messages → x ≡ chosen c held now app other.messages
chosen-in store other rows held now app x same asked c = subst (λ (y : Stored). AreKept c rows app y.messages → x ≡ chosen c held now app y.messages) same (asked c)

-- what the hub's choice says of its state

module _ (hub : Hub) (s : State) (h : IsHubOf hub s) (n : ℕ) (app : List ℕ) where
  abbrev refusals : Option HeldAttempt → Option App → Bool → Option Refusal → Option Refusal
  refusals held found off due =
      first_some (out_of_slots n ∷ option_map (λ (a : HeldAttempt). SlotBusy a.id) held ∷ refuse_if (is_none found) UnknownApp ∷ refuse_if off SwitchedOff ∷ due ∷ [])

  busy-here : (o : Option Refusal) → busy_for n (players_of hub.players) ≡ o → first_some (out_of_slots n ∷ player_busy s.players n ∷ []) ≡ o
  busy-here o e = subst (λ (p : List (Option HeldAttempt)). busy_for n p ≡ o) h.players e

  pub chose-busy : (r : Refusal) → busy_for n (players_of hub.players) ≡ Some r → Chooses s n app (Err r)
  chose-busy r e = first-is (out_of_slots n ∷ player_busy s.players n ∷ []) (app_unknown s.history.catalogue app ∷ app_off s app ∷ app_none_due s app ∷ []) r (busy-here (Some r) e)

  module _ (free : busy_for n (players_of hub.players) ≡ None) where
    past-busy : untaken s n app ≡ first_some (app_unknown s.history.catalogue app ∷ app_off s app ∷ app_none_due s app ∷ [])
    past-busy = first-none (out_of_slots n ∷ player_busy s.players n ∷ []) (app_unknown s.history.catalogue app ∷ app_off s app ∷ app_none_due s app ∷ []) (busy-here None free)

    found-here : (o : Option App) → app_named app hub.history.catalogue.apps ≡ o → app_named app s.history.catalogue.apps ≡ o
    found-here o e = ap (λ (c : Catalogue). app_named app c.apps) (sym h.history.catalogue) ∙ e

    pub chose-unknown : app_named app hub.history.catalogue.apps ≡ None → Chooses s n app (Err UnknownApp)
    chose-unknown e = past-busy ∙ ap (λ (o : Option App). first_some (refuse_if (is_none o) UnknownApp ∷ app_off s app ∷ app_none_due s app ∷ [])) (found-here None e)

    module _ (a : App) (found : app_named app hub.history.catalogue.apps ≡ Some a) where
      past-known : untaken s n app ≡ first_some (app_off s app ∷ app_none_due s app ∷ [])
      past-known = past-busy ∙ ap (λ (o : Option App). first_some (refuse_if (is_none o) UnknownApp ∷ app_off s app ∷ app_none_due s app ∷ [])) (found-here (Some a) found)

      pub chose-off : not (is_on app s.history) ≡ true → Chooses s n app (Err SwitchedOff)
      chose-off e = past-known ∙ ap (λ (b : Bool). first_some (refuse_if b SwitchedOff ∷ app_none_due s app ∷ [])) e

      module _ (on : not (is_on app s.history) ≡ false) where
        past-on : untaken s n app ≡ first_some (app_none_due s app ∷ [])
        past-on = past-known ∙ ap (λ (b : Bool). first_some (refuse_if b SwitchedOff ∷ app_none_due s app ∷ [])) on

        abbrev due_by : Option Message → Option Refusal
        due_by o = first_some (refuse_if (is_none o) (NothingDue (earliest_of s app) (blocked_count s app)) ∷ [])

        one-by : (o : Option Message) → chosen_message s app ≡ o → (id : ℕ) → chosen_by o (earliest_of s app) (blocked_count s app) ≡ TakesOne id → Chooses s n app (Ok id)
        one-by None e id is = cc
        one-by (Some m) e id is = let same : m.id ≡ id = cc in (m, past-on ∙ ap due_by e, e, same)

        none-by : (o : Option Message) → chosen_message s app ≡ o → (earliest : Option ℕ) (blocked : ℕ) → chosen_by o (earliest_of s app) (blocked_count s app) ≡ FindsNone earliest blocked → Chooses s n app (Err (NothingDue earliest blocked))
        none-by (Some m) e earliest blocked is = cc
        none-by None e earliest blocked is =
            let first : earliest_of s app ≡ earliest = cc in
            let count : blocked_count s app ≡ blocked = cc in
            past-on ∙ ap due_by e ∙ (λ i. Some (NothingDue (first i) (count i)))

        -- what was chosen among the hub's holdings, of the application of this name, is the state's choice
        module _ (held : List Holding) (name : List ℕ) (x : Chosen) (same : SameHoldings held (holdings_in (players_of hub.players))) (named : name ≡ app) (is : x ≡ chosen hub.history.catalogue held hub.last name hub.history.store.messages) where
          choice-here : x ≡ chosen_by (chosen_message s app) (earliest_of s app) (blocked_count s app)
          choice-here =
              is ∙ chosen-same held (holdings_in (players_of hub.players)) same hub.history.catalogue hub.last name hub.history.store.messages
              ∙ (λ i. chosen (h.history.catalogue i) (holdings_in (h.players i)) (h.last i) (named i) (h.history.messages i))

          pub chose-one : (id : ℕ) → x ≡ TakesOne id → Chooses s n app (Ok id)
          chose-one id e = one-by (chosen_message s app) refl id (sym choice-here ∙ e)

          pub chose-none : (earliest : Option ℕ) (blocked : ℕ) → x ≡ FindsNone earliest blocked → Chooses s n app (Err (NothingDue earliest blocked))
          chose-none earliest blocked e = none-by (chosen_message s app) refl earliest blocked (sym choice-here ∙ e)

-- why an attempt on the message isn't begun, or its number

found-wait : (c : Catalogue) (m : Message) (b : Bool) → is_queued m.place ≡ b → b ≡ true → kind_on c m ≡ cond (is_playable c m.recording (kind_at m.place)) (Some (kind_at m.place)) None
found-wait c m b e true_ = ap (λ (x : Bool). cond (x && is_playable c m.recording (kind_at m.place)) (Some (kind_at m.place)) None) (e ∙ true_)

kind-is : (c : Catalogue) (m : Message) → is_queued m.place ≡ true → is_some (kind_on c m) ≡ is_playable c m.recording (kind_at m.place)
kind-is c m queued = ap is_some (found-wait c m true queued refl) ∙ by (is_playable c m.recording (kind_at m.place))
  where
    by : (b : Bool) → is_some (cond b (Some (kind_at m.place)) None) ≡ b
    by true = refl
    by false = refl

-- what stands in a queue isn't consumed
queued-live : (place : Place) → is_queued place ≡ true → is_consumed place ≡ false
queued-live (Queue queue tries due) e = refl
queued-live Dead e = refl
queued-live (Consumed attempt) e = sym e

module _ (hub : Hub) (s : State) (h : IsHubOf hub s) (app : List ℕ) (m : Message) (id : ℕ) (taken : chosen_message s app ≡ Some m) (same : m.id ≡ id) where
  picked : IsChosen s m
  picked = chosen-is s app m (settled-orderly by_text s h.settled) taken

  kind-here : is_some (kind_of_attempt hub.history.catalogue id hub.history.store.messages) ≡ is_playable s.history.catalogue m.recording (kind_at m.place)
  kind-here =
      (λ i. is_some (kind_of_attempt (h.history.catalogue i) (sym same i) (h.history.messages i)))
      ∙ ap (λ (o : Option Message). is_some (option_and_then (kind_on s.history.catalogue) o)) picked.found
      ∙ kind-is s.history.catalogue m (due-queued s.last m.place picked.due)

  abbrev pub built_here : Bool
  built_here = option_map_or (can_play hub.history.catalogue) (live_message id hub.history.store.messages) false

  can-here : built_here ≡ can_play s.history.catalogue m
  can-here =
      (λ i. option_map_or (can_play (h.history.catalogue i)) (live_message (sym same i) (h.history.messages i)) false)
      ∙ ap (λ (o : Option Message). option_map_or (can_play s.history.catalogue) (option_and_then unless_consumed o) false) picked.found
      ∙ ap (λ (b : Bool). option_map_or (can_play s.history.catalogue) (cond b None (Some m)) false) (queued-live m.place (due-queued s.last m.place picked.due))

  pub can-play : unplayed s m ≡ None → can_play s.history.catalogue m ≡ true
  can-play free = not-false _ (not-refused (not (can_play s.history.catalogue m)) NotBuilt (none-first (refuse_if (not (can_play s.history.catalogue m)) NotBuilt) (take_full s m ∷ []) free).0)

  pub playable : unplayed s m ≡ None → is_playable s.history.catalogue m.recording (kind_at m.place) ≡ true
  playable free = and-left (is_playable s.history.catalogue m.recording (kind_at m.place)) _ (can-play free)

  pub kind-there : unplayed s m ≡ None → is_some (kind_of_attempt hub.history.catalogue id hub.history.store.messages) ≡ true
  kind-there free = kind-here ∙ playable free

  pub not-built : built_here ≡ false → Numbers s m (Err NotBuilt)
  not-built e = ap (λ (b : Bool). first_some (refuse_if (not b) NotBuilt ∷ take_full s m ∷ [])) (sym can-here ∙ e)

  module _ (built : built_here ≡ true) where
    can : can_play s.history.catalogue m ≡ true
    can = sym can-here ∙ built

    inside : plays_inside s.history.catalogue m.recording (kind_at m.place) ≡ true
    inside = can

    past-built : unplayed s m ≡ first_some (take_full s m ∷ [])
    past-built = ap (λ (b : Bool). first_some (refuse_if (not b) NotBuilt ∷ take_full s m ∷ [])) can

    room-is : room_for s m ≡ 512
    room-is = quiet-room (parts_of s.history.catalogue m.recording (kind_at m.place)) (eqb-true _ 0 (and-right (is_playable s.history.catalogue m.recording (kind_at m.place)) _ inside))

    abbrev full_by : Option Refusal → Option Refusal → Option Refusal → Option Refusal
    full_by journal log number = first_some (first_some (journal ∷ log ∷ number ∷ []) ∷ [])

    pub journal-lacks : (r : Refusal) → journal_full s 35 ≡ Some r → Numbers s m (Err r)
    journal-lacks r e = past-built ∙ ap (λ (o : Option Refusal). full_by o (log_full s (room_for s m)) (no_number s)) e

    pub log-lacks : (r : Refusal) → journal_full s 35 ≡ None → log_full s 512 ≡ Some r → Numbers s m (Err r)
    log-lacks r a b =
        past-built ∙ ap (λ (o : Option Refusal). full_by o (log_full s (room_for s m)) (no_number s)) a ∙ ap (λ (n : ℕ). full_by None (log_full s n) (no_number s)) room-is ∙ ap (λ (o : Option Refusal). full_by None o (no_number s)) b

    behind-logs : journal_full s 35 ≡ None → log_full s 512 ≡ None → unplayed s m ≡ full_by None None (no_number s)
    behind-logs a b =
        past-built ∙ ap (λ (o : Option Refusal). full_by o (log_full s (room_for s m)) (no_number s)) a ∙ ap (λ (n : ℕ). full_by None (log_full s n) (no_number s)) room-is ∙ ap (λ (o : Option Refusal). full_by None o (no_number s)) b

    number-by : (b : Bool) → is_attempt (next_attempt s) ≡ b → (o : Option ℕ) → cond b (Some (next_attempt s)) None ≡ o → journal_full s 35 ≡ None → log_full s 512 ≡ None
        → (number : ℕ) → o ≡ Some number → Numbers s m (Ok number)
    number-by true e o is a c number there =
        let same_number : next_attempt s ≡ number = let both : Some (next_attempt s) ≡ Some number = is ∙ there in cc in
        (behind-logs a c ∙ ap (λ (b : Bool). full_by None None (refuse_if (not b) (Full s.journal.size))) e, sym same_number)
    number-by false e o is a c number there = let both : None ≡ Some number = is ∙ there in cc

    pub has-number : journal_full s 35 ≡ None → log_full s 512 ≡ None → (number : ℕ) → attempt_number s ≡ Some number → Numbers s m (Ok number)
    has-number a c number e = number-by (is_attempt (next_attempt s)) refl (attempt_number s) refl a c number e

    lacks-by : (b : Bool) → is_attempt (next_attempt s) ≡ b → cond b (Some (next_attempt s)) None ≡ None → journal_full s 35 ≡ None → log_full s 512 ≡ None → (length : ℕ) → length ≡ hub.journal.length → Numbers s m (Err (Full length))
    lacks-by true e is a c length at = cc
    lacks-by false e is a c length at =
        behind-logs a c ∙ ap (λ (b : Bool). full_by None None (refuse_if (not b) (Full s.journal.size))) e ∙ (λ i. Some (Full ((ap (λ (x : FileEnd). x.size) h.journal ∙ sym at) i)))

    pub lacks-number : journal_full s 35 ≡ None → log_full s 512 ≡ None → attempt_number s ≡ None → (length : ℕ) → length ≡ hub.journal.length → Numbers s m (Err (Full length))
    lacks-number a c e length at = lacks-by (is_attempt (next_attempt s)) refl e a c length at

-- a hub that has taken an attempt's rows, before that was

pub room-was : (hub new : Hub) (s : State) → SameBut hub new → IsFit hub → IsHubOf new s → IsHubOf hub s
room-was hub new s same fit h = record {
  history = was-history hub.history new.history s.history same.history h.history;
  clients = ap (λ (x : Hub). x.clients) (sym same.others) ∙ h.clients;
  players = ap (λ (x : Hub). players_of x.players) (sym same.others) ∙ h.players;
  last = ap (λ (x : Hub). x.last) (sym same.others) ∙ h.last;
  limits = ap (λ (x : Hub). x.limits) (sym same.others) ∙ h.limits;
  journal = h.journal ∙ (λ i. record { gate = (ap (λ (j : JournalView). j.place) same.journal) i; size = (ap (λ (j : JournalView). j.length) same.journal) i });
  log = h.log ∙ (λ i. record { gate = (ap (λ (x : Hub). x.log.place) same.others) i; size = (ap (λ (x : Hub). x.log.length) same.others) i });
  settled = h.settled;
  fit = fit;
}
