-- Steps keep histories legal.
use Rattle.std.proofs.Common.{◌≡◌, ◌∙◌, ◌⊎◌, ◌≤◌, ◌<◌, ◌+◌, ◌-◌, ◌==◌, ℕ, List, [], ◌∷◌, length, Bool, true, false, not, ◌&&◌, cond, leb, map, refl, sym, ap, subst, inr, ⊎_elim, arith, Option, Some, None, option_map, option_and_then, is_none, is_some, Ok, Err}
use Rattle.std.specs.declared.result.Result.{Result}
use Rattle.std.specs.List.{list_all}
use Rattle.std.specs.Str.{bytes_eq}
use Rattle.std.proofs.lemmas.Bool.{and_parts, le-leb, leb-true}
use Rattle.qc_base.specs.Names.{is_app_name, is_name}
use Rattle.qc_base.specs.declared.fact.Fact.{Fact}
use Rattle.qc_base.specs.declared.fact.Fact.TheVariants.{Sent, Played, Failed}
use Rattle.qc_base.specs.declared.log_line.Stage.{Stage}
use Rattle.qc_base.specs.declared.log_line.Stage.TheVariants.{Calls, Ready, Failing, Commit, Abort}
use Rattle.qc_base.specs.declared.log_line.Why.{Why}
use Rattle.qc_base.specs.declared.message.Message.{Message}
use Rattle.qc_base.specs.declared.recording.Recording.{Recording}
use Rattle.qc_base.specs.Spelling.{is_attempt, is_between, is_fact, is_id, is_moment, is_recording}
use Rattle.qc_protocol.specs.declared.order.Act.{Act}
use Rattle.qc_protocol.specs.declared.order.Act.TheVariants.{OpenSlot, CallSlot, CommitSlot, CancelSlot, Send, Take, Work, End, Phase, Play, Move, Switch, Queues, Table, Outside}
use Rattle.qc_protocol.specs.declared.order.Order.{Order}
use Rattle.qc_protocol.specs.declared.order.RawCall.{RawCall}
use Rattle.qc_protocol.specs.declared.reply.Refusal.{Refusal}
use Rattle.qc_protocol.specs.declared.reply.Refusal.TheVariants.{BadBatch, NotBuilt, WrongStage, UnknownApp, Full}
use Rattle.qc_catalogue.specs.declared.catalogue.App.{App}
use Rattle.qc_catalogue.specs.declared.catalogue.Catalogue.{Catalogue}
use Rattle.qc_catalogue.specs.Lookup.{app_named}
use Rattle.qc_catalogue.specs.Orderly.{are_apart, is_app, is_orderly, keys_apart}
use Rattle.qc_catalogue.specs.declared.catalogue.Opening.{Opening}
use Rattle.qc_catalogue.specs.declared.catalogue.Resource.{Resource}
use Rattle.qc_catalogue.proofs.Lookups.{found_name}
use Rattle.qc_recorder.specs.Fits.{recording_fits}
use Rattle.qc_recorder.specs.Recording.{begun, called, recorded, IsHeld}
use Rattle.qc_recorder.proofs.Found.{found-passes}
use Rattle.qc_recorder.proofs.Held.{begun-held, called-held, recorded-held, within-recording}
use Rattle.qc_txn.specs.Parts.{parts_of}
use Rattle.qc_listener.specs.Choice.{kind_at}
use Rattle.qc_machine.specs.Attempts.{attempt_room, chosen_message, next_attempt, parts_held}
use Rattle.qc_machine.specs.History.{Reader, History, no_facts, with_fact, after_fact, is_later, may_follow}
use Rattle.qc_machine.specs.Holding.{has_row, IsCalling, HasCome, IsHeldIn, AreApart, AreHeld, Holds}
use Rattle.qc_machine.specs.Laws.{IsInRange, IsSettled, ReadsOrderly}
use Rattle.qc_machine.specs.Moving.{Route, route, no_room_to_move, move_step}
use Rattle.qc_machine.specs.Names.{app_unknown}
use Rattle.qc_machine.specs.Playing.{after_end, after_work, end_in, ended_attempt, fact_of_end, on_held, phase_in, play_in, play_step, why_ended, work_in, work_on}
use Rattle.qc_machine.specs.Recorded.{if_called, if_recorded, if_refused}
use Rattle.qc_machine.specs.Recording.{open_step, call_step, cancel_step}
use Rattle.qc_machine.specs.Refuse.{first_some, is_of_line, refuse_if}
use Rattle.qc_machine.specs.Rooms.{journal_full, log_full, no_number, room_for, take_full}
use Rattle.qc_machine.specs.Sending.{fact_sent, send_step}
use Rattle.qc_machine.specs.Slots.{can_end, has_calls, idle, out_of_slots, player_busy, stage_unless}
use Rattle.qc_machine.specs.State.{State, HeldAttempt, at_moment, fact_room, with_new_fact, in_slot, with_client, with_player}
use Rattle.qc_machine.specs.Step.{step, step_of, answer, refusal}
use Rattle.qc_machine.specs.Steps.{Step, IsBetween}
use Rattle.qc_machine.specs.Switching.{fact_switched, switch_step}
use Rattle.qc_machine.specs.Taking.{can_play, app_off, new_attempt, no_room_to_take, app_none_due, app_not_built, take_step}
use Rattle.qc_machine.proofs.Beside.{held-aside}
use Rattle.qc_machine.proofs.Bools.{and-both}
use Rattle.qc_machine.proofs.Calls.{IsOf, work-held}
use Rattle.qc_machine.proofs.Ended.{HasEnded, end-aside, end-follows, ended-held, ends-open}
use Rattle.qc_machine.proofs.Held.{held-freed, held-later, held-on, held-sent, held-set, held-switched}
use Rattle.qc_machine.proofs.Following.{fact-settled}
use Rattle.qc_machine.proofs.Histories.{after-push, legal-push, legal-some, send-follows, orderly-history}
use Rattle.qc_machine.proofs.Keeping.{message-kept, settled-orderly}
use Rattle.qc_machine.proofs.Moves.{move-settled, route-is}
use Rattle.qc_machine.proofs.Recorders.{in-list, set-recorded, some-calls, recorded-calls}
use Rattle.qc_machine.proofs.Refusals.{none-first, not-refused}
use Rattle.qc_machine.proofs.Runs.{IsOnTheWay, all-run}
use Rattle.qc_machine.proofs.Steps.{refusal-take, refusal-play, refusal-work, refusal-end, refusal-move, refusal-switch}
use Rattle.qc_machine.proofs.Taken.{chosen-is, taken-held}

-- a sent message is a fact within its limits
pub sent-fits : (id at : ℕ) (r : Recording) → id ≤ 18446744073709551615 → at ≤ 1000000000000 → is_recording r ≡ true → is_fact (Sent id at r) ≡ true
sent-fits id at r few soon fits = and-both (is_id id) _ (le-leb id 18446744073709551615 few) (and-both (is_moment at) _ (le-leb at 1000000000000 soon) fits)

-- the state with a message more, that is sent at the last moment seen
pub sent-settled : (read : Reader) (s : State) (r : Recording) → IsSettled read s → is_fact (fact_sent s r) ≡ true → recording_fits s.history.catalogue r ≡ true → IsSettled read (with_new_fact (fact_sent s r) s)
sent-settled read s r settled fits there = record {
  history = ap (with_fact fact) settled.history ∙ sym (after-push read no_facts s.history.facts fact);
  legal = legal-push read s.history.facts fact settled.legal (subst (λ (h : History). may_follow read h fact ≡ true) settled.history follows);
  not_ahead = omega arith;
  in_time = settled.in_time;
  recorded = settled.recorded;
  held = held-sent s (length s.history.messages + 1) s.last r settled.held;
}
  where
    fact : Fact
    fact = fact_sent s r

    follows : may_follow read s.history fact ≡ true
    follows = send-follows read s.history (length s.history.messages + 1) s.last r (legal-some read s.history.facts settled.legal) refl settled.not_ahead fits there

pub moment-settled : (read : Reader) (t : ℕ) (s : State) → t ≤ 1000000000000 → IsSettled read s → IsSettled read (at_moment t s)
moment-settled read t s le settled = record {
  history = settled.history;
  legal = settled.legal;
  not_ahead = omega (arith, settled.not_ahead);
  in_time = omega (arith, settled.in_time, le);
  recorded = settled.recorded;
  held = held-later t s settled.held;
}

-- what is sent is within its limits, and fits
record CanBeSent (s : State) (r : Recording) : Type 0 where
  fact : is_fact (fact_sent s r) ≡ true
  fits : recording_fits s.history.catalogue r ≡ true

can-be-sent : (s : State) (r : Recording) → s.last ≤ 1000000000000 → length s.history.messages + 1 < 18446744073709551616 → IsHeld s.history.catalogue r → 1 ≤ length r.calls → CanBeSent s r
can-be-sent s r soon few held some = record { fact = sent-fits _ s.last r (omega (arith, few)) soon (within-recording r held.within some); fits = held.fits }

-- a step without a state in its midst
one-end : (read : Reader) (s t x : State) → IsSettled read s → IsSettled read t → (x ≡ s) ⊎ (⊥ ⊎ (x ≡ t)) → IsSettled read x
one-end read s t x settled end between = ⊎_elim (λ e. subst (λ (y : State). IsSettled read y) (sym e) settled) (λ rest. ⊎_elim (λ a. absurd a) (λ e. subst (λ (y : State). IsSettled read y) (sym e) end) rest) between

still : (read : Reader) (s x : State) → IsSettled read s → (x ≡ s) ⊎ (⊥ ⊎ (x ≡ s)) → IsSettled read x
still read s x settled between = one-end read s s x settled settled between

-- what a recorder holds was recorded by the catalogue
pub with-slot : (read : Reader) (s : State) (n : ℕ) (o : Option Recording) → IsSettled read s → ((r : Recording) → o ≡ Some r → IsHeld s.history.catalogue r) → IsSettled read (with_client n o s)
with-slot read s n o settled held = record {
  history = settled.history;
  legal = settled.legal;
  not_ahead = settled.not_ahead;
  in_time = settled.in_time;
  recorded = set-recorded s.history.catalogue s.clients n o settled.recorded held;
  held = held-on s (with_client n o s) refl (λ c is. is) settled.held;
}

none-held : (c : Catalogue) (r : Recording) → None ≡ Some r → IsHeld c r
none-held c r e = cc

this-held : (c : Catalogue) (r x : Recording) → IsHeld c r → Some r ≡ Some x → IsHeld c x
this-held c r x held e = let same : r ≡ x = cc in subst (IsHeld c) same held

-- each order

sends : (read : Reader) (s : State) (o : Option Recording) → ((r : Recording) → o ≡ Some r → CanBeSent s r) → IsSettled read s → (x : State) → IsBetween s (send_step s o) x → IsSettled read x
sends read s None can settled x between = still read s x settled between
sends read s (Some r) can settled x between = let sent = can r refl in one-end read s (send_step s (Some r)).state x settled (sent-settled read s r settled sent.fact sent.fits) between

module _ (read : Reader) (s : State) (settled : IsSettled read s) (good : is_orderly s.history.catalogue ≡ true) (x : State) where
  opens : (n : ℕ) (app component : List ℕ) (answer : Result Recording Refusal) → begun s.history.catalogue app component ≡ answer → IsBetween s (open_step s n answer) x → IsSettled read x
  opens n app component (Err refusal) e between = still read s x settled between
  opens n app component (Ok r) e between =
      one-end read s (with_client n (Some r) s) x settled (with-slot read s n (Some r) settled (λ y f. this-held s.history.catalogue r y (begun-held s.history.catalogue app component r good e) f)) between

  calls : (n : ℕ) (call : RawCall) (o : Option Recording) → in_slot n s.clients ≡ o → IsBetween s (call_step s n (option_map (λ (r : Recording). called s.history.catalogue r call) o)) x → IsSettled read x
  calls n call None is between = still read s x settled between
  calls n call (Some r) is between = by (called s.history.catalogue r call) refl between
    where
      by : (answer : Result Recording Refusal) → called s.history.catalogue r call ≡ answer → IsBetween s (call_step s n (Some answer)) x → IsSettled read x
      by (Err refusal) e between = still read s x settled between
      by (Ok more) e between =
          one-end read s (with_client n (Some more) s) x settled (with-slot read s n (Some more) settled (λ y f. this-held s.history.catalogue more y (called-held s.history.catalogue r more call good (settled.recorded n r is) e) f)) between

  cancels : (n : ℕ) (o : Option Recording) → IsBetween s (cancel_step s n o) x → IsSettled read x
  cancels n None between = still read s x settled between
  cancels n (Some r) between = one-end read s (with_client n None s) x settled (with-slot read s n None settled (none-held s.history.catalogue)) between

  commits : s.last ≤ 1000000000000 → length s.history.messages + 1 < 18446744073709551616 → (n : ℕ) (o : Option Recording) → in_slot n s.clients ≡ o → IsBetween s (send_step (with_client n None s) (option_and_then if_called o)) x → IsSettled read x
  commits soon few n o is between =
      ⊎_elim (λ e. subst (λ (y : State). IsSettled read y) (sym e) settled)
      (λ rest. sends read (with_client n None s) (option_and_then if_called o) can (with-slot read s n None settled (none-held s.history.catalogue)) x (inr rest)) between
    where
      can : (r : Recording) → option_and_then if_called o ≡ Some r → CanBeSent (with_client n None s) r
      can r e = by o is e
        where
          by : (o : Option Recording) → in_slot n s.clients ≡ o → option_and_then if_called o ≡ Some r → CanBeSent (with_client n None s) r
          by None is e = cc
          by (Some held) is e =
              let some = some-calls held r e in
              can-be-sent (with_client n None s) r soon few (subst (IsHeld s.history.catalogue) some.0 (settled.recorded n held is)) some.1

  sends-all : s.last ≤ 1000000000000 → length s.history.messages + 1 < 18446744073709551616 → (app component : List ℕ) (raw : List RawCall) → IsBetween s (send_step s (if_recorded (recorded s.history.catalogue app component raw))) x → IsSettled read x
  sends-all soon few app component raw between = sends read s (if_recorded (recorded s.history.catalogue app component raw)) can settled x between
    where
      can : (r : Recording) → if_recorded (recorded s.history.catalogue app component raw) ≡ Some r → CanBeSent s r
      can r e =
          let some = recorded-calls (recorded s.history.catalogue app component raw) r e in
          can-be-sent s r soon few (recorded-held s.history.catalogue app component raw r good some.0) some.1

-- the fact of an end changes nothing but what it settles

plain-end : (read : Reader) (why : Option Why) (last : ℕ) (a : HeldAttempt) (h : History) → after_fact read h (fact_of_end last a why) ≡ with_fact (fact_of_end last a why) h
plain-end read (Some why) last a h = refl
plain-end read None last a h = refl

moment-end : (why : Option Why) (last : ℕ) (a : HeldAttempt) (h : History) → (with_fact (fact_of_end last a why) h).last ≡ last
moment-end (Some why) last a h = refl
moment-end None last a h = refl

catalogue-end : (why : Option Why) (last : ℕ) (a : HeldAttempt) (h : History) → (with_fact (fact_of_end last a why) h).catalogue ≡ h.catalogue
catalogue-end (Some why) last a h = refl
catalogue-end None last a h = refl

-- the same fact, of an attempt whose calls ran on
same-end : (a b : HeldAttempt) (s : State) (why : Option Why) → IsOf a b → after_end why b s ≡ after_end why a s
same-end a b s (Some why) of = λ i. with_new_fact (Failed (of.id i) (of.attempt i) s.last) s
same-end a b s None of = λ i. with_new_fact (Played (of.id i) (of.attempt i) (of.kind i) s.last) s

apart-of : (a b c : HeldAttempt) → IsOf a b → AreApart a c → AreApart b c
apart-of a b c of apart = record {
  ids = ap (λ n. n == c.id) of.id ∙ apart.ids;
  attempts = ap (λ n. n == c.attempt) of.attempt ∙ apart.attempts;
  rows = λ r t. apart.rows r (ap (λ l. has_row l r) (sym of.rows) ∙ t);
}

begun-way : (b : Bool) → IsOnTheWay (cond b Ready Calls)
begun-way true = tt
begun-way false = tt

-- what isn't refused

not-not : (b : Bool) → not b ≡ false → b ≡ true
not-not true e = refl
not-not false e = cc

some-there : (o : Option App) → is_none o ≡ false → is_some o ≡ true
some-there (Some a) e = refl
some-there None e = cc

serves-is : (serves : Stage → Bool) (s : State) (n : ℕ) (a : HeldAttempt) → in_slot n s.players ≡ Some a → stage_unless serves s.players n ≡ None → serves a.stage ≡ true
serves-is serves s n a e free =
    not-not (serves a.stage) (not-refused (not (serves a.stage)) (WrongStage a.stage)
    (sym (ap (λ o. option_and_then (λ (a : HeldAttempt). refuse_if (not (serves a.stage)) (WrongStage a.stage)) o) e) ∙ free))

stage-free : (a b c : Option Refusal) → first_some (a ∷ b ∷ c ∷ []) ≡ None → c ≡ None
stage-free a b c free = (none-first c [] (none-first b (c ∷ []) (none-first a (b ∷ c ∷ []) free).1).1).0

move-free : (a b c : Option Refusal) → first_some (a ∷ b ∷ c ∷ []) ≡ None → b ≡ None
move-free a b c free = (none-first b (c ∷ []) (none-first a (b ∷ c ∷ []) free).1).0

take-free : (a b c d e p q : Option Refusal) → first_some (a ∷ b ∷ c ∷ d ∷ e ∷ p ∷ q ∷ []) ≡ None → (p ≡ None) × (q ≡ None)
take-free a b c d e p q free =
    let first = none-first a (b ∷ c ∷ d ∷ e ∷ p ∷ q ∷ []) free in
    let second = none-first b (c ∷ d ∷ e ∷ p ∷ q ∷ []) first.1 in
    let third = none-first c (d ∷ e ∷ p ∷ q ∷ []) second.1 in
    let fourth = none-first d (e ∷ p ∷ q ∷ []) third.1 in
    let rest = none-first p (q ∷ []) (none-first e (p ∷ q ∷ []) fourth.1).1 in
    (rest.0, (none-first q [] rest.1).0)

pub orderly-apps : (c : Catalogue) → is_orderly c ≡ true → list_all is_app c.apps ≡ true
orderly-apps c orderly =
    let outside = list_all (λ (r : Resource). keys_apart r.rows) c.resources in
    let inside = list_all (λ (t : Opening). keys_apart t.rows) c.tables in
    let resources = are_apart (map (λ (r : Resource). r.name) c.resources) in
    let tables = are_apart (map (λ (t : Opening). t.name) c.tables) in
    let apps = are_apart (map (λ (a : App). a.name) c.apps) in
    let behind_outside = outside && list_all is_app c.apps in
    let behind_inside = inside && behind_outside in
    let behind_resources = resources && behind_inside in
    (and_parts outside _ (and_parts inside behind_outside (and_parts resources behind_inside (and_parts tables behind_resources (and_parts apps (tables && behind_resources) orderly).1).1).1).1).1

pub app-name : (c : Catalogue) (name : List ℕ) → is_orderly c ≡ true → is_some (app_named name c.apps) ≡ true → is_name name ≡ true
app-name c name good there = by (app_named name c.apps) refl there
  where
    by : (o : Option App) → app_named name c.apps ≡ o → is_some o ≡ true → is_name name ≡ true
    by None e t = cc
    by (Some a) e t =
        let is = found-passes is_app (λ (x : App). bytes_eq x.name name) c.apps a (orderly-apps c good) e in
        ap is_name (sym (found_name (λ (x : App). x.name) name c.apps a e)) ∙ (and_parts (is_name a.name) _ (and_parts (is_app_name a.name) _ is).0).0

-- the state with a switch more, of an application that is there
pub switch-settled : (read : Reader) (s : State) (app : List ℕ) (on : Bool) → IsSettled read s → is_orderly s.history.catalogue ≡ true → is_some (app_named app s.history.catalogue.apps) ≡ true → IsSettled read (with_new_fact (fact_switched s app on) s)
switch-settled read s app on settled good there =
    fact-settled read s (with_new_fact (fact_switched s app on) s) (fact_switched s app on) settled refl refl refl (λ h. refl) refl refl follows (held-switched s app on s.last settled.held)
  where
    follows : may_follow read s.history (fact_switched s app on) ≡ true
    follows =
        and-both (is_fact (fact_switched s app on)) _ (and-both (is_name app) _ (app-name s.history.catalogue app good there) (le-leb s.last 1000000000000 settled.in_time))
        (and-both (is_later s.last s.history) _
        (and-both (leb 1 (length s.history.facts)) _ (le-leb 1 (length s.history.facts) (legal-some read s.history.facts settled.legal)) (le-leb s.history.last s.last settled.not_ahead)) there)

-- what a slot holds, by the list
pub held-in : (s : State) (n : ℕ) (a : HeldAttempt) → in_slot n s.players ≡ Some a → Holds s (n - 1) a
held-in s n a e = in-list s.players n a e

-- stages

calls-is : (stage : Stage) → has_calls stage ≡ true → stage ≡ Calls
calls-is Calls e = refl
calls-is Ready e = cc
calls-is Failing e = cc
calls-is Commit e = cc
calls-is Abort e = cc

pub ended-is : (h : History) (last : ℕ) (a : HeldAttempt) (m : Message) (stage : Stage) → can_end stage ≡ true → HasCome h last a m stage → HasEnded h last a m stage
ended-is h last a m Ready e c = c
ended-is h last a m Failing e c = c
ended-is h last a m Calls e c = cc
ended-is h last a m Commit e c = cc
ended-is h last a m Abort e c = cc

-- The end of an attempt that is apart from all others but what stands in one slot.
module _ (read : Reader) (s : State) (settled : IsSettled read s) (a : HeldAttempt) (is : IsHeldIn s.history s.last a) (over : HasEnded s.history s.last a is.message a.stage)
    (n : ℕ) (apart : (j : ℕ) (c : HeldAttempt) → (j ≡ n - 1 → ⊥) → Holds s j c → AreApart a c) where
  abbrev pub why : Option Why
  why = why_ended s.history.catalogue a

  others : (j : ℕ) (c : HeldAttempt) → (j ≡ n - 1 → ⊥) → Holds s j c → IsHeldIn (with_fact (fact_of_end s.last a why) s.history) s.last c
  others j c other there =
      held-aside s.history (with_fact (fact_of_end s.last a why) s.history) c
      (end-aside s.history s.last a c why is (settled.held.held j c there) (apart j c other there)) s.last s.last (omega arith) (settled.held.held j c there)

  id : is_id a.id ≡ true
  id = let kept = message-kept s.history a.id is.message (settled-orderly read s settled) is.found in ap is_id (sym kept.1) ∙ kept.0.id

  later : is_later s.last s.history ≡ true
  later = and-both (leb 1 (length s.history.facts)) _ (le-leb 1 (length s.history.facts) (legal-some read s.history.facts settled.legal)) (le-leb s.history.last s.last settled.not_ahead)

  follows : may_follow read s.history (fact_of_end s.last a why) ≡ true
  follows = end-follows read s.history s.last a id (le-leb s.last 1000000000000 settled.in_time) later is over

  -- with its end in the slot
  pub end-settled : IsSettled read (with_player n (Some (ended_attempt why a)) (after_end why a s))
  end-settled =
      fact-settled read s (with_player n (Some (ended_attempt why a)) (after_end why a s)) (fact_of_end s.last a why) settled refl refl refl (plain-end read why s.last a) (moment-end why s.last a s.history) (catalogue-end why s.last a s.history) follows
      (held-set s (with_player n (Some (ended_attempt why a)) (after_end why a s)) n (Some (ended_attempt why a)) refl settled.held others own)
    where
      own : (b : HeldAttempt) → Some (ended_attempt why a) ≡ Some b
          → IsHeldIn (with_fact (fact_of_end s.last a why) s.history) s.last b × ((j : ℕ) (c : HeldAttempt) → (j ≡ n - 1 → ⊥) → Holds s j c → AreApart b c)
      own b e =
          let same : ended_attempt why a ≡ b = cc in
          subst (λ (b : HeldAttempt). IsHeldIn (with_fact (fact_of_end s.last a why) s.history) s.last b × ((j : ℕ) (c : HeldAttempt) → (j ≡ n - 1 → ⊥) → Holds s j c → AreApart b c)) same (
            ended-held s.history s.last a why is (ends-open s.history s.last a is.message a.stage over),
            λ j c other there. let ap = apart j c other there in record { ids = ap.ids; attempts = ap.attempts; rows = ap.rows },
          )

  -- and with nothing in the slot
  pub end-freed : IsSettled read (with_player n None (after_end why a s))
  end-freed =
      fact-settled read s (with_player n None (after_end why a s)) (fact_of_end s.last a why) settled refl refl refl (plain-end read why s.last a) (moment-end why s.last a s.history) (catalogue-end why s.last a s.history) follows
      (held-freed s (with_player n None (after_end why a s)) n refl settled.held others)

-- orders on attempts

module _ (read : Reader) (s : State) (settled : IsSettled read s) (x : State) where
  player-set : (n : ℕ) (o : Option HeldAttempt) → AreHeld (with_player n o s) → IsSettled read (with_player n o s)
  player-set n o held = record { history = settled.history; legal = settled.legal; not_ahead = settled.not_ahead; in_time = settled.in_time; recorded = settled.recorded; held = held }

  own-set : (n : ℕ) (a b : HeldAttempt) → IsHeldIn s.history s.last a → ((j : ℕ) (c : HeldAttempt) → (j ≡ n - 1 → ⊥) → Holds s j c → AreApart a c) → Some a ≡ Some b
      → IsHeldIn s.history s.last b × ((j : ℕ) (c : HeldAttempt) → (j ≡ n - 1 → ⊥) → Holds s j c → AreApart b c)
  own-set n a b is apart e =
      let same : a ≡ b = cc in
      subst (λ (b : HeldAttempt). IsHeldIn s.history s.last b × ((j : ℕ) (c : HeldAttempt) → (j ≡ n - 1 → ⊥) → Holds s j c → AreApart b c)) same (is, apart)

  -- what is told by an order that isn't refused
  taken : (app : List ℕ) (m : Message) → chosen_message s app ≡ Some m → app_not_built s app ≡ None → no_room_to_take s app ≡ None
      → IsHeldIn s.history s.last (new_attempt s m) × ((i : ℕ) (b : HeldAttempt) → Holds s i b → AreApart (new_attempt s m) b)
  taken app m e played room =
      let can = not-not _ (not-refused (not (can_play s.history.catalogue m)) NotBuilt (sym (ap (λ o. option_and_then (λ (m : Message). refuse_if (not (can_play s.history.catalogue m)) NotBuilt) o) e) ∙ played)) in
      let full : take_full s m ≡ None = sym (ap (λ o. option_and_then (take_full s) o) e) ∙ room in
      let number = none-first (no_number s) [] (none-first (log_full s (room_for s m)) (no_number s ∷ []) (none-first (journal_full s attempt_room) (log_full s (room_for s m) ∷ no_number s ∷ []) full).1).1 in
      taken-held s m (chosen-is s app m (settled-orderly read s settled) e)
      can
      (not-not _ (not-refused (not (is_attempt (next_attempt s))) (Full s.journal.size) number.0))

  takes : (n : ℕ) (app : List ℕ) → app_not_built s app ≡ None → no_room_to_take s app ≡ None → IsBetween s (take_step s n (chosen_message s app)) x → IsSettled read x
  takes n app played room between = by (chosen_message s app) refl between
    where
      by : (o : Option Message) → chosen_message s app ≡ o → IsBetween s (take_step s n o) x → IsSettled read x
      by None e between = still read s x settled between
      by (Some m) e between =
          let begun = taken app m e played room in
          one-end read s (with_player n (Some (new_attempt s m)) s) x settled
          (player-set n (Some (new_attempt s m)) (held-set s (with_player n (Some (new_attempt s m)) s) n (Some (new_attempt s m)) refl settled.held (λ j c other there. settled.held.held j c there)
          (λ b f. own-set n (new_attempt s m) b begun.0 (λ j c other there. begun.1 j c there) f))) between

  -- an attempt that is played in one order
  pub play-settled : (n : ℕ) (app : List ℕ) (m : Message) → chosen_message s app ≡ Some m → app_not_built s app ≡ None → no_room_to_take s app ≡ None → IsSettled read (play_in s n (new_attempt s m)).state
  play-settled n app m e played room =
      let begun = taken app m e played room in
      let comes = all-run s.history s.last (new_attempt s m) begun.0 (begun-way (0 == length (parts_of s.history.catalogue m.recording (kind_at m.place)))) in
      let b : HeldAttempt = work_on (parts_held s.history.catalogue (new_attempt s m)) (parts_held s.history.catalogue (new_attempt s m)) (new_attempt s m) in
      let ended = end-freed read s settled b comes.held comes.over n (λ j c other there. apart-of (new_attempt s m) b c comes.of (begun.1 j c there)) in
      subst (λ (t : State). IsSettled read (with_player n None t)) (same-end (new_attempt s m) b s (why_ended s.history.catalogue b) comes.of) ended

  plays : (n : ℕ) (app : List ℕ) → app_not_built s app ≡ None → no_room_to_take s app ≡ None → IsBetween s (play_step s n (chosen_message s app)) x → IsSettled read x
  plays n app played room between = by (chosen_message s app) refl between
    where
      by : (o : Option Message) → chosen_message s app ≡ o → IsBetween s (play_step s n o) x → IsSettled read x
      by None e between = still read s x settled between
      by (Some m) e between =
          one-end read s (play_in s n (new_attempt s m)).state x settled (play-settled n app m e played room) between

  apart-others : (n : ℕ) (a : HeldAttempt) → Holds s (n - 1) a → (j : ℕ) (c : HeldAttempt) → (j ≡ n - 1 → ⊥) → Holds s j c → AreApart a c
  apart-others n a h j c other there = settled.held.apart (n - 1) j a c (λ e. other (sym e)) h there

  works : (n : ℕ) → stage_unless has_calls s.players n ≡ None → IsBetween s (on_held s (work_in s n) (in_slot n s.players)) x → IsSettled read x
  works n stage between = by (in_slot n s.players) refl between
    where
      by : (o : Option HeldAttempt) → in_slot n s.players ≡ o → IsBetween s (on_held s (work_in s n) o) x → IsSettled read x
      by None e between = still read s x settled between
      by (Some a) e between =
          let h = held-in s n a e in
          let is = settled.held.held (n - 1) a h in
          let calls = calls-is a.stage (serves-is has_calls s n a e stage) in
          let c : IsCalling s.history s.last a is.message = subst (HasCome s.history s.last a is.message) calls is.come in
          let w = work-held s.history s.last a is c in
          let b : HeldAttempt = after_work (parts_held s.history.catalogue a) a in
          one-end read s (with_player n (Some b) s) x settled
          (player-set n (Some b) (held-set s (with_player n (Some b) s) n (Some b) refl settled.held (λ j c other there. settled.held.held j c there)
          (λ d f. own-set n b d w.held (λ j c other there. apart-of a b c w.of (apart-others n a h j c other there)) f))) between

  ends : (n : ℕ) → stage_unless can_end s.players n ≡ None → IsBetween s (on_held s (end_in s n) (in_slot n s.players)) x → IsSettled read x
  ends n stage between = by (in_slot n s.players) refl between
    where
      by : (o : Option HeldAttempt) → in_slot n s.players ≡ o → IsBetween s (on_held s (end_in s n) o) x → IsSettled read x
      by None e between = still read s x settled between
      by (Some a) e between =
          let h = held-in s n a e in
          let is = settled.held.held (n - 1) a h in
          let over = ended-is s.history s.last a is.message a.stage (serves-is can_end s n a e stage) is.come in
          one-end read s (with_player n (Some (ended_attempt (why_ended s.history.catalogue a) a)) (after_end (why_ended s.history.catalogue a) a s)) x settled
          (end-settled read s settled a is over n (apart-others n a h)) between

  phases : (n : ℕ) → IsBetween s (on_held s (phase_in s n) (in_slot n s.players)) x → IsSettled read x
  phases n between = by (in_slot n s.players) between
    where
      by : (o : Option HeldAttempt) → IsBetween s (on_held s (phase_in s n) o) x → IsSettled read x
      by None between = still read s x settled between
      by (Some a) between =
          one-end read s (with_player n None s) x settled
          (player-set n None (held-freed s (with_player n None s) n refl settled.held (λ j c other there. settled.held.held j c there))) between

  switches : (app : List ℕ) (on : Bool) → is_orderly s.history.catalogue ≡ true → app_unknown s.history.catalogue app ≡ None → IsBetween s (switch_step s app on) x → IsSettled read x
  switches app on good known between =
      one-end read s (with_new_fact (fact_switched s app on) s) x settled
      (switch-settled read s app on settled good (some-there (app_named app s.history.catalogue.apps) (not-refused (is_none (app_named app s.history.catalogue.apps)) UnknownApp known))) between

  moves : (batch : ℕ) (from to : List ℕ) → is_orderly s.history.catalogue ≡ true → refuse_if (not (is_between 1 1000 batch)) BadBatch ≡ None → IsBetween s (move_step s batch (route s.history.catalogue from to)) x → IsSettled read x
  moves batch from to good batched between = by (route s.history.catalogue from to) refl between
    where
      size : (leb 1 batch ≡ true) × (leb batch 1000 ≡ true)
      size = and_parts (leb 1 batch) _ (not-not (is_between 1 1000 batch) (not-refused (not (is_between 1 1000 batch)) BadBatch batched))

      by : (o : Result Route Refusal) → route s.history.catalogue from to ≡ o → IsBetween s (move_step s batch o) x → IsSettled read x
      by (Err refusal) e between = still read s x settled between
      by (Ok r) e between =
          let all = move-settled read s batch r settled (route-is s.history.catalogue from to r (orderly-apps s.history.catalogue good) e) (leb-true 1 batch size.0) (leb-true batch 1000 size.1) in
          ⊎_elim (λ e. subst (λ (y : State). IsSettled read y) (sym e) settled) (λ rest. ⊎_elim (λ a. all.each x a) (λ e. subst (λ (y : State). IsSettled read y) (sym e) all.last) rest) between

-- the orders that may add a message
abbrev pub Sends : Act → Type 0
Sends (Send app component calls) = Unit {0}
Sends (CommitSlot n) = Unit {0}
Sends _ = ⊥

carried-out : (read : Reader) (s : State) (act : Act) → refusal s act ≡ None → (Sends act → length s.history.messages + 1 < 18446744073709551616) → IsSettled read s → is_orderly s.history.catalogue ≡ true → (x : State) → IsBetween s (step_of s act) x → IsSettled read x
carried-out read s (Send app component calls) free few settled good x between = sends-all read s settled good x settled.in_time (few tt) app component calls between
carried-out read s (Queues app) free few settled good x between = still read s x settled between
carried-out read s (OpenSlot n app component) free few settled good x between = opens read s settled good x n app component (begun s.history.catalogue app component) refl between
carried-out read s (CallSlot n call) free few settled good x between = calls read s settled good x n call (in_slot n s.clients) refl between
carried-out read s (CommitSlot n) free few settled good x between = commits read s settled good x settled.in_time (few tt) n (in_slot n s.clients) refl between
carried-out read s (CancelSlot n) free few settled good x between = cancels read s settled good x n (in_slot n s.clients) between
carried-out read s (Take n app) free few settled good x between = let r = take-free (out_of_slots n) (player_busy s.players n) (app_unknown s.history.catalogue app) (app_off s app) (app_none_due s app) (app_not_built s app) (no_room_to_take s app) (sym (refusal-take s n app) ∙ free) in takes read s settled x n app r.0 r.1 between
carried-out read s (Work n) free few settled good x between = works read s settled x n (stage-free (out_of_slots n) (idle s.players n) (stage_unless has_calls s.players n) (sym (refusal-work s n) ∙ free)) between
carried-out read s (End n) free few settled good x between = ends read s settled x n (stage-free (out_of_slots n) (idle s.players n) (stage_unless can_end s.players n) (sym (refusal-end s n) ∙ free)) between
carried-out read s (Phase n) free few settled good x between = phases read s settled x n between
carried-out read s (Play n app) free few settled good x between = let r = take-free (out_of_slots n) (player_busy s.players n) (app_unknown s.history.catalogue app) (app_off s app) (app_none_due s app) (app_not_built s app) (no_room_to_take s app) (sym (refusal-play s n app) ∙ free) in plays read s settled x n app r.0 r.1 between
carried-out read s (Move from to batch) free few settled good x between = let r = move-free (if_refused (route s.history.catalogue from to)) (refuse_if (not (is_between 1 1000 batch)) BadBatch) (no_room_to_move s batch (route s.history.catalogue from to)) (sym (refusal-move s from to batch) ∙ free) in moves read s settled x batch from to good r between
carried-out read s (Switch app on) free few settled good x between = switches read s settled x app on good (none-first (app_unknown s.history.catalogue app) (journal_full s (fact_room (fact_switched s app on)) ∷ []) (sym (refusal-switch s app on) ∙ free)).0 between
carried-out read s (Table name) free few settled good x between = still read s x settled between
carried-out read s (Outside name) free few settled good x between = still read s x settled between

-- the states between, from a state that differs from the next in its last moment alone
first-or : (read : Reader) (s m x : State) (t : Step) → IsSettled read s → ((y : State) → IsBetween m t y → IsSettled read y) → IsBetween s t x → IsSettled read x
first-or read s m x t settled next between = ⊎_elim (λ e. subst (λ (y : State). IsSettled read y) (sym e) settled) (λ rest. next x (inr rest)) between

answers : (read : Reader) (s x : State) (order : Order) (o : Option Refusal) → refusal (at_moment order.at s) order.act ≡ o → order.at ≤ 1000000000000 → (Sends order.act → length s.history.messages + 1 < 18446744073709551616) → IsSettled read s → is_orderly s.history.catalogue ≡ true → IsBetween s (answer s (at_moment order.at s) order.act o) x → IsSettled read x
answers read s x order None free soon few settled good between =
    let m : State = at_moment order.at s in
    first-or read s m x (step_of m order.act) settled (carried-out read m order.act free few (moment-settled read order.at s soon settled) good) between
answers read s x order (Some r) free soon few settled good between = by_line (is_of_line r) between
  where
    by_line : (b : Bool) → (x ≡ s) ⊎ (⊥ ⊎ (x ≡ cond b s (at_moment order.at s))) → IsSettled read x
    by_line true between = still read s x settled between
    by_line false between = ⊎_elim (λ e. subst (λ (y : State). IsSettled read y) (sym e) settled) (λ rest. ⊎_elim (λ a. absurd a) (λ e. subst (λ (y : State). IsSettled read y) (sym e) (moment-settled read order.at s soon settled)) rest) between

-- one id more has to be a u64 only where a message may be added
pub order-settled : (read : Reader) (s x : State) (order : Order) → ReadsOrderly read → order.at ≤ 1000000000000 → (Sends order.act → length s.history.messages + 1 < 18446744073709551616) → IsSettled read s → IsBetween s (step s order) x → IsSettled read x
unfolding step
order-settled read s x order reads soon few settled between =
    answers read s x order (refusal (at_moment order.at s) order.act) refl soon few settled (subst (λ (h : History). is_orderly h.catalogue ≡ true) (sym settled.history) (orderly-history read s.history.facts reads)) between

pub step-settled : (read : Reader) (s x : State) (order : Order) → ReadsOrderly read → IsInRange order s → IsSettled read s → IsBetween s (step s order) x → IsSettled read x
step-settled read s x order reads range settled between = order-settled read s x order reads range.at (λ sends. range.ids) settled between
