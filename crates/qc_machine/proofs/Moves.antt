-- A move keeps histories legal, batch by batch.
use Rattle.std.proofs.Common.{◌≡◌, ◌∙◌, ⊎_elim, ℕ, ◌+◌, ◌≤◌, ◌==◌, leb, zero, suc, List, [], ◌∷◌, ◌++◌, All, Bool, true, false, not, cond, ◌&&◌, ◌||◌, length, map, filter, count_by, take, drop, refl, sym, ap, subst, arith, true≢false, Option, Some, None, Ok, option_map, eq-eqb, le-leb, leb-true, ltb, length-take, take-append-drop}
use Rattle.std.specs.List.{list_any, list_all}
use Rattle.std.specs.Option.{option_map_or, option_or, ok_or}
use Rattle.std.specs.Str.{bytes_eq}
use Rattle.std.proofs.lemmas.Bool.{and_parts, eqb-false, ne_eqb, or_from, or_parts, not-true, not_from_false, false_from_ne_true, ltb-true, ltb-false}
use Rattle.std.proofs.lemmas.List.Elements.{All-weaker}
use Rattle.std.proofs.lemmas.List.Folds.{list_all-append, list_any-append}
use Rattle.std.proofs.lemmas.Option.{same_Some}
use Rattle.qc_base.specs.Names.{is_name, is_app_name}
use Rattle.qc_base.specs.declared.fact.Fact.{Fact}
use Rattle.qc_base.specs.declared.fact.Fact.TheVariants.{Moved}
use Rattle.qc_base.specs.declared.fact.Place.{Place}
use Rattle.qc_base.specs.declared.fact.Place.TheVariants.{Queue, Dead, Consumed}
use Rattle.qc_base.specs.declared.message.Message.{Message}
use Rattle.qc_base.specs.declared.queue.Waiting.{Waiting}
use Rattle.qc_base.specs.Messages.{in_queue, is_consumed, listing, message_of}
use Rattle.qc_base.specs.Spelling.{is_between, is_fact, is_id, is_moment}
use Rattle.qc_protocol.specs.Texts.{queue_name}
use Rattle.qc_protocol.specs.declared.reply.Refusal.TheVariants.{UnknownQueue}
use Rattle.qc_protocol.specs.declared.reply.Side.TheVariants.{From, To}
use Rattle.qc_catalogue.specs.declared.catalogue.App.{App}
use Rattle.qc_catalogue.specs.declared.catalogue.Catalogue.{Catalogue}
use Rattle.qc_catalogue.specs.Orderly.{is_app}
use Rattle.qc_recorder.specs.Fits.{and_then}
use Rattle.qc_recorder.proofs.Found.{found-passes}
use Rattle.qc_rows.specs.Holdings.{is_held}
use Rattle.qc_store.proofs.Listings.{count-cons}
use Rattle.qc_store.proofs.Tallying.{one_if}
use Rattle.qc_machine.specs.Attempts.{holdings}
use Rattle.qc_machine.specs.History.{Reader, is_live_of, is_movable, are_distinct, is_later, may_follow}
use Rattle.qc_machine.specs.Holding.{Holds}
use Rattle.qc_machine.specs.Laws.{IsSettled}
use Rattle.qc_machine.specs.Moving.{AreMovable, QueueOf, Route, queue_number, queue_named, route_from, route, ids_moved, cut, facts_moved, with_new_facts, behind_each}
use Rattle.qc_machine.specs.Orderly.{IsMessageOf, IsOrderly}
use Rattle.qc_machine.specs.State.{State, HeldAttempt, with_new_fact}
use Rattle.qc_machine.specs.Steps.{Among}
use Rattle.qc_machine.proofs.Bools.{and-both}
use Rattle.qc_machine.proofs.Counts.{count-filter, count-narrower, count-same, sum-zero}
use Rattle.qc_machine.proofs.Following.{fact-settled}
use Rattle.qc_machine.proofs.Held.{held-moved}
use Rattle.qc_machine.proofs.Histories.{legal-some}
use Rattle.qc_machine.proofs.Keeping.{settled-orderly}
use Rattle.qc_machine.proofs.Listed.{listing-count}
use Rattle.qc_machine.proofs.Moved.{may-move-behind}
use Rattle.qc_machine.proofs.Numbered.{has_id, each-found, rises, numbered-once, numbered-within}
use Rattle.qc_machine.proofs.PlayerSlots.{id-free}

-- ids that may be moved in a state

distinct-front : (xs ys : List ℕ) → are_distinct (xs ++ ys) ≡ true → are_distinct xs ≡ true
distinct-front [] ys e = refl
distinct-front (x ∷ xs) ys e =
    let parts = and_parts (not (list_any (λ n. n == x) (xs ++ ys))) _ e in
    let none = or_parts (list_any (λ n. n == x) xs) _ (sym (list_any-append (λ n. n == x) xs ys) ∙ not-true _ parts.0) in
    and-both (not (list_any (λ n. n == x) xs)) _ (not_from_false _ none.0) (distinct-front xs ys parts.1)

distinct-back : (xs ys : List ℕ) → are_distinct (xs ++ ys) ≡ true → are_distinct ys ≡ true
distinct-back [] ys e = e
distinct-back (x ∷ xs) ys e = distinct-back xs ys (and_parts (not (list_any (λ n. n == x) (xs ++ ys))) _ e).1

pub movable-split : (s : State) (app xs ys : List ℕ) → AreMovable s app (xs ++ ys) → AreMovable s app xs × AreMovable s app ys
movable-split s app xs ys m =
    let live = and_parts (list_all (is_movable app s.history.messages) xs) _ (sym (list_all-append (is_movable app s.history.messages) xs ys) ∙ m.live) in
    let limits = and_parts (list_all is_id xs) _ (sym (list_all-append is_id xs ys) ∙ m.limits) in
    let none : (i : ℕ) (a : HeldAttempt) → Holds s i a → (list_any (λ id. id == a.id) xs ≡ false) × (list_any (λ id. id == a.id) ys ≡ false) =
    λ i a there. or_parts (list_any (λ id. id == a.id) xs) _ (sym (list_any-append (λ id. id == a.id) xs ys) ∙ m.free i a there) in (
      record { live = live.0; distinct = distinct-front xs ys m.distinct; limits = limits.0; free = λ i a there. (none i a there).0 },
      record { live = live.1; distinct = distinct-back xs ys m.distinct; limits = limits.1; free = λ i a there. (none i a there).1 },
    )

pub movable-behind : (s : State) (app of : List ℕ) (queue at : ℕ) (batch ids : List ℕ) → AreMovable s app ids → AreMovable (with_new_fact (Moved of queue at batch) s) app ids
movable-behind s app of queue at batch ids m = record { live = on ids m.live; distinct = m.distinct; limits = m.limits; free = m.free }
  where
    on : (ids : List ℕ) → list_all (is_movable app s.history.messages) ids ≡ true → list_all (is_movable app (with_new_fact (Moved of queue at batch) s).history.messages) ids ≡ true
    on [] e = refl
    on (id ∷ ids) e =
        let parts = and_parts (is_movable app s.history.messages id) _ e in
        and-both (is_movable app (with_new_fact (Moved of queue at batch) s).history.messages id) _ (may-move-behind s.history app id of queue at batch parts.0) (on ids parts.1)

-- one batch

pub batch-settled : (read : Reader) (s : State) (app : List ℕ) (queue at : ℕ) (ids : List ℕ) → IsSettled read s → at ≡ s.last → is_name app ≡ true → queue ≤ 6 → AreMovable s app ids → 1 ≤ length ids → length ids ≤ 1000
    → IsSettled read (with_new_fact (Moved app queue at ids) s)
batch-settled read s app queue at ids settled now named within m some few =
    fact-settled read s (with_new_fact (Moved app queue at ids) s) (Moved app queue at ids) settled refl refl refl (λ h. refl) now refl follows (held-moved s app queue at ids m.free settled.held)
  where
    soon : at ≤ 1000000000000
    soon = omega (arith, now, settled.in_time)

    limits : is_fact (Moved app queue at ids) ≡ true
    limits =
        and-both (is_name app) _ named
        (and-both (leb queue 6) _ (le-leb queue 6 within)
        (and-both (is_moment at) _ (le-leb at 1000000000000 soon)
        (and-both (is_between 1 1000 (length ids)) _ (and-both (leb 1 (length ids)) _ (le-leb 1 (length ids) some) (le-leb (length ids) 1000 few)) m.limits)))

    follows : may_follow read s.history (Moved app queue at ids) ≡ true
    follows =
        and-both (is_fact (Moved app queue at ids)) _ limits
        (and-both (is_later at s.history) _
        (and-both (leb 1 (length s.history.facts)) _ (le-leb 1 (length s.history.facts) (legal-some read s.history.facts settled.legal)) (le-leb s.history.last at (omega (arith, now, settled.not_ahead))))
        (and-both (are_distinct ids) _ m.distinct m.live))

-- all batches, and the states behind each of them
pub record AreSettled (read : Reader) (facts : List Fact) (s : State) : Type 0 where
  pub last : IsSettled read (with_new_facts facts s)
  pub each : (x : State) → Among (behind_each facts s) x → IsSettled read x

module _ (read : Reader) (app : List ℕ) (queue at size : ℕ) (named : is_name app ≡ true) (within : queue ≤ 6) (some : 1 ≤ size) (few : size ≤ 1000) where
  none-left : (s : State) → IsSettled read s → AreSettled read [] s
  none-left s settled = record { last = settled; each = λ x a. absurd a }

  pub cut-settled : (n : ℕ) (s : State) (ids : List ℕ) → IsSettled read s → at ≡ s.last → AreMovable s app ids → AreSettled read (map (λ batch. Moved app queue at batch) (cut n size ids)) s
  cut-settled zero s ids settled now m = none-left s settled
  cut-settled (suc n) s [] settled now m = none-left s settled
  cut-settled (suc n) s (id ∷ ids) settled now m =
      let all : List ℕ = id ∷ ids in
      let batch : List ℕ = take size all in
      let rest : List ℕ = drop size all in
      let split = movable-split s app batch rest (subst (AreMovable s app) (sym (take-append-drop size all)) m) in
      let one : IsSettled read (with_new_fact (Moved app queue at batch) s) = batch-settled read s app queue at batch settled now named within split.0 (omega (arith, length-take size all, some)) (omega (arith, length-take size all, few)) in
      let more = cut-settled n (with_new_fact (Moved app queue at batch) s) rest one now (movable-behind s app app queue at batch rest split.1) in
      record {
        last = more.last;
        each = λ x a. ⊎_elim (λ (e : x ≡ with_new_fact (Moved app queue at batch) s). subst (λ (y : State). IsSettled read y) (sym e) one) (λ rest. more.each x rest) a;
      }

-- what is in a queue may be moved

none-all : (p : ℕ → Bool) (ids : List ℕ) → count_by (λ id. not (p id)) ids ≡ 0 → list_all p ids ≡ true
none-all p [] e = refl
none-all p (id ∷ ids) e = by (p id) refl (none-all p ids)
  where
    counted : one_if (not (p id)) + count_by (λ n. not (p n)) ids ≡ 0
    counted = sym (count-cons (λ n. not (p n)) id ids) ∙ e

    by : (b : Bool) → p id ≡ b → (count_by (λ n. not (p n)) ids ≡ 0 → list_all p ids ≡ true) → (b && list_all p ids) ≡ true
    by true t rest = rest (omega (arith, counted))
    by false t rest = absurd (omega (arith, counted, ap (λ c. one_if (not c)) t))

count-none : (p : Message → Bool) (ms : List Message) → All (λ (m : Message). p m ≡ false) ms → count_by p ms ≡ 0
count-none p ms none = count-same p (λ (m : Message). false) ms none ∙ sum-zero ms

any-counted : (n : ℕ) (ids : List ℕ) → list_any (λ m. m == n) ids ≡ true → 1 ≤ count_by (λ m. m == n) ids
any-counted n [] e = absurd (true≢false (sym e))
any-counted n (id ∷ ids) e = by (id == n) refl (any-counted n ids) e
  where
    by : (b : Bool) → (id == n) ≡ b → (list_any (λ m. m == n) ids ≡ true → 1 ≤ count_by (λ m. m == n) ids) → (b || list_any (λ m. m == n) ids) ≡ true → 1 ≤ count_by (λ m. m == n) (id ∷ ids)
    by true t rest u = omega (arith, count-cons (λ m. m == n) id ids, ap one_if t)
    by false t rest u = omega (arith, count-cons (λ m. m == n) id ids, rest u)

once-distinct : (ids : List ℕ) → ((n : ℕ) → count_by (λ m. m == n) ids ≤ 1) → are_distinct ids ≡ true
once-distinct [] once = refl
once-distinct (id ∷ ids) once =
    let none : list_any (λ m. m == id) ids ≡ false = false_from_ne_true (list_any (λ m. m == id) ids) (λ t. absurd (omega (arith, once id, count-cons (λ m. m == id) id ids, ap one_if (eq-eqb id id refl), any-counted id ids t))) in
    and-both (not (list_any (λ m. m == id) ids)) _ (not_from_false _ none) (once-distinct ids (λ n. omega (arith, once n, count-cons (λ m. m == n) id ids)))

all-passed : (p : ℕ → Bool) (ids : List ℕ) → list_all p (filter p ids) ≡ true
all-passed p [] = refl
all-passed p (id ∷ ids) = by (p id) refl (all-passed p ids)
  where
    by : (b : Bool) → p id ≡ b → list_all p (filter p ids) ≡ true → list_all p (cond b (id ∷ filter p ids) (filter p ids)) ≡ true
    by true e rest = and-both (p id) _ e rest
    by false e rest = rest

waits-unspent : (queue : ℕ) (p : Place) → in_queue queue p ≡ true → is_consumed p ≡ false
waits-unspent queue (Queue q tries due) e = refl
waits-unspent queue Dead e = refl
waits-unspent queue (Consumed attempt) e = absurd (true≢false (sym e))

none-held : (s : State) (i : ℕ) (a : HeldAttempt) → Holds s i a → (ids : List ℕ) → list_all (λ id. not (is_held (holdings s) id)) ids ≡ true → list_any (λ id. id == a.id) ids ≡ false
none-held s i a there [] all = refl
none-held s i a there (id ∷ ids) all =
    let parts = and_parts (not (is_held (holdings s) id)) _ all in
    let other : (a.id == id) ≡ false = id-free s id (not-true _ parts.0) i a there in
    or_from (id == a.id) _ (ne_eqb id a.id (λ e. eqb-false a.id id other (sym e))) (none-held s i a there ids parts.1)

module _ (read : Reader) (s : State) (settled : IsSettled read s) (q : QueueOf) where
  orderly : IsOrderly s.history
  orderly = settled-orderly read s settled

  abbrev there : List ℕ
  there = map (λ (w : Waiting). w.id) (listing q.app q.queue s.history.messages)

  abbrev is_free : ℕ → Bool
  is_free id = not (is_held (holdings s) id)

  abbrev stands : (ℕ → Bool) → Message → Bool
  stands p m = bytes_eq m.recording.app q.app && (in_queue q.queue m.place && p m.id)

  -- no more of what is moved passes a test than of the messages in the queue
  no-more : (p : ℕ → Bool) → count_by p (ids_moved s q) ≤ count_by (stands p) s.history.messages
  no-more p = omega (
    arith,
    count-filter p is_free there,
    count-narrower (λ id. is_free id && p id) p (λ id e. (and_parts (is_free id) _ e).1) there,
    listing-count p q.app q.queue s.history.messages (rises 1 s.history.messages orderly.numbered),
  )

  passed : (p : ℕ → Bool) → All (λ (m : Message). stands (λ id. not (p id)) m ≡ false) s.history.messages → list_all p (ids_moved s q) ≡ true
  passed p none = none-all p (ids_moved s q) (omega (arith, no-more (λ id. not (p id)), count-none (stands (λ id. not (p id))) s.history.messages none))

  live-there : (m : Message) → message_of m.id s.history.messages ≡ Some m → stands (λ id. not (is_movable q.app s.history.messages id)) m ≡ false
  live-there m found = by (bytes_eq m.recording.app q.app) refl (in_queue q.queue m.place) refl
    where
      by : (own : Bool) → bytes_eq m.recording.app q.app ≡ own → (here : Bool) → in_queue q.queue m.place ≡ here → (own && (here && not (is_movable q.app s.history.messages m.id))) ≡ false
      by false e here f = refl
      by true e false f = refl
      by true e true f = ap not (ap (λ o. option_map_or (is_live_of q.app) o false) found ∙ and-both (bytes_eq m.recording.app q.app) _ e (ap not (waits-unspent q.queue m.place f)))

  id-there : (m : Message) → IsMessageOf s.history.catalogue m → stands (λ id. not (is_id id)) m ≡ false
  id-there m is = by (bytes_eq m.recording.app q.app) (in_queue q.queue m.place)
    where
      by : (own here : Bool) → (own && (here && not (is_id m.id))) ≡ false
      by false here = refl
      by true false = refl
      by true true = ap not is.id

  most-once : (n : ℕ) → count_by (has_id n) s.history.messages ≤ 1
  most-once n = by (ltb 0 (count_by (has_id n) s.history.messages)) refl
    where
      by : (b : Bool) → ltb 0 (count_by (has_id n) s.history.messages) ≡ b → count_by (has_id n) s.history.messages ≤ 1
      by true e =
          let within = numbered-within n 1 s.history.messages orderly.numbered (omega (arith, ltb-true _ _ e)) in
          omega (arith, numbered-once n 1 s.history.messages orderly.numbered within.0 within.1)
      by false e = omega (arith, ltb-false _ _ e)

  moved-once : (n : ℕ) → count_by (λ id. id == n) (ids_moved s q) ≤ 1
  moved-once n = omega (
    arith,
    no-more (λ id. id == n),
    count-narrower (stands (λ id. id == n)) (has_id n) (λ m e. (and_parts (in_queue q.queue m.place) _ (and_parts (bytes_eq m.recording.app q.app) _ e).1).1) s.history.messages,
    most-once n,
  )

  pub moved-movable : AreMovable s q.app (ids_moved s q)
  moved-movable = record {
    live = passed (is_movable q.app s.history.messages) (All-weaker (λ (m : Message). message_of m.id s.history.messages ≡ Some m) (λ (m : Message). stands (λ id. not (is_movable q.app s.history.messages id)) m ≡ false) live-there s.history.messages (each-found 1 s.history.messages orderly.numbered));
    distinct = once-distinct (ids_moved s q) moved-once;
    limits = passed is_id (All-weaker (IsMessageOf s.history.catalogue) (λ (m : Message). stands (λ id. not (is_id id)) m ≡ false) id-there s.history.messages orderly.messages);
    free = λ i a h. none-held s i a h (ids_moved s q) (all-passed is_free there);
  }

-- the queues of a route are an application's

number-within : (app name : List ℕ) (q : ℕ) → queue_number app name ≡ Some q → q ≤ 6
number-within app name q e = leb-true q 6 (found-passes (λ n. leb n 6) (λ n. bytes_eq (queue_name app n) name) (0 ∷ 1 ∷ 2 ∷ 3 ∷ 4 ∷ 5 ∷ 6 ∷ []) q refl e)

queue-is : (name : List ℕ) (apps : List App) (q : QueueOf) → list_all is_app apps ≡ true → queue_named name apps ≡ Some q → is_name q.app ≡ true
queue-is name [] q good e = cc
queue-is name (a ∷ apps) q good e = by (queue_number a.name name) (queue-is name apps q parts.1) e
  where
    parts : (is_app a ≡ true) × (list_all is_app apps ≡ true)
    parts = and_parts (is_app a) _ good

    by : (o : Option ℕ) → (queue_named name apps ≡ Some q → is_name q.app ≡ true) → option_or (option_map (λ n. record { app = a.name; queue = n }) o) (queue_named name apps) ≡ Some q → is_name q.app ≡ true
    by None on f = on f
    by (Some n) on f =
        let same : record { app = a.name; queue = n } ≡ q = same_Some (record { app = a.name; queue = n }) q f in
        subst (λ (x : QueueOf). is_name x.app ≡ true) same (and_parts (is_name a.name) _ (and_parts (is_app_name a.name) _ parts.0).0).0

pub record IsRoute (r : Route) : Type 0 where
  pub named : is_name r.source.app ≡ true
  pub within : r.to ≤ 6

pub route-is : (c : Catalogue) (from to : List ℕ) (r : Route) → list_all is_app c.apps ≡ true → route c from to ≡ Ok r → IsRoute r
route-is c from to r good e = by (queue_named from c.apps) refl e
  where
    ends : (source : QueueOf) → is_name source.app ≡ true → (o : Option ℕ) → queue_number source.app to ≡ o → ok_or (option_map (λ n. record { source = source; to = n }) o) (UnknownQueue To) ≡ Ok r → IsRoute r
    ends source named None f e = cc
    ends source named (Some n) f e =
        let same : record { source = source; to = n } ≡ r = cc in
        subst IsRoute same (record { named = named; within = number-within source.app to n f })

    by : (o : Option QueueOf) → queue_named from c.apps ≡ o → and_then (ok_or o (UnknownQueue From)) (route_from to) ≡ Ok r → IsRoute r
    by None f e = cc
    by (Some source) f e = ends source (queue-is from c.apps source good f) (queue_number source.app to) refl e

-- a whole move
pub move-settled : (read : Reader) (s : State) (batch : ℕ) (r : Route) → IsSettled read s → IsRoute r → 1 ≤ batch → batch ≤ 1000 → AreSettled read (facts_moved s batch r) s
move-settled read s batch r settled is some few =
    cut-settled read r.source.app r.to s.last batch is.named is.within some few (length (ids_moved s r.source)) s (ids_moved s r.source) settled refl (moved-movable read s settled r.source)
