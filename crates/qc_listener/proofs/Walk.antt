-- A walk over messages in queues, in the order in which they are due: what it has passed, and what it finds.
use Rattle.std.proofs.Common.{◌≡◌, ◌∙◌, ℕ, ◌+◌, ◌<◌, ◌≤◌, ◌==◌, nat_le, nat_lt, List, [], ◌∷◌, ◌++◌, Bool, true, false, not, ◌&&◌, All, Contains, length, get_or, map, filter, count_by, Option, Some, None, option_and_then, refl, sym, ap, subst, arith, true≢false, append_assoc, append-nil, ⊎_elim}
use Rattle.std.specs.List.{list_any}
use Rattle.std.specs.Str.{bytes_eq}
use Rattle.std.proofs.lemmas.Bool.{leb-true, lt-leb, ltb-true, ltb-false, lt-ltb, le-ltb, and_parts, not-true}
use Rattle.std.proofs.lemmas.Bool.Decides.{nat_tests}
use Rattle.std.proofs.lemmas.Option.{same_Some, none-some}
use Rattle.std.proofs.lemmas.List.Elements.{All-nil, All-map, All-filter, All-contains, filter_passes}
use Rattle.std.proofs.lemmas.List.Sums.{length-filter}
use Rattle.std.proofs.lemmas.List.Folds.{list_any_none, list_any_at}
use Rattle.qc_base.specs.declared.fact.Place.{Place}
use Rattle.qc_base.specs.declared.fact.Place.TheVariants.{Queue, Dead, Consumed}
use Rattle.qc_base.specs.declared.message.Message.{Message}
use Rattle.qc_base.specs.declared.queue.Waiting.{Waiting}
use Rattle.qc_base.specs.Messages.{comes_before, of_app, waiting_as}
use Rattle.qc_store.specs.Stored.{IdsRise}
use Rattle.qc_store.specs.Due.{is_queued, is_behind, is_before, first_by, sooner, queued_as, queued_messages, next_due}
use Rattle.qc_store.proofs.First.{IsFirst, FirstOf, passed_over, looked_at, first_is, waiting}
use Rattle.qc_store.proofs.InOrder.{find_only}
use Rattle.qc_listener.specs.Choice.{is_due, due_of}
use Rattle.qc_listener.proofs.Lists.{agree, apart, count_none, filter_has, filter_none, map_has, one_differs, one_if, rises_filter}

-- there is a first of those that pass, or none passes

scan : (test : Message → Bool) (done rest : List Message) (o : Option Message) → FirstOf test done o → (p : Option Message) × FirstOf test (done ++ rest) p
scan test done [] o h = (o, subst (λ (l : List Message). FirstOf test l o) (sym (append-nil done)) h)
scan test done (x ∷ rest) o h = by (test x) refl (scan test (done ++ x ∷ []) rest)
  where
    on : (p : Option Message) × FirstOf test ((done ++ x ∷ []) ++ rest) p → (p : Option Message) × FirstOf test (done ++ x ∷ rest) p
    on found = (found.0, subst (λ (l : List Message). FirstOf test l found.0) (append_assoc done (x ∷ []) rest) found.1)

    by : (b : Bool) → test x ≡ b → ((q : Option Message) → FirstOf test (done ++ x ∷ []) q → (p : Option Message) × FirstOf test ((done ++ x ∷ []) ++ rest) p) → (p : Option Message) × FirstOf test (done ++ x ∷ rest) p
    by true t go = on (go (Some (sooner o x)) (looked_at test done x o t h))
    by false f go = on (go o (passed_over test done x o f h))

first_in : (test : Message → Bool) (ms : List Message) → (o : Option Message) × FirstOf test ms o
first_in test ms = scan test [] ms None (All-nil (λ (x : Message). test x ≡ false))

-- what the store tells next

untrue : (b : Bool) → b ≡ true → b ≡ false → ⊥
untrue b t f = true≢false (sym t ∙ f)

queued_there : (id : ℕ) (place : Place) → is_queued place ≡ true → queued_as id place ≡ None → ⊥
queued_there id (Queue q t d) e f = none-some _ (sym f)
queued_there id Dead e f = true≢false (sym e)
queued_there id (Consumed a) e f = true≢false (sym e)

as_queued : (id : ℕ) (place : Place) (n q t d : ℕ) → queued_as id place ≡ Some (n, q, t, d) → (id ≡ n) × (place ≡ Queue q t d)
as_queued id (Queue q' t' d') n q t d e =
    let parts : (id, q', t', d') ≡ (n, q, t, d) = same_Some (id, q', t', d') (n, q, t, d) e in
    (ap (λ (p : ℕ × ℕ × ℕ × ℕ). p.0) parts, λ i. Queue (parts i).1 (parts i).2 (parts i).3)
as_queued id Dead n q t d e = absurd (none-some _ e)
as_queued id (Consumed a) n q t d e = absurd (none-some _ e)

module _ (app : List ℕ) (after : Option (ℕ × ℕ)) (ms : List Message) (up : IdsRise ms) where
  abbrev queued : List Message
  queued = queued_messages app ms

  pub queued_rise : IdsRise queued
  queued_rise = rises_filter (λ (m : Message). is_queued m.place) (of_app app ms) (rises_filter (λ (m : Message). bytes_eq m.recording.app app) ms up)

  first_told : (o : Option Message) → FirstOf (is_behind after) queued o → next_due app after ms ≡ option_and_then (λ (m : Message). queued_as m.id m.place) o
  first_told o h = ap (option_and_then (λ (m : Message). queued_as m.id m.place)) (first_is (is_behind after) queued queued_rise o h)

  stands : (m : Message) → Contains queued m → is_queued m.place ≡ true
  stands m c = All-contains (λ (x : Message). is_queued x.place ≡ true) queued m (filter_passes (λ (x : Message). is_queued x.place) (of_app app ms)) c

  pub next_none : next_due app after ms ≡ None → All (λ (x : Message). is_behind after x ≡ false) queued
  next_none e = let found = first_in (is_behind after) queued in by found.0 found.1
    where
      by : (o : Option Message) → FirstOf (is_behind after) queued o → All (λ (x : Message). is_behind after x ≡ false) queued
      by None h = h
      by (Some m) h = absurd (queued_there m.id m.place (stands m h.there) (sym (first_told (Some m) h) ∙ e))

  pub next_some : (n q t d : ℕ) → next_due app after ms ≡ Some (n, q, t, d) → (m : Message) × IsFirst (is_behind after) queued m × (m.id ≡ n) × (m.place ≡ Queue q t d)
  next_some n q t d e = let found = first_in (is_behind after) queued in by found.0 found.1
    where
      by : (o : Option Message) → FirstOf (is_behind after) queued o → (m : Message) × IsFirst (is_behind after) queued m × (m.id ≡ n) × (m.place ≡ Queue q t d)
      by None h = absurd (none-some _ (sym (first_told None h) ∙ e))
      by (Some m) h = let is = as_queued m.id m.place n q t d (sym (first_told (Some m) h) ∙ e) in (m, h, is.0, is.1)

-- the order of what waits

shown_id : (id : ℕ) (place : Place) → (waiting_as id place).id ≡ id
shown_id id (Queue q t d) = refl
shown_id id Dead = refl
shown_id id (Consumed a) = refl

due_as : (id now : ℕ) (place : Place) → is_queued place ≡ true → is_due now place ≡ nat_le (waiting_as id place).due now
due_as id now (Queue q t d) e = refl
due_as id now Dead e = absurd (true≢false (sym e))
due_as id now (Consumed a) e = absurd (true≢false (sym e))

other_way : (a b : Waiting) → (a.id == b.id) ≡ false → comes_before a b ≡ false → comes_before b a ≡ true
other_way a b n e = grind (arith, nat_tests)

behind_both : (a b c : Waiting) → comes_before a b ≡ true → comes_before a c ≡ false → comes_before b c ≡ false
behind_both a b c e f = grind (arith, nat_tests)

not_sooner : (a b : Waiting) → comes_before a b ≡ false → b.due ≤ a.due
not_sooner a b e = grind (arith, nat_tests)

-- what was looked at: each message that isn't behind a moment and an id

pub record Looked (now : ℕ) (idle free : Message → Bool) (ms : List Message) (after : Option (ℕ × ℕ)) (blocked : ℕ) : Type 0 where
  pub passed : All (λ (x : Message). is_behind after x ≡ false → (is_due now x.place ≡ true) × ((idle x && free x) ≡ false)) ms
  pub counted : blocked ≡ count_by (λ (x : Message). not (is_behind after x) && idle x) ms

pub begun : (now : ℕ) (idle free : Message → Bool) (ms : List Message) → Looked now idle free ms None 0
begun now idle free ms = record {
  passed = λ k d lt e. absurd (true≢false e);
  counted = sym (count_none (λ (x : Message). not (is_behind None x) && idle x) ms (λ k d lt. refl));
}

-- the first of what is behind
module _ (ms : List Message) (up : IdsRise ms) (after : Option (ℕ × ℕ)) (m : Message) (first : IsFirst (is_behind after) ms m) where
  abbrev next : Option (ℕ × ℕ)
  next = Some (due_of m, m.id)

  behind_next : (x : Message) → is_behind next x ≡ is_before m x
  behind_next x = ap (λ n. comes_before (record { id = n; tries = 0; due = due_of m }) (waiting x)) (sym (shown_id m.id m.place))

  not_behind_itself : is_behind next m ≡ false
  not_behind_itself = behind_next m ∙ All-contains (λ (x : Message). is_behind after x ≡ true → is_before x m ≡ false) ms m first.least first.there first.passes

  stays_in_front : (o : Option (ℕ × ℕ)) (x : Message) → is_behind o m ≡ true → is_behind o x ≡ false → is_before m x ≡ false
  stays_in_front None x e f = absurd (true≢false f)
  stays_in_front (Some p) x e f = behind_both (record { id = p.1; tries = 0; due = p.0 }) (waiting m) (waiting x) e f

  order_at : (x : Message) → (x.id == m.id) ≡ false → (is_behind after x ≡ true → is_before x m ≡ false) → (b : Bool) → is_behind after x ≡ b → is_before m x ≡ is_behind after x
  order_at x n least true e =
      let ids : ((waiting x).id == (waiting m).id) ≡ (x.id == m.id) = λ i. shown_id x.id x.place i == shown_id m.id m.place i in
      other_way (waiting x) (waiting m) (ids ∙ n) (least e) ∙ sym e
  order_at x n least false e = stays_in_front after x first.passes e ∙ sym e

  -- behind the first stands what was behind, but for the first itself
  others : All (λ (x : Message). (x.id == m.id) ≡ false → is_behind next x ≡ is_behind after x) ms
  others k d lt n = let x = get_or ms k d in behind_next x ∙ order_at x n (first.least k d lt) (is_behind after x) refl

  pub fewer : count_by (is_behind after) ms ≡ count_by (is_behind next) ms + 1
  fewer =
      let differs = one_differs (is_behind next) (is_behind after) ms m up first.there (λ k d lt n. sym (others k d lt n)) not_behind_itself in
      omega (arith, differs, ap one_if first.passes)

  pub looked_on : (now : ℕ) (idle free : Message → Bool) (blocked : ℕ) → Looked now idle free ms after blocked → is_due now m.place ≡ true → (idle m && free m) ≡ false → Looked now idle free ms next (blocked + one_if (idle m))
  looked_on now idle free blocked looked due skip =
      let done : Message → Type 0 = λ x. (is_due now x.place ≡ true) × ((idle x && free x) ≡ false) in
      let was : Message → Bool = λ x. not (is_behind after x) && idle x in
      let is : Message → Bool = λ x. not (is_behind next x) && idle x in
      let differs = one_differs was is ms m up first.there (λ k d lt n. ap (λ (b : Bool). not b && idle (get_or ms k d)) (others k d lt n)) (ap (λ (b : Bool). not b && idle m) first.passes) in
      let here : is m ≡ idle m = ap (λ (b : Bool). not b && idle m) not_behind_itself in
      record {
        passed = λ k d lt e. ⊎_elim (λ same. subst done (sym same) (due, skip)) (λ n. looked.passed k d lt (sym (others k d lt n) ∙ e)) (apart ms m up first.there k d lt);
        counted = omega (arith, looked.counted, differs, ap one_if here);
      }

-- where all that is due was looked at

abbrev pub Split : ℕ → Option (ℕ × ℕ) → List Message → Type 0
Split now after ms = All (λ (x : Message). is_due now x.place ≡ not (is_behind after x)) ms

module _ (now : ℕ) (idle free : Message → Bool) (ms : List Message) (after : Option (ℕ × ℕ)) (blocked : ℕ) (looked : Looked now idle free ms after blocked) where
  abbrev waits : Message → Bool
  waits x = is_due now x.place && idle x

  pub split_none : All (λ (x : Message). is_behind after x ≡ false) ms → Split now after ms
  split_none none k d lt = (looked.passed k d lt (none k d lt)).0 ∙ sym (ap not (none k d lt))

  pub split_later : (m : Message) → All (λ (x : Message). is_queued x.place ≡ true) ms → IsFirst (is_behind after) ms m → now < due_of m → Split now after ms
  split_later m queued first later k d lt = by (is_behind after (get_or ms k d)) refl
    where
      x : Message
      x = get_or ms k d

      by : (b : Bool) → is_behind after x ≡ b → is_due now x.place ≡ not (is_behind after x)
      by true e =
          let sooner : due_of m ≤ due_of x = not_sooner (waiting x) (waiting m) (first.least k d lt e) in
          due_as x.id now x.place (queued k d lt) ∙ lt-leb (due_of x) now (omega (arith, later, sooner)) ∙ sym (ap not e)
      by false e = (looked.passed k d lt e).0 ∙ sym (ap not e)

  pub all_counted : Split now after ms → blocked ≡ length (filter waits ms)
  all_counted split =
      looked.counted ∙ agree (λ (x : Message). not (is_behind after x) && idle x) waits ms (λ k d lt. ap (λ (b : Bool). b && idle (get_or ms k d)) (sym (split k d lt))) ∙ sym (length-filter waits ms)

  -- what is idle and was looked at isn't free
  not_free : (x : Message) → (is_behind after x ≡ false → (is_due now x.place ≡ true) × ((idle x && free x) ≡ false)) → idle x ≡ true → is_behind after x ≡ false → free x ≡ false
  not_free x passed i f = sym (ap (λ (b : Bool). b && free x) i) ∙ (passed f).1

  pub none_chosen : (can : Message → Bool) → All (λ (x : Message). free x ≡ can x) ms → Split now after ms → first_by is_before (filter can (filter waits ms)) ≡ None
  none_chosen can same split =
      let blocked_at : All (λ (x : Message). waits x ≡ true → can x ≡ false) ms = λ k d lt w.
      let x = get_or ms k d in
      let both = and_parts (is_due now x.place) (idle x) w in
      let front : is_behind after x ≡ false = not-true (is_behind after x) (sym (split k d lt) ∙ both.0) in
      sym (same k d lt) ∙ not_free x (looked.passed k d lt) both.1 front in
      let none : All (λ (x : Message). can x ≡ false) (filter waits ms) = λ k d lt. All-filter waits (λ (x : Message). waits x ≡ true → can x ≡ false) ms blocked_at k d lt (filter_passes waits ms k d lt) in
      ap (first_by is_before) (filter_none can (filter waits ms) none)

  pub first_chosen : (can : Message → Bool) → All (λ (x : Message). free x ≡ can x) ms → IdsRise ms → (m : Message) → IsFirst (is_behind after) ms m → waits m ≡ true → free m ≡ true → first_by is_before (filter can (filter waits ms)) ≡ Some m
  first_chosen can same up m first w f =
      let front : All (λ (x : Message). waits x ≡ true → can x ≡ true → is_before x m ≡ false) ms = λ k d lt v c. at k d lt v c (is_behind after (get_or ms k d)) refl in
      first_is can (filter waits ms) (rises_filter waits ms up) (Some m) (record {
        there = filter_has waits ms m first.there w;
        passes = sym (All-contains (λ (x : Message). free x ≡ can x) ms m same first.there) ∙ f;
        least = λ k d lt. All-filter waits (λ (x : Message). waits x ≡ true → can x ≡ true → is_before x m ≡ false) ms front k d lt (filter_passes waits ms k d lt);
      })
    where
      at : (k : ℕ) (d : Message) → k < length ms → waits (get_or ms k d) ≡ true → can (get_or ms k d) ≡ true → (b : Bool) → is_behind after (get_or ms k d) ≡ b → is_before (get_or ms k d) m ≡ false
      at k d lt v c true e = first.least k d lt e
      at k d lt v c false e =
          let x = get_or ms k d in
          absurd (untrue (free x) (same k d lt ∙ c) (not_free x (looked.passed k d lt) (and_parts (is_due now x.place) (idle x) v).1 e))

-- the least due moment behind the moment

module _ (now : ℕ) (ms : List Message) (after : Option (ℕ × ℕ)) (queued : All (λ (x : Message). is_queued x.place ≡ true) ms) (split : Split now after ms) where
  passed_by : All (λ (x : Message). is_behind after x ≡ false → due_of x ≤ now) ms
  passed_by k d lt f = let x = get_or ms k d in leb-true (due_of x) now (sym (due_as x.id now x.place (queued k d lt)) ∙ split k d lt ∙ ap not f)

  pub none_later : All (λ (x : Message). is_behind after x ≡ false) ms → first_by nat_lt (filter (nat_lt now) (map due_of ms)) ≡ None
  none_later none =
      let past : All (λ d. nat_lt now d ≡ false) (map due_of ms) = All-map (λ d. nat_lt now d ≡ false) due_of ms (λ k d lt. le-ltb now (due_of (get_or ms k d)) (passed_by k d lt (none k d lt))) in
      ap (first_by nat_lt) (filter_none (nat_lt now) (map due_of ms) past)

  pub first_later : (m : Message) → IsFirst (is_behind after) ms m → now < due_of m → first_by nat_lt (filter (nat_lt now) (map due_of ms)) ≡ Some (due_of m)
  first_later m first later =
      find_only nat_lt (λ z. not (list_any (λ y. nat_lt y z) dues)) (due_of m) dues here (ap not (list_any_none (λ y. nat_lt y (due_of m)) dues front))
      (λ k d lt t. let z = get_or dues k d in only z (ltb-false z (due_of m) (front k d lt)) (nat_lt (due_of m) z) refl t)
    where
      dues : List ℕ
      dues = filter (nat_lt now) (map due_of ms)

      here : Contains dues (due_of m)
      here = filter_has (nat_lt now) (map due_of ms) (due_of m) (map_has due_of ms m first.there) (lt-ltb now (due_of m) later)

      sooner_at : (k : ℕ) (d : Message) → k < length ms → nat_lt now (due_of (get_or ms k d)) ≡ true → (b : Bool) → is_behind after (get_or ms k d) ≡ b → nat_lt (due_of (get_or ms k d)) (due_of m) ≡ false
      sooner_at k d lt t true e = let x = get_or ms k d in le-ltb (due_of x) (due_of m) (not_sooner (waiting x) (waiting m) (first.least k d lt e))
      sooner_at k d lt t false e = let x = get_or ms k d in absurd (omega (arith, passed_by k d lt e, ltb-true now (due_of x) t))

      front : All (λ y. nat_lt y (due_of m) ≡ false) dues
      front k d lt =
          All-filter (nat_lt now) (λ y. nat_lt now y ≡ true → nat_lt y (due_of m) ≡ false) (map due_of ms)
          (All-map (λ y. nat_lt now y ≡ true → nat_lt y (due_of m) ≡ false) due_of ms (λ j e l t. sooner_at j e l t (is_behind after (get_or ms j e)) refl))
          k d lt (filter_passes (nat_lt now) (map due_of ms) k d lt)

      only : (z : ℕ) → due_of m ≤ z → (b : Bool) → nat_lt (due_of m) z ≡ b → not (list_any (λ y. nat_lt y z) dues) ≡ true → z ≡ due_of m
      only z le true e t = absurd (untrue (list_any (λ y. nat_lt y z) dues) (list_any_at (λ y. nat_lt y z) dues here.0 (due_of m) here.1 (ap (λ y. nat_lt y z) here.2 ∙ e)) (not-true (list_any (λ y. nat_lt y z) dues) t))
      only z le false e t = let not_less = ltb-false (due_of m) z e in omega (arith, le, not_less)
