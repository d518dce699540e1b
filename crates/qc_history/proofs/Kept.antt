-- What holds of messages and their rows, whatever is done with them.
use Rattle.std.proofs.Common.{◌≡◌, ◌∙◌, ℕ, ◌+◌, ◌≤◌, ◌==◌, eqb, ltb, eqb-true, List, [], ◌∷◌, ◌++◌, Bool, true, false, length, find, get_or, All, refl, sym, ap, subst, arith, not, Option, Some, None, if◌then◌else◌}
use Rattle.std.proofs.lemmas.Bool.{ne_eqb, false≢true}
use Rattle.std.proofs.lemmas.List.{length-map, length_push}
use Rattle.std.proofs.lemmas.List.Elements.{All-filter, All-head, All-map, All-push, All-tail, All-weaker, filter_passes}
use Rattle.std.proofs.lemmas.Option.{none-some, same_Some}
use Rattle.std.specs.List.{list_any}
use Rattle.std.specs.Option.{option_map_or}
use Rattle.std.specs.Str.{bytes_eq}
use Rattle.qc_base.specs.declared.fact.Place.{Place}
use Rattle.qc_base.specs.declared.fact.Place.TheVariants.{Queue, Dead, Consumed}
use Rattle.qc_base.specs.declared.message.Message.{Message}
use Rattle.qc_base.specs.declared.recording.Recording.{Recording}
use Rattle.qc_base.specs.Messages.{after_consumed, after_failed, after_moved, after_sent, at_message, delay, is_consumed, message_of, moved_place, next_place, of_app}
use Rattle.qc_base.specs.Moments.{due_at}
use Rattle.qc_catalogue.specs.declared.catalogue.Catalogue.{Catalogue}
use Rattle.qc_listener.specs.Choice.{AreKept, IsKept}
use Rattle.qc_listener.specs.Index.{MessageRows, entry_of, rows_for, with_entry, without}
use Rattle.qc_listener.proofs.Kept.{none_removed, others_removed, others_set}
use Rattle.qc_machine.proofs.Moved.{each-id, moved-unspent, moves}
use Rattle.qc_store.specs.Due.{is_queued, queued_messages}
use Rattle.qc_store.specs.Live.{are_live, is_live}
use Rattle.qc_history.specs.View.{IsSound}

-- what holds of each message holds of the one that is found
pub found-holds : {A : Type 0} (P : A → Type 0) (test : A → Bool) (xs : List A) (x : A) → All P xs → find test xs ≡ Some x → P x
found-holds P test [] x all e = absurd (none-some x e)
found-holds {A = A} P test (y ∷ ys) x all e = by (test y) (found-holds P test ys x (All-tail P y ys all)) e
  where
    by : (b : Bool) → (find test ys ≡ Some x → P x) → (if b then Some y else find test ys) ≡ Some x → P x
    by true rest e = subst P (same_Some y x e) (All-head P y ys all)
    by false rest e = rest e

pub found-passes : {A : Type 0} (test : A → Bool) (xs : List A) (x : A) → find test xs ≡ Some x → test x ≡ true
found-passes test [] x e = absurd (none-some x e)
found-passes {A = A} test (y ∷ ys) x e = by (test y) refl (found-passes test ys x) e
  where
    by : (b : Bool) → test y ≡ b → (find test ys ≡ Some x → test x ≡ true) → (if b then Some y else find test ys) ≡ Some x → test x ≡ true
    by true t rest e = subst (λ (z : A). test z ≡ true) (same_Some y x e) t
    by false t rest e = rest e

-- one message changes its place

abbrev placed : Bool → (Message → Place) → Message → Message
placed b to m = if b then record m { place = to m } else m

at-all : (P Q : Message → Type 0) (id : ℕ) (to : Message → Place) (ms : List Message)
    → ((m : Message) (b : Bool) → (m.id == id) ≡ b → P m → Q (placed b to m)) → All P ms → All Q (at_message id to ms)
at-all P Q id to ms step all =
    All-map Q (λ (m : Message). placed (m.id == id) to m) ms (All-weaker P (λ (m : Message). Q (placed (m.id == id) to m)) (λ m p. step m (m.id == id) refl p) ms all)

module _ (id : ℕ) (to : Message → Place) (ms : List Message) where
  at-long : length (at_message id to ms) ≡ length ms
  at-long = length-map ms (λ (m : Message). placed (m.id == id) to m)

  numbered-at : All (λ (m : Message). m.id ≤ length ms) ms → All (λ (m : Message). m.id ≤ length (at_message id to ms)) (at_message id to ms)
  numbered-at all = at-all (λ (m : Message). m.id ≤ length ms) (λ (m : Message). m.id ≤ length (at_message id to ms)) id to ms step all
    where
      step : (m : Message) (b : Bool) → (m.id == id) ≡ b → m.id ≤ length ms → (placed b to m).id ≤ length (at_message id to ms)
      step m true e p = omega (arith, p, at-long)
      step m false e p = omega (arith, p, at-long)

  short-at : All (λ (m : Message). length m.recording.calls ≤ 64) ms → All (λ (m : Message). length m.recording.calls ≤ 64) (at_message id to ms)
  short-at all = at-all (λ (m : Message). length m.recording.calls ≤ 64) (λ (m : Message). length m.recording.calls ≤ 64) id to ms step all
    where
      step : (m : Message) (b : Bool) → (m.id == id) ≡ b → length m.recording.calls ≤ 64 → length (placed b to m).recording.calls ≤ 64
      step m true e p = p
      step m false e p = p

-- the rows of a message that isn't consumed are kept
abbrev pub KeptIn : Catalogue → List MessageRows → Message → Type 0
KeptIn c rows m = is_consumed m.place ≡ false → IsKept c rows m

-- those of a consumed one aren't
abbrev pub GoneFrom : List MessageRows → Message → Type 0
GoneFrom rows m = is_consumed m.place ≡ true → entry_of m.id rows ≡ None

still-consumed : (place : Place) (final_class : Bool) (at : ℕ) → is_consumed (next_place place final_class at) ≡ true → is_consumed place ≡ true
still-consumed (Queue queue tries due) final_class at q = by (ltb tries 2) (eqb tries 2) (ltb queue 5) final_class q
  where
    by : (a b c d : Bool)
        → is_consumed (if a then Queue queue (tries + 1) (due_at (at + delay queue)) else if b then (if c then Queue (queue + 1) 0 (due_at (at + delay (queue + 1))) else if d then Queue 5 3 at else Dead) else Dead) ≡ true
        → is_consumed (Queue queue tries due) ≡ true
    by true b c d q = q
    by false true true d q = q
    by false true false true q = q
    by false true false false q = q
    by false false c d q = q
still-consumed Dead final_class at q = q
still-consumed (Consumed attempt) final_class at q = q

still-live : (place : Place) (final_class : Bool) (at : ℕ) → is_consumed (next_place place final_class at) ≡ false → is_consumed place ≡ false
still-live (Queue queue tries due) final_class at q = refl
still-live Dead final_class at q = refl
still-live (Consumed attempt) final_class at q = q

-- what stands in a queue isn't consumed
pub queued-live : (place : Place) → is_queued place ≡ true → is_consumed place ≡ false
queued-live (Queue queue tries due) q = refl
queued-live Dead q = refl
queued-live (Consumed attempt) q = absurd (false≢true q)

some-facts : (ms : List Message) (more : ℕ) → 1 ≤ more → more ≡ 0 → ms ≡ []
some-facts ms more some none = absurd (omega (arith, some, none))

module _ (c : Catalogue) (ms : List Message) (rows : List MessageRows) (facts more : ℕ) (sound : IsSound c ms rows facts) (some : 1 ≤ more) where
  -- a message fails
  pub sound-failed : (id at : ℕ) → IsSound c (after_failed id at ms) rows more
  sound-failed id at =
      let to : Message → Place = λ m. next_place m.place m.final_class at in
      record {
        numbered = numbered-at id to ms sound.numbered;
        short = short-at id to ms sound.short;
        kept = at-all (KeptIn c rows) (KeptIn c rows) id to ms step sound.kept;
        gone = at-all (GoneFrom rows) (GoneFrom rows) id to ms leaves sound.gone;
        none = some-facts (after_failed id at ms) more some;
      }
    where
      step : (m : Message) (b : Bool) → (m.id == id) ≡ b → KeptIn c rows m → KeptIn c rows (placed b (λ (m : Message). next_place m.place m.final_class at) m)
      step m true e p = λ q. p (still-live m.place m.final_class at q)
      step m false e p = p

      leaves : (m : Message) (b : Bool) → (m.id == id) ≡ b → GoneFrom rows m → GoneFrom rows (placed b (λ (m : Message). next_place m.place m.final_class at) m)
      leaves m true e p = λ q. p (still-consumed m.place m.final_class at q)
      leaves m false e p = p

  -- a message is consumed, and its rows are kept no more
  pub sound-consumed : (id attempt : ℕ) → IsSound c (after_consumed id attempt ms) (without id rows) more
  sound-consumed id attempt =
      let to : Message → Place = λ m. Consumed attempt in
      record {
        numbered = numbered-at id to ms sound.numbered;
        short = short-at id to ms sound.short;
        kept = at-all (KeptIn c rows) (KeptIn c (without id rows)) id to ms step sound.kept;
        gone = at-all (GoneFrom rows) (GoneFrom (without id rows)) id to ms leaves sound.gone;
        none = some-facts (after_consumed id attempt ms) more some;
      }
    where
      step : (m : Message) (b : Bool) → (m.id == id) ≡ b → KeptIn c rows m → KeptIn c (without id rows) (placed b (λ (m : Message). Consumed attempt) m)
      step m true e p = λ q. absurd (false≢true (sym q))
      step m false e p = λ q. others_removed id m.id rows e ∙ p q

      leaves : (m : Message) (b : Bool) → (m.id == id) ≡ b → GoneFrom rows m → GoneFrom (without id rows) (placed b (λ (m : Message). Consumed attempt) m)
      leaves m true e p = λ q. subst (λ n. entry_of n (without id rows) ≡ None) (sym (eqb-true m.id id e)) (none_removed id rows)
      leaves m false e p = λ q. others_removed id m.id rows e ∙ p q

  -- a message is sent whose rows are kept
  pub sound-sent : (id at : ℕ) (r : Recording) (final_class : Bool) → id ≡ length ms + 1 → length r.calls ≤ 64 → entry_of id rows ≡ Some (rows_for c id r) → IsSound c (after_sent id r final_class at ms) rows more
  sound-sent id at r final_class next short kept =
      let m : Message = record { id = id; recording = r; final_class = final_class; place = Queue 0 0 at } in
      let long = length_push ms m in
      let P : Message → Type 0 = λ x. x.id ≤ length (ms ++ m ∷ []) in
      let others : All P ms = λ k d lt. omega (arith, sound.numbered k d lt, long) in
      record {
        numbered = All-push P ms m others (omega (arith, next, long));
        short = All-push (λ (x : Message). length x.recording.calls ≤ 64) ms m sound.short short;
        kept = All-push (KeptIn c rows) ms m sound.kept (λ q. kept);
        gone = All-push (GoneFrom rows) ms m sound.gone (λ q. absurd (false≢true q));
        none = some-facts (after_sent id r final_class at ms) more some;
      }

  -- messages are moved that aren't consumed: their rows were kept, and still are
  module _ (ids : List ℕ) (queue at : ℕ) (live : are_live ids ms ≡ true) where
    moved-long : length (after_moved ids queue at ms) ≡ length ms
    moved-long = length-map ms (moves ids queue at)

    moved-all : (P Q : Message → Type 0) → ((m : Message) (b : Bool) → list_any (λ id. id == m.id) ids ≡ b → P m → Q (if b then record m { place = moved_place queue at } else m))
        → All P ms → All Q (after_moved ids queue at ms)
    moved-all P Q step all = All-map Q (moves ids queue at) ms (All-weaker P (λ (m : Message). Q (moves ids queue at m)) (λ m p. step m (list_any (λ id. id == m.id) ids) refl p) ms all)

    -- what has the id of a message that isn't consumed isn't so either: the rows of that id are kept
    alike-live : (m : Message) → is_live m.id ms ≡ true → GoneFrom rows m → is_consumed m.place ≡ false
    alike-live m is gone = by (message_of m.id ms) refl is
      where
        judge : (n : Message) → message_of m.id ms ≡ Some n → (b : Bool) → is_consumed n.place ≡ b → not b ≡ true → (t : Bool) → is_consumed m.place ≡ t → t ≡ false
        judge n found true spent e t is = absurd (false≢true e)
        judge n found false spent e false is = refl
        judge n found false spent e true is =
            let same : n.id ≡ m.id = eqb-true n.id m.id (found-passes (λ (x : Message). x.id == m.id) ms n found) in
            let kept : IsKept c rows n = found-holds (KeptIn c rows) (λ (x : Message). x.id == m.id) ms n sound.kept found spent in
            absurd (none-some (rows_for c n.id n.recording) (sym (gone is) ∙ sym (ap (λ id. entry_of id rows) same) ∙ kept))

        by : (o : Option Message) → message_of m.id ms ≡ o → option_map_or (λ (x : Message). not (is_consumed x.place)) o false ≡ true → is_consumed m.place ≡ false
        by None found e = absurd (false≢true e)
        by (Some n) found e = judge n found (is_consumed n.place) refl e (is_consumed m.place) refl

    abbrev Here : Message → Type 0
    Here m = KeptIn c rows m × GoneFrom rows m

    pub sound-moved : IsSound c (after_moved ids queue at ms) rows more
    sound-moved = record {
      numbered = moved-all (λ (m : Message). m.id ≤ length ms) (λ (m : Message). m.id ≤ length (after_moved ids queue at ms)) numbers sound.numbered;
      short = moved-all (λ (m : Message). length m.recording.calls ≤ 64) (λ (m : Message). length m.recording.calls ≤ 64) calls sound.short;
      kept = moved-all Here (KeptIn c rows) stays (λ k d lt. (sound.kept k d lt, sound.gone k d lt));
      gone = moved-all (GoneFrom rows) (GoneFrom rows) leaves sound.gone;
      none = some-facts (after_moved ids queue at ms) more some;
    }
      where
        numbers : (m : Message) (b : Bool) → list_any (λ id. id == m.id) ids ≡ b → m.id ≤ length ms → (if b then record m { place = moved_place queue at } else m).id ≤ length (after_moved ids queue at ms)
        numbers m true e p = omega (arith, p, moved-long)
        numbers m false e p = omega (arith, p, moved-long)

        calls : (m : Message) (b : Bool) → list_any (λ id. id == m.id) ids ≡ b → length m.recording.calls ≤ 64 → length (if b then record m { place = moved_place queue at } else m).recording.calls ≤ 64
        calls m true e p = p
        calls m false e p = p

        stays : (m : Message) (b : Bool) → list_any (λ id. id == m.id) ids ≡ b → Here m → KeptIn c rows (if b then record m { place = moved_place queue at } else m)
        stays m true e p = λ q. p.0 (alike-live m (each-id (λ id. is_live id ms) m.id ids live e) p.1)
        stays m false e p = p.0

        leaves : (m : Message) (b : Bool) → list_any (λ id. id == m.id) ids ≡ b → GoneFrom rows m → GoneFrom rows (if b then record m { place = moved_place queue at } else m)
        leaves m true e p = λ q. absurd (false≢true (sym (moved-unspent queue at) ∙ q))
        leaves m false e p = p

  pub sound-same : IsSound c ms rows more
  sound-same = record { numbered = sound.numbered; short = sound.short; kept = sound.kept; gone = sound.gone; none = some-facts ms more some }

module _ (c : Catalogue) (ms : List Message) (rows : List MessageRows) (facts : ℕ) (sound : IsSound c ms rows facts) where
  -- the rows of the message that is sent next are kept before it is sent
  module _ (id : ℕ) (r : Recording) (next : id ≡ length ms + 1) where
    others-same : (m : Message) → m.id ≤ length ms → entry_of m.id (with_entry (rows_for c id r) rows) ≡ entry_of m.id rows
    others-same m low = others_set (rows_for c id r) m.id rows (ne_eqb m.id id (λ same. omega (arith, same, next, low)))

    pub sound-set : IsSound c ms (with_entry (rows_for c id r) rows) facts
    sound-set = record {
      numbered = sound.numbered;
      short = sound.short;
      kept = λ k d lt q. others-same (get_or ms k d) (sound.numbered k d lt) ∙ sound.kept k d lt q;
      gone = λ k d lt q. others-same (get_or ms k d) (sound.numbered k d lt) ∙ sound.gone k d lt q;
      none = sound.none;
    }

  -- those of an application are kept
  pub kept-of : (app : List ℕ) → AreKept c rows app ms
  kept-of app =
      let own = All-filter (λ (m : Message). bytes_eq m.recording.app app) (KeptIn c rows) ms sound.kept in
      let queued = All-filter (λ (m : Message). is_queued m.place) (KeptIn c rows) (of_app app ms) own in
      λ k d lt. queued k d lt (queued-live (get_or (queued_messages app ms) k d).place (filter_passes (λ (m : Message). is_queued m.place) (of_app app ms) k d lt))

  pub found-short : (id : ℕ) (m : Message) → message_of id ms ≡ Some m → length m.recording.calls ≤ 64
  found-short id m e = found-holds (λ (x : Message). length x.recording.calls ≤ 64) (λ (x : Message). x.id == id) ms m sound.short e

  pub found-kept : (id : ℕ) (m : Message) → message_of id ms ≡ Some m → is_queued m.place ≡ true → IsKept c rows m
  found-kept id m e queued = found-holds (KeptIn c rows) (λ (x : Message). x.id == id) ms m sound.kept e (queued-live m.place queued)
