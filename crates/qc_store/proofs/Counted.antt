-- What a store counts, through what facts do to messages.
use Rattle.std.proofs.Common.{◌≡◌, ◌∙◌, ℕ, ◌+◌, ◌<◌, ◌≤◌, ◌==◌, nat_lt, Bool, true, false, cond, not, ◌&&◌, ◌||◌, List, [], ◌∷◌, ◌++◌, All, length, get_or, map, find, count_by, Option, None, Some, refl, sym, ap, subst, arith, true≢false, eqb-true, eq-eqb, if◌then◌else◌, length-append}
use Rattle.std.specs.List.{list_any}
use Rattle.std.specs.Option.{option_map_or}
use Rattle.std.specs.Str.{bytes_eq}
use Rattle.std.proofs.lemmas.Bool.{ne_eqb, and_parts, not-true}
use Rattle.std.proofs.lemmas.List.{length-map}
use Rattle.std.proofs.lemmas.List.Sums.{sum_by-append}
use Rattle.std.proofs.lemmas.List.Elements.{All-head, All-tail, All-cons, All-nil, All-push, All-map, All-weaker}
use Rattle.qc_base.specs.declared.fact.Place.{Place}
use Rattle.qc_base.specs.declared.fact.Place.TheVariants.{Queue, Dead, Consumed}
use Rattle.qc_base.specs.declared.recording.Recording.{Recording}
use Rattle.qc_base.specs.declared.message.Message.{Message}
use Rattle.qc_base.specs.Messages.{next_place, moved_place, is_consumed, consumed_ids, message_of, after_sent, after_failed, after_consumed, after_moved}
use Rattle.qc_store.specs.declared.tally.Tally.{Tally}
use Rattle.qc_store.specs.Due.{is_queued}
use Rattle.qc_store.specs.Live.{is_live, are_live, is_waiting}
use Rattle.qc_store.specs.Stored.{IdsRise}
use Rattle.qc_store.specs.Tallies.{is_tallied, with_app, with_one, after_played, AreCounted}
use Rattle.qc_store.proofs.Listings.{count-cons, count_map, consumed_counted}
use Rattle.qc_store.proofs.Rising.{rises_push, rises_map, rises_at}
use Rattle.qc_store.proofs.Tallying.{one_if, tally_with_one, tallied_with_one, tally_with_app, tallied_with_app, tallied_itself}

abbrev is_gone : List ℕ → Message → Bool
is_gone app m = bytes_eq m.recording.app app && is_consumed m.place

agree : (p q : Message → Bool) (ms : List Message) → All (λ (m : Message). p m ≡ q m) ms → count_by p ms ≡ count_by q ms
agree p q [] h = refl
agree p q (m ∷ ms) h =
    count-cons p m ms ∙ ap (λ (b : Bool). one_if b + count_by p ms) (All-head (λ (x : Message). p x ≡ q x) m ms h)
    ∙ ap (λ n. one_if (q m) + n) (agree p q ms (All-tail (λ (x : Message). p x ≡ q x) m ms h)) ∙ sym (count-cons q m ms)

count_few : (p : Message → Bool) (ms : List Message) → count_by p ms ≤ length ms
count_few p [] = omega arith
count_few p (m ∷ ms) = omega (arith, count-cons p m ms, by (p m) (count_few p ms))
  where
    by : (b : Bool) → count_by p ms ≤ length ms → one_if b + count_by p ms ≤ length (m ∷ ms)
    by true h = omega arith
    by false h = omega arith

-- the message of an id

above_other : (id : ℕ) (m : Message) → id < m.id → (m.id == id) ≡ false
above_other id m lt = ne_eqb m.id id (λ e. omega arith)

-- what holds of the message of an id holds of each with that id
only_one : (test : Message → Bool) (id : ℕ) (ms : List Message) → IdsRise ms → option_map_or test (message_of id ms) false ≡ true → All (λ (m : Message). (m.id == id) ≡ true → test m ≡ true) ms
only_one test id [] up h = All-nil (λ (m : Message). (m.id == id) ≡ true → test m ≡ true)
only_one test id (m ∷ ms) up h = by (m.id == id) refl h (only_one test id ms up.1)
  where
    by : (b : Bool) → (m.id == id) ≡ b → option_map_or test (cond b (Some m) (message_of id ms)) false ≡ true → (option_map_or test (message_of id ms) false ≡ true → All (λ (x : Message). (x.id == id) ≡ true → test x ≡ true) ms) → All (λ (x : Message). (x.id == id) ≡ true → test x ≡ true) (m ∷ ms)
    by true e h rest =
        All-cons (λ (x : Message). (x.id == id) ≡ true → test x ≡ true) m ms (λ t. h)
        (All-weaker (λ (x : Message). m.id < x.id) (λ (x : Message). (x.id == id) ≡ true → test x ≡ true) (λ x lt t. absurd (true≢false (sym t ∙ above_other id x (subst (λ n. n < x.id) (eqb-true m.id id e) lt)))) ms up.0)
    by false e h rest = All-cons (λ (x : Message). (x.id == id) ≡ true → test x ≡ true) m ms (λ t. absurd (true≢false (sym t ∙ e))) (rest h)

found_has : (P : Message → Type 0) (test : Message → Bool) (ms : List Message) (m : Message) → find test ms ≡ Some m → All P ms → P m
found_has P test [] m e h = cc
found_has P test (x ∷ ms) m e h = by (test x) e (λ n. found_has P test ms m n (All-tail P x ms h))
  where
    by : (b : Bool) → cond b (Some x) (find test ms) ≡ Some m → (find test ms ≡ Some m → P m) → P m
    by true e rest = let same : x ≡ m = cc e in subst P same (All-head P x ms h)
    by false e rest = rest e

-- messages that keep their ids, what they carry and whether they are consumed

module _ (f : Message → Message) (ids : (m : Message) → (f m).id ≡ m.id) (carried : (m : Message) → (f m).recording ≡ m.recording) where
  known_map : (ms : List Message) (ts : List Tally) → All (λ (m : Message). is_tallied m.recording.app ts ≡ true) ms → All (λ (m : Message). is_tallied m.recording.app ts ≡ true) (map f ms)
  known_map ms ts h = All-map (λ (m : Message). is_tallied m.recording.app ts ≡ true) f ms
      (All-weaker (λ (m : Message). is_tallied m.recording.app ts ≡ true) (λ (m : Message). is_tallied (f m).recording.app ts ≡ true) (λ m k. ap (λ (r : Recording). is_tallied r.app ts) (carried m) ∙ k) ms h)

  gone_map : (app : List ℕ) (ms : List Message) → length (consumed_ids app (map f ms)) ≡ count_by (λ (m : Message). is_gone app (f m)) ms
  gone_map app ms = sym (consumed_counted app (map f ms)) ∙ count_map (is_gone app) f ms

  counted_map : (ms : List Message) (sent : ℕ) (ts : List Tally) → All (λ (m : Message). is_consumed (f m).place ≡ is_consumed m.place) ms → AreCounted ms sent ts → AreCounted (map f ms) sent ts
  counted_map ms sent ts same h = record {
    rises = rises_map f ids ms h.rises;
    all_sent = h.all_sent ∙ sym (length-map ms f);
    all_consumed = λ app. h.all_consumed app ∙ sym (consumed_counted app ms) ∙ sym (agree (λ (m : Message). is_gone app (f m)) (is_gone app) ms (All-weaker (λ (m : Message). is_consumed (f m).place ≡ is_consumed m.place) (λ (m : Message). is_gone app (f m) ≡ is_gone app m)
        (λ m e. ap (λ (r : Recording). bytes_eq r.app app && is_consumed (f m).place) (carried m) ∙ ap (λ (b : Bool). bytes_eq m.recording.app app && b) e) ms same)) ∙ sym (gone_map app ms);
    known = known_map ms ts h.known;
  }

-- places of some messages

id_at : (b : Bool) (m : Message) (place : Place) → (if b then record m { place = place } else m).id ≡ m.id
id_at true m place = refl
id_at false m place = refl

carried_at : (b : Bool) (m : Message) (place : Place) → (if b then record m { place = place } else m).recording ≡ m.recording
carried_at true m place = refl
carried_at false m place = refl

consumed_at : (b : Bool) (m : Message) (place : Place) → (b ≡ true → is_consumed place ≡ is_consumed m.place) → is_consumed (if b then record m { place = place } else m).place ≡ is_consumed m.place
consumed_at true m place h = h refl
consumed_at false m place h = refl

pub counted_placed : (test : Message → Bool) (to : Message → Place) (ms : List Message) (sent : ℕ) (ts : List Tally) → All (λ (m : Message). test m ≡ true → is_consumed (to m) ≡ is_consumed m.place) ms → AreCounted ms sent ts
    → AreCounted (map (λ (m : Message). if test m then record m { place = to m } else m) ms) sent ts
counted_placed test to ms sent ts same h =
    counted_map (λ (m : Message). if test m then record m { place = to m } else m) (λ m. id_at (test m) m (to m)) (λ m. carried_at (test m) m (to m)) ms sent ts
    (All-weaker (λ (m : Message). test m ≡ true → is_consumed (to m) ≡ is_consumed m.place) (λ (m : Message). is_consumed (if test m then record m { place = to m } else m).place ≡ is_consumed m.place) (λ m e. consumed_at (test m) m (to m) e) ms same) h

goes_on : (p : Place) (final_class : Bool) (at : ℕ) → is_queued p ≡ true → is_consumed (next_place p final_class at) ≡ is_consumed p
goes_on (Queue q t d) final_class at h = by (nat_lt t 2) (t == 2) (nat_lt q 5) final_class _ _ _ refl refl refl
  where
    by : (a b c d : Bool) (x y z : Place) → is_consumed x ≡ false → is_consumed y ≡ false → is_consumed z ≡ false → is_consumed (cond a x (cond b (cond c y (cond d z Dead)) Dead)) ≡ false
    by true b c d x y z p q r = p
    by false true true d x y z p q r = q
    by false true false true x y z p q r = r
    by false true false false x y z p q r = refl
    by false false c d x y z p q r = refl
goes_on Dead final_class at h = refl
goes_on (Consumed a) final_class at h = refl

pub counted_failed : (id at : ℕ) (ms : List Message) (sent : ℕ) (ts : List Tally) → is_waiting id ms ≡ true → AreCounted ms sent ts → AreCounted (after_failed id at ms) sent ts
counted_failed id at ms sent ts waits h =
    counted_placed (λ (m : Message). m.id == id) (λ (m : Message). next_place m.place m.final_class at) ms sent ts
    (All-weaker (λ (m : Message). (m.id == id) ≡ true → is_queued m.place ≡ true) (λ (m : Message). (m.id == id) ≡ true → is_consumed (next_place m.place m.final_class at) ≡ is_consumed m.place) (λ m q t. goes_on m.place m.final_class at (q t)) ms
    (only_one (λ (m : Message). is_queued m.place) id ms h.rises waits)) h

-- moves

live_of : (id : ℕ) (ms : List Message) → is_live id ms ≡ true → option_map_or (λ (m : Message). not (is_consumed m.place)) (message_of id ms) false ≡ true
live_of id ms h = h

or_cases : (a b : Bool) → (a || b) ≡ true → (c : Bool) → (a ≡ true → c ≡ true) → (b ≡ true → c ≡ true) → c ≡ true
or_cases true b h c p q = p refl
or_cases false b h c p q = q h

each_live : (ids : List ℕ) (ms : List Message) → IdsRise ms → are_live ids ms ≡ true → All (λ (m : Message). list_any (λ id. id == m.id) ids ≡ true → not (is_consumed m.place) ≡ true) ms
each_live [] ms up h = λ k d lt t. absurd (true≢false (sym t))
each_live (id ∷ ids) ms up h =
    let both = and_parts (is_live id ms) (are_live ids ms) h in
    let one : All (λ (m : Message). (m.id == id) ≡ true → not (is_consumed m.place) ≡ true) ms = only_one (λ (m : Message). not (is_consumed m.place)) id ms up both.0 in
    let rest = each_live ids ms up both.1 in
    λ k d lt t. or_cases (id == (get_or ms k d).id) (list_any (λ i. i == (get_or ms k d).id) ids) t _ (λ e. one k d lt (eq-eqb _ _ (sym (eqb-true id (get_or ms k d).id e)))) (rest k d lt)

moves_on : (b : Bool) (queue at : ℕ) → is_consumed (if b then Dead else Queue queue 0 at) ≡ false
moves_on true queue at = refl
moves_on false queue at = refl

pub counted_moved : (ids : List ℕ) (queue at : ℕ) (ms : List Message) (sent : ℕ) (ts : List Tally) → are_live ids ms ≡ true → AreCounted ms sent ts → AreCounted (after_moved ids queue at ms) sent ts
counted_moved ids queue at ms sent ts live h =
    counted_placed (λ (m : Message). list_any (λ id. id == m.id) ids) (λ (m : Message). moved_place queue at) ms sent ts
    (All-weaker (λ (m : Message). list_any (λ id. id == m.id) ids ≡ true → not (is_consumed m.place) ≡ true) (λ (m : Message). list_any (λ id. id == m.id) ids ≡ true → is_consumed (moved_place queue at) ≡ is_consumed m.place)
    (λ m q t. moves_on (queue == 6) queue at ∙ sym (not-true (is_consumed m.place) (q t))) ms (each_live ids ms h.rises live)) h

-- a message more

not_gone : (b : Bool) → (b && false) ≡ false
not_gone true = refl
not_gone false = refl

pub counted_sent : (id : ℕ) (r : Recording) (final_class : Bool) (at : ℕ) (ms : List Message) (sent : ℕ) (ts : List Tally) → All (λ (m : Message). m.id < id) ms → AreCounted ms sent ts → AreCounted (after_sent id r final_class at ms) (sent + 1) (with_app r.app ts)
counted_sent id r final_class at ms sent ts below h =
    let m : Message = record { id = id; recording = r; final_class = final_class; place = Queue 0 0 at } in
    record {
      rises = rises_push ms m h.rises below;
      all_sent = omega (arith, h.all_sent, length-append ms (m ∷ []));
      all_consumed = λ app. tally_with_app r.app app ts ∙ h.all_consumed app ∙ sym (consumed_counted app ms)
          ∙ omega (arith, sum_by-append (λ (x : Message). one_if (is_gone app x)) ms (m ∷ []), count-cons (is_gone app) m [], ap one_if (not_gone (bytes_eq r.app app))) ∙ consumed_counted app (ms ++ m ∷ []);
      known = All-push (λ (x : Message). is_tallied x.recording.app (with_app r.app ts) ≡ true) ms m
          (All-weaker (λ (x : Message). is_tallied x.recording.app ts ≡ true) (λ (x : Message). is_tallied x.recording.app (with_app r.app ts) ≡ true) (λ x k. tallied_with_app r.app x.recording.app ts k) ms h.known)
          (tallied_itself r.app ts);
    }

-- a message that is consumed

module _ (id attempt : ℕ) where
  abbrev played : Message → Message
  played m = if m.id == id then record m { place = Consumed attempt } else m

  one_more : (own : Bool) (n : ℕ) → one_if (own && true) + n ≡ one_if (own && false) + n + one_if own
  one_more true n = omega arith
  one_more false n = omega arith

  gone_played : (app : List ℕ) (m : Message) (b : Bool) → (m.id == id) ≡ b → is_gone app (played m) ≡ is_gone app (cond b (record m { place = Consumed attempt }) m)
  gone_played app m b e = ap (λ (x : Bool). is_gone app (cond x (record m { place = Consumed attempt }) m)) e

  one_gone : (app : List ℕ) (ms : List Message) (m0 : Message) → IdsRise ms → message_of id ms ≡ Some m0 → is_consumed m0.place ≡ false → count_by (λ (m : Message). is_gone app (played m)) ms ≡ count_by (is_gone app) ms + one_if (bytes_eq m0.recording.app app)
  one_gone app [] m0 up e live = cc
  one_gone app (m ∷ ms) m0 up e live = count-cons (λ (x : Message). is_gone app (played x)) m ms ∙ by (m.id == id) refl e (one_gone app ms m0 up.1) ∙ ap (λ n. n + one_if (bytes_eq m0.recording.app app)) (sym (count-cons (is_gone app) m ms))
    where
      by : (b : Bool) → (m.id == id) ≡ b → cond b (Some m) (message_of id ms) ≡ Some m0 → (message_of id ms ≡ Some m0 → is_consumed m0.place ≡ false → count_by (λ (x : Message). is_gone app (played x)) ms ≡ count_by (is_gone app) ms + one_if (bytes_eq m0.recording.app app))
          → one_if (is_gone app (played m)) + count_by (λ (x : Message). is_gone app (played x)) ms ≡ one_if (is_gone app m) + count_by (is_gone app) ms + one_if (bytes_eq m0.recording.app app)
      by true t e rest =
          let same : m ≡ m0 = cc e in
          let others : count_by (λ (x : Message). is_gone app (played x)) ms ≡ count_by (is_gone app) ms =
          agree (λ (x : Message). is_gone app (played x)) (is_gone app) ms (All-weaker (λ (x : Message). m.id < x.id) (λ (x : Message). is_gone app (played x) ≡ is_gone app x) (λ x lt. gone_played app x false (above_other id x (subst (λ n. n < x.id) (eqb-true m.id id t) lt))) ms up.0) in
          let own : Bool = bytes_eq m.recording.app app in
          ap (λ (b : Bool). one_if b + count_by (λ (x : Message). is_gone app (played x)) ms) (gone_played app m true t) ∙ ap (λ n. one_if (own && true) + n) others ∙ one_more own (count_by (is_gone app) ms)
          ∙ ap (λ (b : Bool). one_if (own && b) + count_by (is_gone app) ms + one_if own) (sym (ap (λ (x : Message). is_consumed x.place) same ∙ live))
          ∙ ap (λ (x : Message). one_if (is_gone app m) + count_by (is_gone app) ms + one_if (bytes_eq x.recording.app app)) same
      by false t e rest =
          ap (λ (b : Bool). one_if b + count_by (λ (x : Message). is_gone app (played x)) ms) (gone_played app m false t) ∙ omega (arith, rest e live)

  pub counted_played : (ms : List Message) (sent : ℕ) (ts : List Tally) → is_live id ms ≡ true → AreCounted ms sent ts → AreCounted (after_consumed id attempt ms) sent (after_played id ms ts)
  counted_played ms sent ts live h = by (message_of id ms) refl live
    where
      by : (o : Option Message) → message_of id ms ≡ o → option_map_or (λ (m : Message). not (is_consumed m.place)) o false ≡ true → AreCounted (after_consumed id attempt ms) sent (option_map_or (λ (m : Message). with_one m.recording.app ts) o ts)
      by None e t = absurd (true≢false (sym t))
      by (Some m) e t =
          let app0 : List ℕ = m.recording.app in
          let there : is_tallied app0 ts ≡ true = found_has (λ (x : Message). is_tallied x.recording.app ts ≡ true) (λ (x : Message). x.id == id) ms m e h.known in
          record {
            rises = rises_at id (λ (x : Message). Consumed attempt) ms h.rises;
            all_sent = h.all_sent ∙ sym (length-map ms played);
            all_consumed = λ app. tally_with_one app0 app ts there ∙ ap (λ n. n + one_if (bytes_eq app0 app)) (h.all_consumed app ∙ sym (consumed_counted app ms))
                ∙ sym (one_gone app ms m h.rises e (not-true (is_consumed m.place) t)) ∙ sym (gone_map played (λ x. id_at (x.id == id) x (Consumed attempt)) (λ x. carried_at (x.id == id) x (Consumed attempt)) app ms);
            known = known_map played (λ x. id_at (x.id == id) x (Consumed attempt)) (λ x. carried_at (x.id == id) x (Consumed attempt)) ms (with_one app0 ts)
                (All-weaker (λ (x : Message). is_tallied x.recording.app ts ≡ true) (λ (x : Message). is_tallied x.recording.app (with_one app0 ts) ≡ true) (λ x k. tallied_with_one app0 x.recording.app ts k) ms h.known);
          }

pub few_consumed : (app : List ℕ) (ms : List Message) → length (consumed_ids app ms) ≤ length ms
few_consumed app ms = omega (arith, consumed_counted app ms, count_few (is_gone app) ms)
