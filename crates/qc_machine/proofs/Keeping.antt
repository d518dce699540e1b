-- What each legal history keeps.
use Rattle.std.proofs.Common.{◌≡◌, ◌∙◌, ℕ, ◌+◌, ◌≤◌, ◌==◌, leb, nat_lt, List, [], ◌∷◌, ◌++◌, All, Bool, true, false, not, cond, ◌&&◌, ◌||◌, length, map, count_by, refl, sym, ap, subst, arith, true≢false, Option, Some, None, ne_eqb, eq-eqb, eqb-true, leb-true, le-leb, unwrap_or}
use Rattle.std.specs.Option.{option_map_or}
use Rattle.std.specs.List.{list_any, list_all}
use Rattle.std.proofs.lemmas.Bool.{and_parts, and_from, eqb-false, ltb-true}
use Rattle.std.proofs.lemmas.List.{length-map, length_push, nil_from_length}
use Rattle.std.proofs.lemmas.List.Elements.{All-nil, All-head, All-tail, All-map, All-push, All-weaker}
use Rattle.std.proofs.lemmas.List.Sums.{count_by-le-length}
use Rattle.qc_base.specs.declared.fact.Fact.{Fact}
use Rattle.qc_base.specs.declared.fact.Fact.TheVariants.{Catalogue as InForce, Sent, Played, Failed, Moved, Switched}
use Rattle.qc_base.specs.declared.fact.Kind.{Kind}
use Rattle.qc_base.specs.declared.fact.Place.{Place}
use Rattle.qc_base.specs.declared.fact.Place.TheVariants.{Queue, Dead, Consumed}
use Rattle.qc_base.specs.declared.message.Message.{Message}
use Rattle.qc_base.specs.declared.recording.Recording.{Recording}
use Rattle.qc_base.specs.Messages.{message_of, next_place, after_consumed, is_consumed, delay, moved_place}
use Rattle.qc_base.specs.Moments.{due_at}
use Rattle.qc_base.specs.Names.{is_name}
use Rattle.qc_base.specs.Spelling.{is_moment, is_attempt, is_id, is_fact}
use Rattle.qc_catalogue.specs.declared.catalogue.Catalogue.{Catalogue}
use Rattle.qc_listener.specs.Choice.{is_due}
use Rattle.qc_store.proofs.Listings.{count-cons, count_map}
use Rattle.qc_store.proofs.Tallying.{one_if}
use Rattle.qc_machine.specs.History.{Reader, History, names_exception, no_catalogue, no_facts, after_fact, after_facts, history_of, may_end_on, is_movable, are_distinct, may_follow, all_follow, is_legal, is_later}
use Rattle.qc_machine.specs.Laws.{IsSettled}
use Rattle.qc_machine.specs.Once.{is_send, is_played}
use Rattle.qc_machine.specs.Orderly.{IsNumberedFrom, is_place, IsQueued, IsMessageOf, is_consumed_as, IsOrderly}
use Rattle.qc_machine.specs.State.{State}
use Rattle.qc_machine.proofs.Counts.{count-append, count-same}
use Rattle.qc_machine.proofs.Histories.{legal-all}
use Rattle.qc_machine.proofs.Moved.{moves, moves-id, moved-unspent, was-unspent}
use Rattle.qc_machine.proofs.Numbered.{has_id, found-is, numbered-map, numbered-push, each-found, found-once}

-- places stay within their range

waits : (final : Bool) (q tries due : ℕ) → q ≤ 5 → tries ≤ 2 → due ≤ 1000000000000 → is_place final (Queue q tries due) ≡ true
waits final q tries due a b c =
    let not3 : (tries == 3) ≡ false = ne_eqb _ _ (omega arith) in
    and_from (leb q 5) _ (le-leb _ _ a) (and_from (leb tries 3) _ (le-leb _ _ (omega arith)) (and_from (is_moment due) _ (le-leb _ _ c) (ap (λ b. not b || ((q == 5) && final)) not3)))

due-within : (t : ℕ) → due_at t ≤ 1000000000000
due-within t = omega arith

pub next-placed : (p : Place) (final : Bool) (at : ℕ) → is_place final p ≡ true → is_moment at ≡ true → is_place final (next_place p final at) ≡ true
next-placed Dead final at h k = refl
next-placed (Consumed a) final at h k = h
next-placed (Queue q tries due) final at h k = by (nat_lt tries 2) refl (tries == 2) (nat_lt q 5) refl final refl
  where
    within : q ≤ 5
    within = leb-true q 5 (and_parts (leb q 5) _ h).0

    by : (a : Bool) → nat_lt tries 2 ≡ a → (b : Bool) (c : Bool) → nat_lt q 5 ≡ c → (d : Bool) → final ≡ d
        → is_place final (cond a (Queue q (tries + 1) (due_at (at + delay q))) (cond b (cond c (Queue (q + 1) 0 (due_at (at + delay (q + 1)))) (cond d (Queue 5 3 at) Dead)) Dead)) ≡ true
    by true ea b c ec d ed = waits final q (tries + 1) (due_at (at + delay q)) within (omega (arith, ltb-true tries 2 ea)) (due-within (at + delay q))
    by false ea true true ec d ed = waits final (q + 1) 0 (due_at (at + delay (q + 1))) (omega (arith, ltb-true q 5 ec)) (omega arith) (due-within (at + delay (q + 1)))
    by false ea true false ec true ed = and_from (is_moment at) _ k ed
    by false ea true false ec false ed = refl
    by false ea false c ec d ed = refl

pub queued : (final : Bool) (q tries due : ℕ) → is_place final (Queue q tries due) ≡ true → IsQueued final q tries due
queued final q tries due h =
    let number = and_parts (leb q 5) _ h in
    let few = and_parts (leb tries 3) _ number.1 in
    let moment = and_parts (is_moment due) _ few.1 in
    record {
      queue = leb-true _ _ number.0;
      few = leb-true _ _ few.0;
      moment = leb-true _ _ moment.0;
      last = λ e. let both = and_parts (q == 5) _ (third (tries == 3) ((q == 5) && final) (eq-eqb _ _ e) moment.1) in (eqb-true _ _ both.0, both.1);
    }
  where
    third : (a b : Bool) → a ≡ true → (not a || b) ≡ true → b ≡ true
    third true b e h = h
    third false b e h = absurd (true≢false (sym e))

-- a message that goes to another place is of the same catalogue, and has the same id

placed : (c : Catalogue) (m : Message) (b : Bool) (to : Place) → is_place m.final_class to ≡ true → IsMessageOf c m → IsMessageOf c (cond b (record m { place = to }) m)
placed c m true to h is = record { id = is.id; fits = is.fits; limits = is.limits; final = is.final; place = h }
placed c m false to h is = is

same-id : (m : Message) (b : Bool) (to : Place) → (cond b (record m { place = to }) m).id ≡ m.id
same-id m true to = refl
same-id m false to = refl

-- how many are consumed

still-spent : (n : ℕ) (m : Message) (b : Bool) (to : Place) → is_consumed to ≡ is_consumed m.place → is_consumed_as n (cond b (record m { place = to }) m) ≡ is_consumed_as n m
still-spent n m true to h = ap (λ c. (m.id == n) && c) h
still-spent n m false to h = refl

next-unspent : (p : Place) (final : Bool) (at : ℕ) → is_consumed (next_place p final at) ≡ is_consumed p
next-unspent Dead final at = refl
next-unspent (Consumed a) final at = refl
next-unspent (Queue q tries due) final at = by (nat_lt tries 2) (tries == 2) (nat_lt q 5) final
  where
    by : (a b c d : Bool) → is_consumed (cond a (Queue q (tries + 1) (due_at (at + delay q))) (cond b (cond c (Queue (q + 1) 0 (due_at (at + delay (q + 1)))) (cond d (Queue 5 3 at) Dead)) Dead)) ≡ false
    by true b c d = refl
    by false true true d = refl
    by false true false true = refl
    by false true false false = refl
    by false false c d = refl

abbrev HasUnspent : ℕ → Message → Type 0
HasUnspent id m = (m.id == id) ≡ true → is_consumed m.place ≡ false

-- one more where the message that is consumed wasn't
spends : (n id attempt : ℕ) (ms : List Message) → All (HasUnspent id) ms
    → count_by (is_consumed_as n) (after_consumed id attempt ms) ≡ count_by (is_consumed_as n) ms + cond (id == n) (count_by (has_id id) ms) 0
spends n id attempt [] all = by (id == n)
  where
    by : (b : Bool) → 0 ≡ 0 + cond b 0 0
    by true = refl
    by false = refl
spends n id attempt (m ∷ ms) all =
    count-cons (is_consumed_as n) (cond (m.id == id) (record m { place = Consumed attempt }) m) (after_consumed id attempt ms)
    ∙ by (m.id == id) refl (id == n) refl (spends n id attempt ms (All-tail (HasUnspent id) m ms all))
  where
    by : (b : Bool) → (m.id == id) ≡ b → (d : Bool) → (id == n) ≡ d → count_by (is_consumed_as n) (after_consumed id attempt ms) ≡ count_by (is_consumed_as n) ms + cond (id == n) (count_by (has_id id) ms) 0
        → one_if (is_consumed_as n (cond b (record m { place = Consumed attempt }) m)) + count_by (is_consumed_as n) (after_consumed id attempt ms) ≡ count_by (is_consumed_as n) (m ∷ ms) + cond d (count_by (has_id id) (m ∷ ms)) 0
    by true e true f rest =
        let same : m.id ≡ id = eqb-true _ _ e in
        let was : is_consumed m.place ≡ false = All-head (HasUnspent id) m ms all e in
        let here : (m.id == n) ≡ true = ap (λ x. x == n) same ∙ f in
        omega (
          arith,
          rest,
          count-cons (is_consumed_as n) m ms,
          count-cons (has_id id) m ms,
          ap one_if e,
          ap (λ t. cond t (count_by (has_id id) ms) 0) f,
          ap (λ t. one_if (t && true)) here,
          ap (λ t. one_if (t && is_consumed m.place)) here,
          ap one_if was,
        )
    by true e false f rest =
        let same : m.id ≡ id = eqb-true _ _ e in
        let here : (m.id == n) ≡ false = ap (λ x. x == n) same ∙ f in
        omega (
          arith,
          rest,
          count-cons (is_consumed_as n) m ms,
          ap (λ t. cond t (count_by (has_id id) ms) 0) f,
          ap (λ t. one_if (t && true)) here,
          ap (λ t. one_if (t && is_consumed m.place)) here,
        )
    by false e true f rest = omega (arith, rest, count-cons (is_consumed_as n) m ms, count-cons (has_id id) m ms, ap one_if e, ap (λ t. cond t (count_by (has_id id) ms) 0) f)
    by false e false f rest = omega (arith, rest, count-cons (is_consumed_as n) m ms, ap (λ t. cond t (count_by (has_id id) ms) 0) f)

-- what a test on what is found says
pub option-true : {A : Type 0} (f : A → Bool) (o : Option A) → option_map_or f o false ≡ true → (x : A) × (o ≡ Some x) × (f x ≡ true)
option-true f None e = absurd (true≢false (sym e))
option-true f (Some x) e = (x, refl, e)

due-unspent : (at : ℕ) (p : Place) → is_due at p ≡ true → is_consumed p ≡ false
due-unspent at (Queue q tries due) e = refl
due-unspent at Dead e = refl
due-unspent at (Consumed a) e = absurd (true≢false (sym e))

-- the message that is found by an id, among those with this id
found-unspent : (id : ℕ) (ms : List Message) (m : Message) → IsNumberedFrom 1 ms → message_of id ms ≡ Some m → is_consumed m.place ≡ false → All (HasUnspent id) ms
found-unspent id ms m numbered found unspent =
    All-weaker (λ (x : Message). message_of x.id ms ≡ Some x) (HasUnspent id)
    (λ x e t.
    let same : x.id ≡ id = eqb-true _ _ t in
    let both : Some x ≡ Some m = sym e ∙ ap (λ n. message_of n ms) same ∙ found in
    let is : x ≡ m = cc in
    ap (λ (y : Message). is_consumed y.place) is ∙ unspent) ms (each-found 1 ms numbered)

-- a fact more

-- the counts of facts with one more, that is none of these
other : (p : Fact → Bool) (facts : List Fact) (fact : Fact) → p fact ≡ false → count_by p (facts ++ fact ∷ []) ≡ count_by p facts
other p facts fact e = count-append p facts (fact ∷ []) ∙ omega (arith, count-cons p fact [], ap one_if e)

orderly-sent : (read : Reader) (h : History) (id at : ℕ) (r : Recording) → IsOrderly h → may_follow read h (Sent id at r) ≡ true → IsOrderly (after_fact read h (Sent id at r))
orderly-sent read h id at r o e =
    let parts = and_parts (is_fact (Sent id at r)) _ e in
    let next = and_parts (id == length h.messages + 1) _ (and_parts (is_later at h) _ parts.1).1 in
    let same : id ≡ length h.messages + 1 = eqb-true _ _ next.0 in
    let limits = and_parts (is_moment at) _ (and_parts (is_id id) _ parts.0).1 in
    let new : Message = record { id = id; recording = r; final_class = names_exception h.catalogue r; place = Queue 0 0 at } in
    record {
      numbered = numbered-push 1 h.messages new o.numbered (omega (arith, same));
      sent = length_push h.messages new ∙ omega (arith, o.sent, count-append is_send h.facts (Sent id at r ∷ []));
      messages = All-push (IsMessageOf h.catalogue) h.messages new o.messages (record { id = (and_parts (is_id id) _ parts.0).0; fits = next.1; limits = limits.1; final = refl; place = waits (names_exception h.catalogue r) 0 0 at (omega arith) (omega arith) (leb-true _ _ limits.0) });
      played = λ n. other (is_played n) h.facts (Sent id at r) refl ∙ o.played n ∙ sym (count-append (is_consumed_as n) h.messages (new ∷ []) ∙ omega (arith, unspent n));
    }
  where
    unspent : (n : ℕ) → count_by (is_consumed_as n) ((record { id = id; recording = r; final_class = names_exception h.catalogue r; place = Queue 0 0 at }) ∷ []) ≡ 0
    unspent n = by (id == n)
      where
        by : (b : Bool) → 0 + one_if (b && false) ≡ 0
        by true = refl
        by false = refl

orderly-played : (read : Reader) (h : History) (id attempt : ℕ) (kind : Kind) (at : ℕ) → IsOrderly h → may_follow read h (Played id attempt kind at) ≡ true → IsOrderly (after_fact read h (Played id attempt kind at))
orderly-played read h id attempt kind at o e =
    let parts = and_parts (is_fact (Played id attempt kind at)) _ e in
    let m = option-true (may_end_on h attempt at kind true) (message_of id h.messages) (and_parts (is_later at h) _ parts.1).1 in
    let due = and_parts (is_due at m.0.place) _ m.2 in
    let limits = and_parts (is_attempt attempt) _ (and_parts (is_id id) _ parts.0).1 in
    let one : count_by (has_id id) h.messages ≡ 1 = found-once id 1 h.messages m.0 o.numbered m.1 in
    let f : Message → Message = λ x. cond (x.id == id) (record x { place = Consumed attempt }) x in
    record {
      numbered = numbered-map f (λ x. same-id x (x.id == id) (Consumed attempt)) 1 h.messages o.numbered;
      sent = length-map h.messages f ∙ o.sent ∙ sym (other is_send h.facts (Played id attempt kind at) refl);
      messages = All-map (IsMessageOf h.catalogue) f h.messages (All-weaker (IsMessageOf h.catalogue) (λ (x : Message). IsMessageOf h.catalogue (f x)) (λ x is. placed h.catalogue x (x.id == id) (Consumed attempt) limits.0 is) h.messages o.messages);
      played = λ n. count-append (is_played n) h.facts (Played id attempt kind at ∷ []) ∙ omega (arith, o.played n, spends n id attempt h.messages (found-unspent id h.messages m.0 o.numbered m.1 (due-unspent at m.0.place due.0)), counts (id == n) one);
    }
  where
    counts : (b : Bool) → count_by (has_id id) h.messages ≡ 1 → cond b (count_by (has_id id) h.messages) 0 ≡ 0 + one_if b
    counts true one = omega (arith, one)
    counts false one = refl

orderly-failed : (read : Reader) (h : History) (id attempt at : ℕ) → IsOrderly h → may_follow read h (Failed id attempt at) ≡ true → IsOrderly (after_fact read h (Failed id attempt at))
orderly-failed read h id attempt at o e =
    let parts = and_parts (is_fact (Failed id attempt at)) _ e in
    let limits = and_parts (is_attempt attempt) _ (and_parts (is_id id) _ parts.0).1 in
    let to : Message → Place = λ x. next_place x.place x.final_class at in
    let f : Message → Message = λ x. cond (x.id == id) (record x { place = to x }) x in
    record {
      numbered = numbered-map f (λ x. same-id x (x.id == id) (to x)) 1 h.messages o.numbered;
      sent = length-map h.messages f ∙ o.sent ∙ sym (other is_send h.facts (Failed id attempt at) refl);
      messages = All-map (IsMessageOf h.catalogue) f h.messages (All-weaker (IsMessageOf h.catalogue) (λ (x : Message). IsMessageOf h.catalogue (f x)) (λ x is. placed h.catalogue x (x.id == id) (to x) (next-placed x.place x.final_class at is.place limits.1) is) h.messages o.messages);
      played = λ n. other (is_played n) h.facts (Failed id attempt at) refl ∙ o.played n ∙ sym (count_map (is_consumed_as n) f h.messages ∙ count-same (λ (x : Message). is_consumed_as n (f x)) (is_consumed_as n) h.messages
          (All-weaker (IsMessageOf h.catalogue) (λ (x : Message). is_consumed_as n (f x) ≡ is_consumed_as n x) (λ x is. still-spent n x (x.id == id) (to x) (next-unspent x.place x.final_class at)) h.messages o.messages));
    }

moved-placed : (final : Bool) (queue at : ℕ) → queue ≤ 6 → is_moment at ≡ true → is_place final (moved_place queue at) ≡ true
moved-placed final queue at few soon = by (queue == 6) refl
  where
    by : (b : Bool) → (queue == 6) ≡ b → is_place final (cond b Dead (Queue queue 0 at)) ≡ true
    by true e = refl
    by false e = waits final queue 0 at (omega (arith, few, eqb-false queue 6 e)) (omega arith) (leb-true _ _ soon)

-- as many are consumed where none of those that are moved was
moved-spent : (n : ℕ) (m : Message) (b : Bool) (queue at : ℕ) → (b ≡ true → is_consumed m.place ≡ false) → is_consumed_as n (cond b (record m { place = moved_place queue at }) m) ≡ is_consumed_as n m
moved-spent n m true queue at h = ap (λ c. (m.id == n) && c) (moved-unspent queue at ∙ sym (h refl))
moved-spent n m false queue at h = refl

orderly-moved : (read : Reader) (h : History) (app : List ℕ) (queue at : ℕ) (ids : List ℕ) → IsOrderly h → may_follow read h (Moved app queue at ids) ≡ true → IsOrderly (after_fact read h (Moved app queue at ids))
orderly-moved read h app queue at ids o e =
    let parts = and_parts (is_fact (Moved app queue at ids)) _ e in
    let limits = and_parts (leb queue 6) _ (and_parts (is_name app) _ parts.0).1 in
    let soon = (and_parts (is_moment at) _ limits.1).0 in
    let all : list_all (is_movable app h.messages) ids ≡ true = (and_parts (are_distinct ids) _ (and_parts (is_later at h) _ parts.1).1).1 in
    let f : Message → Message = moves ids queue at in
    record {
      numbered = numbered-map f (moves-id ids queue at) 1 h.messages o.numbered;
      sent = length-map h.messages f ∙ o.sent ∙ sym (other is_send h.facts (Moved app queue at ids) refl);
      messages = All-map (IsMessageOf h.catalogue) f h.messages (All-weaker (IsMessageOf h.catalogue) (λ (x : Message). IsMessageOf h.catalogue (f x))
          (λ x is. placed h.catalogue x (list_any (λ id. id == x.id) ids) (moved_place queue at) (moved-placed x.final_class queue at (leb-true _ _ limits.0) soon) is) h.messages o.messages);
      played = λ n. other (is_played n) h.facts (Moved app queue at ids) refl ∙ o.played n ∙ sym (count_map (is_consumed_as n) f h.messages ∙ count-same (λ (x : Message). is_consumed_as n (f x)) (is_consumed_as n) h.messages
          (All-weaker (λ (x : Message). message_of x.id h.messages ≡ Some x) (λ (x : Message). is_consumed_as n (f x) ≡ is_consumed_as n x)
          (λ x found. moved-spent n x (list_any (λ id. id == x.id) ids) queue at (λ there. was-unspent h app ids x all found there)) h.messages (each-found 1 h.messages o.numbered)));
    }

-- a catalogue comes first, where there are no messages
orderly-in_force : (read : Reader) (h : History) (text : List ℕ) → IsOrderly h → may_follow read h (InForce text) ≡ true → IsOrderly (after_fact read h (InForce text))
orderly-in_force read h text o e =
    let none : length h.facts ≡ 0 = eqb-true _ _ (and_parts (length h.facts == 0) _ (and_parts (is_fact (InForce text)) _ e).1).0 in
    let before : h.messages ≡ [] = nil_from_length h.messages (omega (arith, o.sent, count_by-le-length is_send h.facts, none)) in
    let c : Catalogue = unwrap_or (read text) no_catalogue in
    let now : (after_fact read h (InForce text)).messages ≡ [] = ap (λ (ms : List Message). map (λ (m : Message). record m { final_class = names_exception c m.recording }) ms) before in
    record {
      numbered = subst (IsNumberedFrom 1) (sym now) tt;
      sent = ap length now ∙ sym (ap length before) ∙ o.sent ∙ sym (other is_send h.facts (InForce text) refl);
      messages = subst (All (IsMessageOf c)) (sym now) (All-nil (IsMessageOf c));
      played = λ id. other (is_played id) h.facts (InForce text) refl ∙ o.played id ∙ ap (count_by (is_consumed_as id)) before ∙ sym (ap (count_by (is_consumed_as id)) now);
    }

pub orderly-step : (read : Reader) (h : History) (fact : Fact) → IsOrderly h → may_follow read h fact ≡ true → IsOrderly (after_fact read h fact)
orderly-step read h (InForce text) o e = orderly-in_force read h text o e
orderly-step read h (Sent id at r) o e = orderly-sent read h id at r o e
orderly-step read h (Played id attempt kind at) o e = orderly-played read h id attempt kind at o e
orderly-step read h (Failed id attempt at) o e = orderly-failed read h id attempt at o e
orderly-step read h (Moved app queue at ids) o e = orderly-moved read h app queue at ids o e
orderly-step read h (Switched app on at) o e = record {
  numbered = o.numbered;
  sent = o.sent ∙ sym (other is_send h.facts (Switched app on at) refl);
  messages = o.messages;
  played = λ n. other (is_played n) h.facts (Switched app on at) refl ∙ o.played n;
}

orderly-all : (read : Reader) (h : History) (facts : List Fact) → IsOrderly h → all_follow read h facts ≡ true → IsOrderly (after_facts read h facts)
orderly-all read h [] o e = o
orderly-all read h (fact ∷ facts) o e =
    let parts = and_parts (may_follow read h fact) _ e in
    orderly-all read (after_fact read h fact) facts (orderly-step read h fact o parts.0) parts.1

none-orderly : IsOrderly no_facts
none-orderly = record { numbered = tt; sent = refl; messages = All-nil (IsMessageOf no_catalogue); played = λ id. refl }

-- a legal history is orderly
pub legal-orderly : (read : Reader) (facts : List Fact) → is_legal read facts ≡ true → IsOrderly (history_of read facts)
legal-orderly read facts legal = orderly-all read no_facts facts none-orderly (legal-all read facts legal)

pub settled-orderly : (read : Reader) (s : State) → IsSettled read s → IsOrderly s.history
settled-orderly read s settled = subst IsOrderly (sym settled.history) (legal-orderly read s.history.facts settled.legal)

-- the message of an id, where it is there
pub message-kept : (h : History) (id : ℕ) (m : Message) → IsOrderly h → message_of id h.messages ≡ Some m → IsMessageOf h.catalogue m × (m.id ≡ id)
message-kept h id m o found = let is = found-is (IsMessageOf h.catalogue) (λ (x : Message). x.id == id) h.messages m o.messages found in (is.0, eqb-true m.id id is.1)
