-- Messages behind a move.
use Rattle.std.proofs.Common.{◌≡◌, ◌∙◌, ℕ, ◌==◌, List, [], ◌∷◌, Bool, true, false, not, cond, ◌||◌, map, refl, sym, ap, true≢false, Option, Some, None, option_map, eqb-true}
use Rattle.std.specs.List.{list_any, list_all}
use Rattle.std.specs.Option.{option_map_or}
use Rattle.std.specs.Str.{bytes_eq}
use Rattle.std.proofs.lemmas.Bool.{and_parts, and_from, cond-true, cond-false}
use Rattle.qc_base.specs.declared.fact.Fact.TheVariants.{Moved}
use Rattle.qc_base.specs.declared.fact.Place.TheVariants.{Queue, Dead}
use Rattle.qc_base.specs.declared.message.Message.{Message}
use Rattle.qc_base.specs.Messages.{message_of, is_consumed, moved_place}
use Rattle.qc_machine.specs.History.{History, with_fact, is_live_of, is_movable}
use Rattle.qc_machine.proofs.Beside.{found-map}

-- a message behind a move of these ids
abbrev pub moves : List ℕ → ℕ → ℕ → Message → Message
moves ids queue at m = cond (list_any (λ id. id == m.id) ids) (record m { place = moved_place queue at }) m

pub moves-id : (ids : List ℕ) (queue at : ℕ) (m : Message) → (moves ids queue at m).id ≡ m.id
moves-id ids queue at m = by (list_any (λ id. id == m.id) ids)
  where
    by : (b : Bool) → (cond b (record m { place = moved_place queue at }) m).id ≡ m.id
    by true = refl
    by false = refl

found-mapped : (id : ℕ) (f : Message → Message) (ms : List Message) → ((m : Message) → (f m).id ≡ m.id) → message_of id (map f ms) ≡ option_map f (message_of id ms)
found-mapped id f [] h = refl
found-mapped id f (m ∷ ms) h = by (m.id == id) refl (found-mapped id f ms h)
  where
    by : (b : Bool) → (m.id == id) ≡ b → message_of id (map f ms) ≡ option_map f (message_of id ms) → cond ((f m).id == id) (Some (f m)) (message_of id (map f ms)) ≡ option_map f (cond (m.id == id) (Some m) (message_of id ms))
    by true e rest = cond-true ((f m).id == id) (Some (f m)) (message_of id (map f ms)) (ap (λ n. n == id) (h m) ∙ e) ∙ sym (ap (option_map f) (cond-true (m.id == id) (Some m) (message_of id ms) e))
    by false e rest = cond-false ((f m).id == id) (Some (f m)) (message_of id (map f ms)) (ap (λ n. n == id) (h m) ∙ e) ∙ rest ∙ sym (ap (option_map f) (cond-false (m.id == id) (Some m) (message_of id ms) e))

-- what isn't moved is found as it was
pub not-moved : (ids : List ℕ) (queue at id : ℕ) (ms : List Message) → list_any (λ n. n == id) ids ≡ false → message_of id (map (moves ids queue at) ms) ≡ message_of id ms
not-moved ids queue at id ms none = found-map id (moves ids queue at) ms (moves-id ids queue at) (λ m e. stays m (eqb-true m.id id e))
  where
    stays : (m : Message) → m.id ≡ id → moves ids queue at m ≡ m
    stays m same = cond-false (list_any (λ n. n == m.id) ids) (record m { place = moved_place queue at }) m (ap (λ k. list_any (λ n. n == k) ids) same ∙ none)

-- what may be moved may be so behind a move

pub moved-unspent : (queue at : ℕ) → is_consumed (moved_place queue at) ≡ false
moved-unspent queue at = by (queue == 6)
  where
    by : (b : Bool) → is_consumed (cond b Dead (Queue queue 0 at)) ≡ false
    by true = refl
    by false = refl

live-behind : (ids : List ℕ) (queue at : ℕ) (app : List ℕ) (m : Message) → is_live_of app m ≡ true → is_live_of app (moves ids queue at m) ≡ true
live-behind ids queue at app m e = by (list_any (λ id. id == m.id) ids)
  where
    by : (b : Bool) → is_live_of app (cond b (record m { place = moved_place queue at }) m) ≡ true
    by true = and_from (bytes_eq m.recording.app app) _ (and_parts (bytes_eq m.recording.app app) _ e).0 (ap not (moved-unspent queue at))
    by false = e

pub may-move-behind : (h : History) (app : List ℕ) (id : ℕ) (of : List ℕ) (queue at : ℕ) (ids : List ℕ) → is_movable app h.messages id ≡ true → is_movable app (with_fact (Moved of queue at ids) h).messages id ≡ true
may-move-behind h app id of queue at ids e =
    ap (λ o. option_map_or (is_live_of app) o false) (found-mapped id (moves ids queue at) h.messages (moves-id ids queue at)) ∙ by (message_of id h.messages) e
  where
    by : (o : Option Message) → option_map_or (is_live_of app) o false ≡ true → option_map_or (is_live_of app) (option_map (moves ids queue at) o) false ≡ true
    by None e = e
    by (Some m) e = live-behind ids queue at app m e

-- what holds of all ids holds of each
pub each-id : (p : ℕ → Bool) (n : ℕ) (ids : List ℕ) → list_all p ids ≡ true → list_any (λ id. id == n) ids ≡ true → p n ≡ true
each-id p n [] all any = absurd (true≢false (sym any))
each-id p n (id ∷ ids) all any = by (id == n) refl (each-id p n ids parts.1) any
  where
    parts : (p id ≡ true) × (list_all p ids ≡ true)
    parts = and_parts (p id) _ all

    by : (b : Bool) → (id == n) ≡ b → (list_any (λ id. id == n) ids ≡ true → p n ≡ true) → (b || list_any (λ id. id == n) ids) ≡ true → p n ≡ true
    by true e on t = ap p (sym (eqb-true id n e)) ∙ parts.0
    by false e on t = on t

-- a message that is moved isn't consumed
pub was-unspent : (h : History) (app ids : List ℕ) (m : Message) → list_all (is_movable app h.messages) ids ≡ true → message_of m.id h.messages ≡ Some m → list_any (λ id. id == m.id) ids ≡ true → is_consumed m.place ≡ false
was-unspent h app ids m all found there = by (is_consumed m.place) (and_parts (bytes_eq m.recording.app app) _ live).1
  where
    live : is_live_of app m ≡ true
    live = ap (λ o. option_map_or (is_live_of app) o false) (sym found) ∙ each-id (is_movable app h.messages) m.id ids all there

    by : (b : Bool) → not b ≡ true → b ≡ false
    by true e = absurd (true≢false (sym e))
    by false e = refl
