-- A message that is taken: its attempt begins beside those that are held.
use Rattle.std.proofs.Common.{◌≡◌, ◌∙◌, ℕ, ◌==◌, List, [], ◌∷◌, Bool, true, false, not, cond, ◌&&◌, ◌||◌, length, map, find, filter, filter_map, refl, sym, ap, arith, true≢false, Some, ne_eqb, eqb-true}
use Rattle.std.specs.List.{list_any}
use Rattle.std.proofs.lemmas.Bool.{and_parts, or_parts, not-true, eqb-false, not_from_false}
use Rattle.qc_base.specs.declared.message.Message.{Message}
use Rattle.qc_base.specs.declared.log_line.Stage.TheVariants.{Calls, Ready}
use Rattle.qc_base.specs.declared.recording.Row.{Row}
use Rattle.qc_base.specs.Rows.{row_eq}
use Rattle.qc_base.specs.Spelling.{is_attempt}
use Rattle.std.specs.Str.{bytes_eq}
use Rattle.qc_base.specs.Messages.{message_of}
use Rattle.qc_play.specs.Play.{Play}
use Rattle.qc_play.proofs.RowNames.{row-same}
use Rattle.qc_store.specs.Due.{is_queued, is_before}
use Rattle.qc_txn.specs.Outcome.{all_played, play_all}
use Rattle.qc_txn.specs.Parts.{Part, parts_of, rows_of_attempt}
use Rattle.qc_rows.specs.Holdings.{is_held, is_row_held}
use Rattle.qc_listener.specs.Choice.{is_due, kind_at, due_messages, has_free_rows}
use Rattle.qc_machine.specs.Attempts.{holdings, next_attempt, chosen_message}
use Rattle.qc_machine.specs.History.{settled_amount, attempt_of, is_new_attempt, plays_inside}
use Rattle.qc_machine.specs.Holding.{has_row, first_play, Holds, HasCome, IsHeldIn, AreApart}
use Rattle.qc_machine.specs.Orderly.{IsOrderly, IsMessageOf}
use Rattle.qc_machine.specs.State.{State, HeldAttempt, held_attempts}
use Rattle.qc_machine.specs.Taking.{new_attempt}
use Rattle.qc_machine.proofs.Ended.{rows-of-view}
use Rattle.qc_machine.proofs.Keeping.{message-kept}
use Rattle.qc_machine.proofs.Numbered.{found-is, each-found}
use Rattle.qc_machine.proofs.PlayerSlots.{any-map, none-held, row-free, id-free, past-greatest, greatest-append}

-- what is found among those that pass a test
found-in : {A : Type 0} (p q : A → Bool) (xs : List A) (x : A) → find p (filter q xs) ≡ Some x → find (λ y. q y && p y) xs ≡ Some x
found-in p q [] x e = e
found-in {A = A} p q (y ∷ ys) x e = by (q y) (found-in p q ys x) e
  where
    here : (b : Bool) → (find p (filter q ys) ≡ Some x → find (λ y. q y && p y) ys ≡ Some x) → cond b (Some y) (find p (filter q ys)) ≡ Some x → cond b (Some y) (find (λ y. q y && p y) ys) ≡ Some x
    here true rest e = e
    here false rest e = rest e

    by : (b : Bool) → (find p (filter q ys) ≡ Some x → find (λ y. q y && p y) ys ≡ Some x) → find p (cond b (y ∷ filter q ys) (filter q ys)) ≡ Some x → cond (b && p y) (Some y) (find (λ y. q y && p y) ys) ≡ Some x
    by true rest e = here (p y) rest e
    by false rest e = rest e

-- what is told of a message that is chosen
pub record IsChosen (s : State) (m : Message) : Type 0 where
  pub message : IsMessageOf s.history.catalogue m
  pub found : message_of m.id s.history.messages ≡ Some m
  pub due : is_due s.last m.place ≡ true
  pub free : is_held (holdings s) m.id ≡ false
  pub rows : list_any (is_row_held (holdings s)) (rows_of_attempt s.history.catalogue m.recording (kind_at m.place)) ≡ false

pub chosen-is : (s : State) (app : List ℕ) (m : Message) → IsOrderly s.history → chosen_message s app ≡ Some m → IsChosen s m
chosen-is s app m orderly e = record {
  message = kept.0;
  found = there.0;
  due = due.0;
  free = not-true _ due.1;
  rows = not-true _ free;
}
  where
    ms : List Message
    ms = s.history.messages

    own : Message → Bool
    own x = bytes_eq x.recording.app app

    queued : Message → Bool
    queued x = is_queued x.place

    due_test : Message → Bool
    due_test x = is_due s.last x.place && not (is_held (holdings s) x.id)

    free_test : Message → Bool
    free_test = has_free_rows s.history.catalogue (holdings s)

    first : Message → Bool
    first x = not (list_any (λ y. is_before y x) (filter free_test (due_messages (holdings s) s.last app s.history.messages)))

    found : find (λ x. own x && (queued x && (due_test x && (free_test x && first x)))) s.history.messages ≡ Some m
    found =
        found-in (λ x. queued x && (due_test x && (free_test x && first x))) own s.history.messages m
        (found-in (λ x. due_test x && (free_test x && first x)) queued (filter own s.history.messages) m
        (found-in (λ x. free_test x && first x) due_test (filter queued (filter own s.history.messages)) m
        (found-in first free_test (due_messages (holdings s) s.last app s.history.messages) m e)))

    is : (message_of m.id s.history.messages ≡ Some m) × ((own m && (queued m && (due_test m && (free_test m && first m)))) ≡ true)
    is = found-is (λ (x : Message). message_of x.id s.history.messages ≡ Some x) (λ x. own x && (queued x && (due_test x && (free_test x && first x)))) s.history.messages m (each-found 1 s.history.messages orderly.numbered) found

    there : (message_of m.id s.history.messages ≡ Some m) × (own m ≡ true)
    there = (is.0, (and_parts (own m) _ is.1).0)

    tests : (due_test m ≡ true) × ((free_test m && first m) ≡ true)
    tests = and_parts (due_test m) _ (and_parts (queued m) _ (and_parts (own m) _ is.1).1).1

    due : (is_due s.last m.place ≡ true) × (not (is_held (holdings s) m.id) ≡ true)
    due = and_parts (is_due s.last m.place) _ tests.0

    free : free_test m ≡ true
    free = (and_parts (free_test m) _ tests.1).0

    kept : IsMessageOf s.history.catalogue m × (m.id ≡ m.id)
    kept = message-kept s.history m.id m orderly is.0

-- the number of a new attempt is new

new-number : (s : State) → (is_new_attempt (next_attempt s) s.history ≡ true) × ((i : ℕ) (b : HeldAttempt) → Holds s i b → (b.attempt == next_attempt s) ≡ false)
new-number s =
    let facts : List ℕ = filter_map attempt_of s.history.facts in
    let held : List ℕ = map (λ (h : HeldAttempt). h.attempt) (held_attempts s) in
    let most = greatest-append facts held in (
      not_from_false _ (past-greatest (next_attempt s) facts (omega (arith, most))),
      none-held s (λ (b : HeldAttempt). b.attempt == next_attempt s) (sym (any-map (λ k. k == next_attempt s) (λ (h : HeldAttempt). h.attempt) (held_attempts s)) ∙ past-greatest (next_attempt s) held (omega (arith, most))),
    )

-- rows that are free are held by none
any-row : (p : Row → Bool) (rows : List Row) (r : Row) → list_any p rows ≡ false → has_row rows r ≡ true → p r ≡ false
any-row p [] r none there = absurd (true≢false (sym there))
any-row p (x ∷ rows) r none there = by (row_eq r x) refl there (any-row p rows r parts.1)
  where
    parts : (p x ≡ false) × (list_any p rows ≡ false)
    parts = or_parts (p x) _ none

    by : (b : Bool) → row_eq r x ≡ b → (b || has_row rows r) ≡ true → (has_row rows r ≡ true → p r ≡ false) → p r ≡ false
    by true e t on = ap p (row-same r x e) ∙ parts.0
    by false e t on = on t

eq-flip : (a b : ℕ) → (a == b) ≡ false → (b == a) ≡ false
eq-flip a b e = ne_eqb b a (λ h. eqb-false a b e (sym h))

-- without calls nothing is played
none-played : (parts : List Part) (play : Play) → 0 ≡ length parts → play_all parts play ≡ all_played play
none-played [] play e = refl
none-played (p ∷ parts) play e = absurd (omega (arith, e))

-- the attempt on a message that is chosen, where its number is in its range
pub taken-held : (s : State) (m : Message) → IsChosen s m → plays_inside s.history.catalogue m.recording (kind_at m.place) ≡ true → is_attempt (next_attempt s) ≡ true
    → IsHeldIn s.history s.last (new_attempt s m) × ((i : ℕ) (b : HeldAttempt) → Holds s i b → AreApart (new_attempt s m) b)
taken-held s m is inside number = (
  record {
    message = m;
    found = is.found;
    recording = refl;
    rows = rows-of-view (settled_amount s.history.tables s.history.outside) mine;
    inside = inside;
    records = refl;
    attempt = number;
    come = by (0 == length (parts_of s.history.catalogue m.recording (kind_at m.place))) refl;
  },
  λ i b there. record {
    ids = eq-flip b.id m.id (id-free s m.id is.free i b there);
    attempts = eq-flip b.attempt (next_attempt s) (numbers.1 i b there);
    rows = λ r t. row-free s r (any-row (is_row_held (holdings s)) mine r is.rows (ap (λ l. has_row l r) (sym (rows-of-view (settled_amount s.history.tables s.history.outside) mine)) ∙ t)) i b there;
  },
)
  where
    mine : List Row
    mine = rows_of_attempt s.history.catalogue m.recording (kind_at m.place)

    numbers : (is_new_attempt (next_attempt s) s.history ≡ true) × ((i : ℕ) (b : HeldAttempt) → Holds s i b → (b.attempt == next_attempt s) ≡ false)
    numbers = new-number s

    by : (b : Bool) → (0 == length (parts_of s.history.catalogue m.recording (kind_at m.place))) ≡ b → HasCome s.history s.last (record (new_attempt s m) { stage = cond b Ready Calls }) m (cond b Ready Calls)
    by true e = record { is_open = record { due = is.due; kind = refl; new = numbers.0 }; all = eqb-true _ _ e; played = none-played (parts_of s.history.catalogue m.recording (kind_at m.place)) (first_play s.history (new_attempt s m)) (eqb-true _ _ e); why = refl }
    by false e = record { is_open = record { due = is.due; kind = refl; new = numbers.0 }; left = omega (arith, eqb-false _ _ e); played = refl; why = refl }
