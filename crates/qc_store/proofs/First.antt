-- The first message by due moment and id, found by looking at one after another.
use Rattle.std.proofs.Common.{◌≡◌, ◌∙◌, ℕ, ◌+◌, ◌<◌, ◌≤◌, zero, suc, List, [], ◌∷◌, ◌++◌, Bool, true, false, cond, not, ◌&&◌, All, Contains, length, get_or, filter, take, Option, option_and_then, Some, None, MatchOption, refl, sym, ap, subst, arith, true≢false, if◌then◌else◌}
use Rattle.std.specs.List.{list_any}
use Rattle.std.specs.Str.{bytes_eq}
use Rattle.std.proofs.lemmas.Bool.Decides.{nat_tests}
use Rattle.std.proofs.lemmas.List.{take_more, take_all}
use Rattle.std.proofs.lemmas.List.Folds.{list_any_none, list_any_at}
use Rattle.std.proofs.lemmas.List.Elements.{All-head, All-tail, All-push, All-weaker, All-filter, All-contains_itself, Contains-append_left, Contains-push, filter_passes}
use Rattle.qc_base.specs.declared.fact.Place.{Place}
use Rattle.qc_base.specs.declared.fact.Place.TheVariants.{Queue, Dead, Consumed}
use Rattle.qc_base.specs.declared.message.Message.{Message}
use Rattle.qc_base.specs.declared.queue.Waiting.{Waiting}
use Rattle.qc_base.specs.Messages.{comes_before, waiting_as}
use Rattle.qc_store.specs.Due.{is_queued, is_behind, is_before, first_by, may_be_next, sooner, queued_messages, queued_as, next_due}
use Rattle.qc_store.specs.Stored.{IdsRise}
use Rattle.qc_store.proofs.InOrder.{find_only}

-- the order

itself : (w : Waiting) → comes_before w w ≡ false
itself w = grind (arith, nat_tests)

-- what isn't in front of b isn't in front of a, which is in front of b
in_front : (a b c : Waiting) → comes_before a b ≡ true → comes_before c b ≡ false → comes_before c a ≡ false
in_front a b c e f = grind (arith, nat_tests)

-- two of which none is in front of the other have one id
one_id : (a b : Waiting) → comes_before a b ≡ false → comes_before b a ≡ false → a.id ≡ b.id
one_id a b e f = grind (arith, nat_tests)

shown_id : (id : ℕ) (place : Place) → (waiting_as id place).id ≡ id
shown_id id (Queue q tries due) = refl
shown_id id Dead = refl
shown_id id (Consumed a) = refl

-- messages whose ids rise, by their ids

at_id : (ms : List Message) → IdsRise ms → (i j : ℕ) (a b : Message) → i < length ms → j < length ms → get_or ms i a ≡ a → get_or ms j b ≡ b → a.id ≡ b.id → a ≡ b
at_id [] up i j a b li lj x y e = absurd (omega arith)
at_id (m ∷ ms) up zero zero a b li lj x y e = sym x ∙ y
at_id (m ∷ ms) up zero (suc j) a b li lj x y e =
    let above : m.id < (get_or ms j b).id = up.0 j b (omega arith) in
    absurd (omega (arith, ap (λ (z : Message). z.id) x, ap (λ (z : Message). z.id) y))
at_id (m ∷ ms) up (suc i) zero a b li lj x y e =
    let above : m.id < (get_or ms i a).id = up.0 i a (omega arith) in
    absurd (omega (arith, ap (λ (z : Message). z.id) x, ap (λ (z : Message). z.id) y))
at_id (m ∷ ms) up (suc i) (suc j) a b li lj x y e = at_id ms up.1 i j a b (omega arith) (omega arith) x y e

same_message : (ms : List Message) (a b : Message) → IdsRise ms → Contains ms a → Contains ms b → a.id ≡ b.id → a ≡ b
same_message ms a b up x y e = at_id ms up x.0 y.0 a b x.1 y.1 x.2 y.2 e

-- the first of those that pass a test, among these

abbrev pub waiting : Message → Waiting
waiting m = waiting_as m.id m.place

pub record IsFirst (test : Message → Bool) (ms : List Message) (m : Message) : Type 0 where
  pub there : Contains ms m
  pub passes : test m ≡ true
  pub least : All (λ (x : Message). test x ≡ true → is_before x m ≡ false) ms

abbrev pub FirstOf : (Message → Bool) → List Message → Option Message → Type 0
FirstOf test ms o = MatchOption o (All (λ (x : Message). test x ≡ false) ms) (λ m. IsFirst test ms m)

module _ (test : Message → Bool) (ms : List Message) (x : Message) where
  pub passed_over : (o : Option Message) → test x ≡ false → FirstOf test ms o → FirstOf test (ms ++ x ∷ []) o
  passed_over None f h = All-push (λ (y : Message). test y ≡ false) ms x h f
  passed_over (Some m) f h = record {
    there = Contains-append_left ms (x ∷ []) m h.there;
    passes = h.passes;
    least = All-push (λ (y : Message). test y ≡ true → is_before y m ≡ false) ms x h.least (λ t. absurd (true≢false (sym t ∙ f)));
  }

  pub looked_at : (o : Option Message) → test x ≡ true → FirstOf test ms o → FirstOf test (ms ++ x ∷ []) (Some (sooner o x))
  looked_at None t h = record {
    there = Contains-push ms x;
    passes = t;
    least = All-push (λ (y : Message). test y ≡ true → is_before y x ≡ false) ms x
        (All-weaker (λ (y : Message). test y ≡ false) (λ (y : Message). test y ≡ true → is_before y x ≡ false) (λ y f u. absurd (true≢false (sym u ∙ f))) ms h)
        (λ u. itself (waiting x));
  }
  looked_at (Some m) t h = by (is_before x m) refl
    where
      by : (b : Bool) → is_before x m ≡ b → IsFirst test (ms ++ x ∷ []) (if b then x else m)
      by true e = record {
        there = Contains-push ms x;
        passes = t;
        least = All-push (λ (y : Message). test y ≡ true → is_before y x ≡ false) ms x
            (All-weaker (λ (y : Message). test y ≡ true → is_before y m ≡ false) (λ (y : Message). test y ≡ true → is_before y x ≡ false) (λ y g u. in_front (waiting x) (waiting m) (waiting y) e (g u)) ms h.least)
            (λ u. itself (waiting x));
      }
      by false e = record {
        there = Contains-append_left ms (x ∷ []) m h.there;
        passes = h.passes;
        least = All-push (λ (y : Message). test y ≡ true → is_before y m ≡ false) ms x h.least (λ u. e);
      }

module _ (test : Message → Bool) (items : List Message) (i : ℕ) (x : Message) (lt : i < length items) (is : x ≡ get_or items i x) (o : Option Message) (first : FirstOf test (take i items) o) (next : Option Message) where
  more : take i items ++ x ∷ [] ≡ take (i + 1) items
  more = ap (λ y. take i items ++ y ∷ []) is ∙ sym (take_more items i x lt)

  pub first_more : test x ≡ true → next ≡ Some (sooner o x) → FirstOf test (take (i + 1) items) next
  first_more t e = subst (λ (l : List Message). FirstOf test l next) more (subst (λ (p : Option Message). FirstOf test (take i items ++ x ∷ []) p) (sym e) (looked_at test (take i items) x o t first))

  pub first_kept : test x ≡ false → next ≡ o → FirstOf test (take (i + 1) items) next
  first_kept f e = subst (λ (l : List Message). FirstOf test l next) more (subst (λ (p : Option Message). FirstOf test (take i items ++ x ∷ []) p) (sym e) (passed_over test (take i items) x o f first))

-- what passes

filter_none : (test : Message → Bool) (ms : List Message) → All (λ (x : Message). test x ≡ false) ms → filter test ms ≡ []
filter_none test [] h = refl
filter_none test (m ∷ ms) h =
    ap (λ b. cond b (m ∷ filter test ms) (filter test ms)) (All-head (λ (x : Message). test x ≡ false) m ms h) ∙ filter_none test ms (All-tail (λ (x : Message). test x ≡ false) m ms h)

filter_has : (test : Message → Bool) (ms : List Message) (m : Message) → Contains ms m → test m ≡ true → Contains (filter test ms) m
filter_has test [] m c t = absurd (omega (arith, c.1))
filter_has test (x ∷ ms) m c t = by (test x) refl c.0 c.1 c.2 (λ k lt is. filter_has test ms m (k, lt, is) t)
  where
    by : (b : Bool) → test x ≡ b → (i : ℕ) → i < length (x ∷ ms) → get_or (x ∷ ms) i m ≡ m → ((k : ℕ) → k < length ms → get_or ms k m ≡ m → Contains (filter test ms) m) → Contains (cond b (x ∷ filter test ms) (filter test ms)) m
    by true e zero lt is rest = (zero, omega arith, is)
    by false e zero lt is rest = absurd (true≢false (sym t ∙ ap test (sym is) ∙ e))
    by true e (suc i) lt is rest = let found = rest i (omega arith) is in (suc found.0, omega (arith, found.1), found.2)
    by false e (suc i) lt is rest = rest i (omega arith) is

filter_both : (p q : Message → Bool) (ms : List Message) → filter q (filter p ms) ≡ filter (λ x. p x && q x) ms
filter_both p q [] = refl
filter_both p q (m ∷ ms) = by (p m) (filter_both p q ms)
  where
    by : (b : Bool) → filter q (filter p ms) ≡ filter (λ x. p x && q x) ms → filter q (cond b (m ∷ filter p ms) (filter p ms)) ≡ cond (b && q m) (m ∷ filter (λ x. p x && q x) ms) (filter (λ x. p x && q x) ms)
    by true e = ap (λ l. cond (q m) (m ∷ l) l) e
    by false e = e

-- the first of those that pass is the one before which no other comes
module _ (test : Message → Bool) (ms : List Message) (up : IdsRise ms) where
  not_before : (m z : Message) (b : Bool) → is_before m z ≡ b → Contains (filter test ms) m → not (list_any (λ y. is_before y z) (filter test ms)) ≡ true → is_before m z ≡ false
  not_before m z true e c t =
      let any : list_any (λ y. is_before y z) (filter test ms) ≡ true = list_any_at (λ y. is_before y z) (filter test ms) c.0 m c.1 (ap (λ y. is_before y z) c.2 ∙ e) in
      absurd (true≢false (sym t ∙ ap not any))
  not_before m z false e c t = e

  pub first_is : (o : Option Message) → FirstOf test ms o → first_by is_before (filter test ms) ≡ o
  first_is None h = ap (first_by is_before) (filter_none test ms h)
  first_is (Some m) h =
      let xs : List Message = filter test ms in
      let here : Contains xs m = filter_has test ms m h.there h.passes in
      let front : All (λ (y : Message). is_before y m ≡ false) xs = λ k d lt. All-filter test (λ (y : Message). test y ≡ true → is_before y m ≡ false) ms h.least k d lt (filter_passes test ms k d lt) in
      find_only is_before (λ z. not (list_any (λ y. is_before y z) xs)) m xs here (ap not (list_any_none (λ y. is_before y m) xs front)) (λ k d lt t.
      let z : Message = get_or xs k d in
      let ids : z.id ≡ m.id = sym (shown_id z.id z.place) ∙ one_id (waiting z) (waiting m) (front k d lt) (not_before m z (is_before m z) refl here t) ∙ shown_id m.id m.place in
      same_message ms z m up (All-filter test (Contains ms) ms (All-contains_itself ms) k d lt) h.there ids)

-- all were looked at
pub next_is : (app : List ℕ) (after : Option (ℕ × ℕ)) (items ms : List Message) (i : ℕ) (o : Option Message) → length items ≤ i → items ≡ ms → IdsRise ms → FirstOf (may_be_next app after) (take i items) o
    → next_due app after ms ≡ option_and_then (λ (m : Message). queued_as m.id m.place) o
next_is app after items ms i o le same up h =
    let own : Message → Bool = λ m. bytes_eq m.recording.app app in
    let queued : Message → Bool = λ m. is_queued m.place in
    let both : filter (is_behind after) (queued_messages app ms) ≡ filter (may_be_next app after) ms =
    filter_both queued (is_behind after) (filter own ms) ∙ filter_both own (λ m. queued m && is_behind after m) ms in
    let all : FirstOf (may_be_next app after) ms o = subst (λ (l : List Message). FirstOf (may_be_next app after) l o) (take_all i items le ∙ same) h in
    ap (option_and_then (λ (m : Message). queued_as m.id m.place)) (ap (first_by is_before) both ∙ first_is (may_be_next app after) ms up o all)
