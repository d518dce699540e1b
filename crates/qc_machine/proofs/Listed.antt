-- The listings of all queues and the consumed ids hold each message once.
use Rattle.std.proofs.Common.{◌≡◌, ◌∙◌, ℕ, ◌+◌, ◌≤◌, ◌<◌, ◌==◌, zero, suc, List, [], ◌∷◌, All, Bool, true, false, not, cond, ◌&&◌, map, filter, count_by, sum_by, refl, sym, ap, arith, true≢false, Some, find, is_some, leb, leb-true}
use Rattle.std.specs.List.{list_any, flat_map}
use Rattle.std.specs.Str.{bytes_eq}
use Rattle.std.proofs.lemmas.Bool.{and_parts, and_right, or_parts, not-true}
use Rattle.std.proofs.lemmas.Bool.Decides.{nat_tests}
use Rattle.std.proofs.lemmas.List.Elements.{All-head, All-tail, All-filter, All-map, All-weaker, recursion_from_All}
use Rattle.std.proofs.lemmas.List.Sorted.{sum_by-IsPermutation}
use Rattle.std.proofs.lemmas.Slice.Eq.{bytes_eq-Decides}
use Rattle.qc_base.specs.declared.fact.Place.{Place}
use Rattle.qc_base.specs.declared.fact.Place.TheVariants.{Queue, Dead, Consumed}
use Rattle.qc_base.specs.declared.message.Message.{Message}
use Rattle.qc_base.specs.declared.queue.Waiting.{Waiting}
use Rattle.qc_base.specs.Messages.{comes_before, in_queue, waiting_as, of_app, listing, is_consumed, consumed_ids}
use Rattle.qc_catalogue.specs.declared.catalogue.App.{App}
use Rattle.qc_catalogue.specs.Lookup.{app_named}
use Rattle.qc_catalogue.specs.Orderly.{are_apart}
use Rattle.qc_store.specs.Stored.{IdsRise}
use Rattle.qc_store.proofs.Listings.{count-cons, count_map}
use Rattle.qc_store.proofs.Tallying.{one_if}
use Rattle.qc_machine.specs.History.{History}
use Rattle.qc_machine.specs.Once.{listed_in, listed}
use Rattle.qc_machine.specs.Orderly.{is_place}
use Rattle.qc_machine.proofs.Bools.{and-true}
use Rattle.qc_machine.proofs.Counts.{count-append, count-filter, count-flat_map, sum-plus, sum-same, sum-zero}
use Rattle.qc_machine.proofs.Sorting.{AreApart, in_order-permutes}

rise-filter : (p : Message → Bool) (ms : List Message) → IdsRise ms → IdsRise (filter p ms)
rise-filter p [] up = tt
rise-filter p (m ∷ ms) up = by (p m) (rise-filter p ms up.1)
  where
    by : (b : Bool) → IdsRise (filter p ms) → IdsRise (cond b (m ∷ filter p ms) (filter p ms))
    by true rest = (All-filter p (λ (x : Message). m.id < x.id) ms up.0, rest)
    by false rest = rest

-- waiting messages of different ids are apart

abbrev shown : Message → Waiting
shown m = waiting_as m.id m.place

shown-id : (id : ℕ) (place : Place) → (waiting_as id place).id ≡ id
shown-id id (Queue q tries due) = refl
shown-id id Dead = refl
shown-id id (Consumed a) = refl

itself : (w : Waiting) → comes_before w w ≡ false
itself w = grind (arith, nat_tests)

one_of_two : (a b : Waiting) → a.id < b.id → comes_before b a ≡ not (comes_before a b)
one_of_two a b lt = grind (arith, nat_tests)

one_way : (a b : Waiting) → comes_before a b ≡ true → comes_before b a ≡ false
one_way a b h = grind (arith, nat_tests)

through : (a b c : Waiting) → comes_before a b ≡ true → comes_before b c ≡ true → comes_before a c ≡ true
through a b c h k = grind (arith, nat_tests)

apart : (ms : List Message) → IdsRise ms → AreApart comes_before (map shown ms)
apart [] up = tt
apart (m ∷ ms) up =
    let P : Waiting → Type 0 = λ y. comes_before y (shown m) ≡ not (comes_before (shown m) y) in (
      recursion_from_All P (map shown ms) (All-map P shown ms (All-weaker (λ (x : Message). m.id < x.id) (λ (x : Message). P (shown x))
          (λ x lt. one_of_two (shown m) (shown x) (omega (arith, lt, shown-id m.id m.place, shown-id x.id x.place))) ms up.0)),
      apart ms up.1,
    )

-- one listing

pub listing-count : (p : ℕ → Bool) (app : List ℕ) (queue : ℕ) (ms : List Message) → IdsRise ms
    → count_by p (map (λ (w : Waiting). w.id) (listing app queue ms)) ≡ count_by (λ (m : Message). bytes_eq m.recording.app app && (in_queue queue m.place && p m.id)) ms
listing-count p app queue ms up =
    let own : Message → Bool = λ m. bytes_eq m.recording.app app in
    let here : Message → Bool = λ m. in_queue queue m.place in
    let kept : List Message = filter here (filter own ms) in
    count_map p (λ (w : Waiting). w.id) (listing app queue ms)
    ∙ sum_by-IsPermutation (λ w. one_if (p w.id)) (map shown kept) (listing app queue ms) (in_order-permutes comes_before through one_way (map shown kept) itself (apart kept (rise-filter here (filter own ms) (rise-filter own ms up))))
    ∙ count_map (λ (w : Waiting). p w.id) shown kept
    ∙ (λ i. count_by (λ (m : Message). p (shown-id m.id m.place i)) kept)
    ∙ count-filter (λ (m : Message). p m.id) here (filter own ms)
    ∙ count-filter (λ (m : Message). here m && p m.id) own ms

pub consumed-count : (p : ℕ → Bool) (app : List ℕ) (ms : List Message) → count_by p (consumed_ids app ms) ≡ count_by (λ (m : Message). bytes_eq m.recording.app app && (is_consumed m.place && p m.id)) ms
consumed-count p app ms =
    count_map p (λ (m : Message). m.id) (filter (λ (m : Message). is_consumed m.place) (of_app app ms))
    ∙ count-filter (λ (m : Message). p m.id) (λ (m : Message). is_consumed m.place) (of_app app ms)
    ∙ count-filter (λ (m : Message). is_consumed m.place && p m.id) (λ (m : Message). bytes_eq m.recording.app app) ms

-- all of an application's: each message stands in one place

abbrev queues : List ℕ
queues = 0 ∷ 1 ∷ 2 ∷ 3 ∷ 4 ∷ 5 ∷ 6 ∷ []

abbrev stands : (ℕ → Bool) → List ℕ → ℕ → Message → Bool
stands p app q m = bytes_eq m.recording.app app && (in_queue q m.place && p m.id)

abbrev is_spent : (ℕ → Bool) → List ℕ → Message → Bool
is_spent p app m = bytes_eq m.recording.app app && (is_consumed m.place && p m.id)

abbrev is_own : (ℕ → Bool) → List ℕ → Message → Bool
is_own p app m = bytes_eq m.recording.app app && p m.id

one-queue : (q : ℕ) → q ≤ 5 → sum_by (λ n. one_if ((q == n) && true)) queues + 0 ≡ 1
one-queue zero h = refl
one-queue (suc zero) h = refl
one-queue (suc (suc zero)) h = refl
one-queue (suc (suc (suc zero))) h = refl
one-queue (suc (suc (suc (suc zero)))) h = refl
one-queue (suc (suc (suc (suc (suc zero))))) h = refl
one-queue (suc (suc (suc (suc (suc (suc q)))))) h = absurd (omega arith)

one-place : (a b final : Bool) (place : Place) → is_place final place ≡ true → sum_by (λ q. one_if (a && (in_queue q place && b))) queues + one_if (a && (is_consumed place && b)) ≡ one_if (a && b)
one-place false b final place h = refl
one-place true false final place h =
    omega (arith, sum-same (λ q. one_if (in_queue q place && false)) (λ q. 0) (λ q. ap one_if (and_right (in_queue q place) false refl)) queues, ap one_if (and_right (is_consumed place) false refl))
one-place true true final Dead h = refl
one-place true true final (Consumed n) h = refl
one-place true true final (Queue q tries due) h = one-queue q (leb-true q 5 (and_parts (leb q 5) _ h).0)

abbrev pub IsPlaced : Message → Type 0
IsPlaced m = is_place m.final_class m.place ≡ true

in-places : (p : ℕ → Bool) (app : List ℕ) (ms : List Message) → All IsPlaced ms → sum_by (λ q. count_by (stands p app q) ms) queues + count_by (is_spent p app) ms ≡ count_by (is_own p app) ms
in-places p app [] all = refl
in-places p app (m ∷ ms) all =
    let split : sum_by (λ q. count_by (stands p app q) (m ∷ ms)) queues ≡ sum_by (λ q. one_if (stands p app q m)) queues + sum_by (λ q. count_by (stands p app q) ms) queues =
    sum-same (λ q. count_by (stands p app q) (m ∷ ms)) (λ q. one_if (stands p app q m) + count_by (stands p app q) ms) (λ q. count-cons (stands p app q) m ms) queues
    ∙ sum-plus (λ q. one_if (stands p app q m)) (λ q. count_by (stands p app q) ms) queues in
    omega (
      arith,
      split,
      one-place (bytes_eq m.recording.app app) (p m.id) m.final_class m.place (All-head IsPlaced m ms all),
      in-places p app ms (All-tail IsPlaced m ms all),
      count-cons (is_spent p app) m ms,
      count-cons (is_own p app) m ms,
    )

listed_in-count : (p : ℕ → Bool) (h : History) (app : List ℕ) → IdsRise h.messages → All IsPlaced h.messages → count_by p (listed_in h app) ≡ count_by (is_own p app) h.messages
listed_in-count p h app up all =
    let ms : List Message = h.messages in
    let of : ℕ → List ℕ = λ q. map (λ (w : Waiting). w.id) (listing app q ms) in
    count-append p (flat_map of queues) (consumed_ids app ms)
    ∙ ap (λ n. n + count_by p (consumed_ids app ms)) (count-flat_map p of queues ∙ sum-same (λ q. count_by p (of q)) (λ q. count_by (stands p app q) ms) (λ q. listing-count p app q ms up) queues)
    ∙ ap (λ n. sum_by (λ q. count_by (stands p app q) ms) queues + n) (consumed-count p app ms)
    ∙ in-places p app ms all

-- all applications: each message is of one

abbrev pub IsOfOne : List App → Message → Type 0
IsOfOne apps m = count_by (λ (a : App). bytes_eq m.recording.app a.name) apps ≡ 1

of-apps : (p : ℕ → Bool) (m : Message) (apps : List App) → sum_by (λ (a : App). one_if (is_own p a.name m)) apps ≡ cond (p m.id) (count_by (λ (a : App). bytes_eq m.recording.app a.name) apps) 0
of-apps p m apps = by (p m.id)
  where
    by : (b : Bool) → sum_by (λ (a : App). one_if (bytes_eq m.recording.app a.name && b)) apps ≡ cond b (count_by (λ (a : App). bytes_eq m.recording.app a.name) apps) 0
    by true = sum-same (λ (a : App). one_if (bytes_eq m.recording.app a.name && true)) (λ (a : App). one_if (bytes_eq m.recording.app a.name)) (λ a. ap one_if (and-true (bytes_eq m.recording.app a.name))) apps
    by false = sum-same (λ (a : App). one_if (bytes_eq m.recording.app a.name && false)) (λ (a : App). 0) (λ a. ap one_if (and_right (bytes_eq m.recording.app a.name) false refl)) apps ∙ sum-zero apps

over-apps : (p : ℕ → Bool) (apps : List App) (ms : List Message) → All (IsOfOne apps) ms → sum_by (λ (a : App). count_by (is_own p a.name) ms) apps ≡ count_by (λ (m : Message). p m.id) ms
over-apps p apps [] all = sum-zero apps
over-apps p apps (m ∷ ms) all =
    sum-same (λ (a : App). count_by (is_own p a.name) (m ∷ ms)) (λ (a : App). one_if (is_own p a.name m) + count_by (is_own p a.name) ms) (λ a. count-cons (is_own p a.name) m ms) apps
    ∙ sum-plus (λ (a : App). one_if (is_own p a.name m)) (λ (a : App). count_by (is_own p a.name) ms) apps
    ∙ ap (λ n. n + sum_by (λ (a : App). count_by (is_own p a.name) ms) apps) (of-apps p m apps ∙ ap (λ n. cond (p m.id) n 0) (All-head (IsOfOne apps) m ms all))
    ∙ ap (λ n. one_if (p m.id) + n) (over-apps p apps ms (All-tail (IsOfOne apps) m ms all))
    ∙ sym (count-cons (λ (x : Message). p x.id) m ms)

-- what is listed of all is the messages, whatever is asked of their ids
pub listed-count : (p : ℕ → Bool) (h : History) → IdsRise h.messages → All IsPlaced h.messages → All (IsOfOne h.catalogue.apps) h.messages → count_by p (listed h) ≡ count_by (λ (m : Message). p m.id) h.messages
listed-count p h up placed one =
    count-flat_map p (λ (a : App). listed_in h a.name) h.catalogue.apps
    ∙ sum-same (λ (a : App). count_by p (listed_in h a.name)) (λ (a : App). count_by (is_own p a.name) h.messages) (λ a. listed_in-count p h a.name up placed) h.catalogue.apps
    ∙ over-apps p h.catalogue.apps h.messages one

-- an application that is there stands for one, where no name comes twice

none-later : (name : List ℕ) (a : App) (apps : List App) → bytes_eq name a.name ≡ true → list_any (bytes_eq a.name) (map (λ (x : App). x.name) apps) ≡ false → count_by (λ (x : App). bytes_eq name x.name) apps ≡ 0
none-later name a [] e h = refl
none-later name a (x ∷ apps) e h =
    let parts = or_parts (bytes_eq a.name x.name) _ h in
    let same : name ≡ a.name = (bytes_eq-Decides name a.name).0 e in
    count-cons (λ (y : App). bytes_eq name y.name) x apps ∙ omega (arith, ap one_if (ap (λ n. bytes_eq n x.name) same ∙ parts.0), none-later name a apps e parts.1)

pub one-app : (name : List ℕ) (apps : List App) → are_apart (map (λ (a : App). a.name) apps) ≡ true → is_some (app_named name apps) ≡ true → count_by (λ (a : App). bytes_eq name a.name) apps ≡ 1
one-app name [] apart there = absurd (true≢false (sym there))
one-app name (a ∷ apps) apart there = by (bytes_eq a.name name) refl (bytes_eq name a.name) refl (one-app name apps parts.1) there
  where
    parts : (not (list_any (bytes_eq a.name) (map (λ (x : App). x.name) apps)) ≡ true) × (are_apart (map (λ (x : App). x.name) apps) ≡ true)
    parts = and_parts (not (list_any (bytes_eq a.name) (map (λ (x : App). x.name) apps))) _ apart

    flip : (x y : List ℕ) → bytes_eq x y ≡ true → bytes_eq y x ≡ true
    flip x y e = (bytes_eq-Decides y x).1 (sym ((bytes_eq-Decides x y).0 e))

    by : (b : Bool) → bytes_eq a.name name ≡ b → (d : Bool) → bytes_eq name a.name ≡ d → (is_some (app_named name apps) ≡ true → count_by (λ (x : App). bytes_eq name x.name) apps ≡ 1)
        → is_some (cond b (Some a) (find (λ (x : App). bytes_eq x.name name) apps)) ≡ true → count_by (λ (x : App). bytes_eq name x.name) (a ∷ apps) ≡ 1
    by true e true f rest h = count-cons (λ (x : App). bytes_eq name x.name) a apps ∙ omega (arith, ap one_if f, none-later name a apps f (not-true _ parts.0))
    by true e false f rest h = absurd (true≢false (sym (flip a.name name e) ∙ f))
    by false e true f rest h = absurd (true≢false (sym (flip name a.name f) ∙ e))
    by false e false f rest h = count-cons (λ (x : App). bytes_eq name x.name) a apps ∙ omega (arith, ap one_if f, rest h)
