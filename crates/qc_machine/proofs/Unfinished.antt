-- The unfinished attempts of a legal log rise, and are those that are opened and not done. An attempt that isn't opened
-- has no line.
use Rattle.std.proofs.Common.{◌≡◌, ◌∙◌, ℕ, ◌==◌, nat_lt, List, [], ◌∷◌, ◌++◌, Bool, true, false, not, cond, ◌&&◌, ◌||◌, filter, filter_map, refl, sym, ap, arith, true≢false}
use Rattle.std.specs.List.{list_all, list_any, AllByRecursion}
use Rattle.std.proofs.lemmas.Bool.{and_parts, and_from, or_parts, or_from, or_left, or_right, eqb-true, eqb-false, eq-eqb, ltb-true, ltb-false, lt-ltb, not-true, not_from_false, false_from_ne_true}
use Rattle.std.proofs.lemmas.List.Folds.{list_any-append}
use Rattle.qc_base.specs.declared.log_line.LogLine.{LogLine}
use Rattle.qc_base.specs.declared.log_line.LogLine.TheVariants.{Opened, Registered, Written, Forgot, Done}
use Rattle.qc_base.specs.declared.log_line.LogRecord.{LogRecord}
use Rattle.qc_base.specs.LogLines.{attempt_of_line, opened_by, is_opened, is_done, is_unfinished, unfinished, unforgotten}
use Rattle.qc_catalogue.specs.declared.catalogue.Catalogue.{Catalogue}
use Rattle.crm_history.specs.declared.ended.Ended.{Ended}
use Rattle.crm_history.specs.Legal.{line_may_follow, lines_follow, is_log_legal}
use Rattle.qc_machine.specs.History.{are_distinct}
use Rattle.qc_machine.specs.Finishable.{is_among, are_rising}
use Rattle.qc_machine.specs.OwnLines.{is_named}
use Rattle.qc_machine.proofs.OwnLines.{no-own, own-opened, own-unforgotten}
use Rattle.qc_machine.proofs.Sorting.{AreApart, IsUp, in_order-up, in_order-any}

-- some of distinct numbers are distinct

among-filter : (p : ℕ → Bool) (a : ℕ) (ns : List ℕ) → is_among a (filter p ns) ≡ (is_among a ns && p a)
among-filter p a [] = refl
among-filter p a (n ∷ ns) = by (n == a) refl (p n) refl (among-filter p a ns)
  where
    by : (t : Bool) → (n == a) ≡ t → (u : Bool) → p n ≡ u → is_among a (filter p ns) ≡ (is_among a ns && p a) → is_among a (cond u (n ∷ filter p ns) (filter p ns)) ≡ ((t || is_among a ns) && p a)
    by true e true f rest = ap (λ b. b || is_among a (filter p ns)) e ∙ sym f ∙ ap p (eqb-true n a e)
    by true e false f rest = rest ∙ none (is_among a ns) (p a) (ap p (sym (eqb-true n a e)) ∙ f) ∙ sym (ap p (sym (eqb-true n a e)) ∙ f)
      where
        none : (b c : Bool) → c ≡ false → (b && c) ≡ false
        none true c e = e
        none false c e = refl
    by false e true f rest = ap (λ b. b || is_among a (filter p ns)) e ∙ rest
    by false e false f rest = rest

distinct-filter : (p : ℕ → Bool) (ns : List ℕ) → are_distinct ns ≡ true → are_distinct (filter p ns) ≡ true
distinct-filter p [] e = refl
distinct-filter p (n ∷ ns) e = by (p n) (and_parts (not (is_among n ns)) _ e) (distinct-filter p ns (and_parts (not (is_among n ns)) _ e).1)
  where
    by : (b : Bool) → (not (is_among n ns) ≡ true) × (are_distinct ns ≡ true) → are_distinct (filter p ns) ≡ true → are_distinct (cond b (n ∷ filter p ns) (filter p ns)) ≡ true
    by true parts rest = and_from (not (is_among n (filter p ns))) _ (not_from_false _ (among-filter p n ns ∙ ap (λ b. b && p n) (not-true _ parts.0))) rest
    by false parts rest = rest

-- numbers in rising order

lt-other : (x y : ℕ) → (y == x) ≡ false → nat_lt y x ≡ not (nat_lt x y)
lt-other x y other = by (nat_lt y x) refl (nat_lt x y) refl
  where
    by : (b : Bool) → nat_lt y x ≡ b → (c : Bool) → nat_lt x y ≡ c → b ≡ not c
    by true e true f = absurd (omega (arith, ltb-true y x e, ltb-true x y f))
    by true e false f = refl
    by false e true f = refl
    by false e false f = absurd (omega (arith, ltb-false y x e, ltb-false x y f, eqb-false y x other))

apart-from : (n : ℕ) (ns : List ℕ) → is_among n ns ≡ false → AllByRecursion (λ y. nat_lt y n ≡ not (nat_lt n y)) ns
apart-from n [] e = tt
apart-from n (m ∷ ns) e = let parts = or_parts (m == n) _ e in (lt-other n m parts.0, apart-from n ns parts.1)

apart : (ns : List ℕ) → are_distinct ns ≡ true → AreApart nat_lt ns
apart [] e = tt
apart (n ∷ ns) e = let parts = and_parts (not (is_among n ns)) _ e in (apart-from n ns (not-true _ parts.0), apart ns parts.1)

through : (a b c : ℕ) → nat_lt a b ≡ true → nat_lt b c ≡ true → nat_lt a c ≡ true
through a b c e f = lt-ltb a c (omega (arith, ltb-true a b e, ltb-true b c f))

one_way : (a b : ℕ) → nat_lt a b ≡ true → nat_lt b a ≡ false
one_way a b e = false_from_ne_true (nat_lt b a) (λ t. absurd (omega (arith, ltb-true a b e, ltb-true b a t)))

not_itself : (a : ℕ) → nat_lt a a ≡ false
not_itself a = false_from_ne_true (nat_lt a a) (λ t. absurd (omega (arith, ltb-true a a t)))

up-below : (n : ℕ) (ns : List ℕ) → AllByRecursion (λ y. (nat_lt n y ≡ true) × (nat_lt y n ≡ false)) ns → list_all (λ m. nat_lt n m) ns ≡ true
up-below n [] up = refl
up-below n (m ∷ ns) up = and_from (nat_lt n m) _ up.0.0 (up-below n ns up.1)

up-rising : (ns : List ℕ) → IsUp nat_lt ns → are_rising ns ≡ true
up-rising [] up = refl
up-rising (n ∷ ns) up = and_from (list_all (λ m. nat_lt n m) ns) _ (up-below n ns up.0) (up-rising ns up.1)

below-none : (n : ℕ) (ns : List ℕ) → list_all (λ m. nat_lt n m) ns ≡ true → is_among n ns ≡ false
below-none n [] e = refl
below-none n (m ∷ ns) e =
    let parts = and_parts (nat_lt n m) _ e in
    or_from (m == n) _ (false_from_ne_true (m == n) (λ t. absurd (omega (arith, ltb-true n m parts.0, eqb-true m n t)))) (below-none n ns parts.1)

-- numbers that rise are distinct
pub rising-distinct : (ns : List ℕ) → are_rising ns ≡ true → are_distinct ns ≡ true
rising-distinct [] e = refl
rising-distinct (n ∷ ns) e =
    let parts = and_parts (list_all (λ m. nat_lt n m) ns) _ e in
    and_from (not (is_among n ns)) _ (not_from_false _ (below-none n ns parts.0)) (rising-distinct ns parts.1)

-- lines of an attempt

line-behind : (a : ℕ) (before : List LogLine) (line : LogLine) → is_named before a ≡ true → is_named (before ++ line ∷ []) a ≡ true
line-behind a before line e = list_any-append (λ l. attempt_of_line l == a) before (line ∷ []) ∙ or_left (is_named before a) _ e

-- an attempt without lines isn't opened, and keeps no record

unnamed-unopened : (a : ℕ) (lines : List LogLine) → is_named lines a ≡ false → is_opened lines a ≡ false
unnamed-unopened a lines e = sym (own-opened a lines) ∙ ap (λ l. is_opened l a) (no-own a lines e)

unnamed-keeps-none : (a : ℕ) (lines : List LogLine) (resource : List ℕ) → is_named lines a ≡ false → unforgotten lines a resource ≡ []
unnamed-keeps-none a lines resource e = sym (own-unforgotten a lines resource) ∙ ap (λ l. unforgotten l a resource) (no-own a lines e)

abbrev undone : List LogLine → List ℕ
undone lines = filter (λ a. not (is_done lines a)) (filter_map opened_by lines)

module _ (c : Catalogue) (sent : ℕ) (ended : List Ended) where
  -- each attempt is opened once, and not behind a line of it
  record AreOpenedOnce (before lines : List LogLine) : Type 0 where
    distinct : are_distinct (filter_map opened_by lines) ≡ true
    fresh : (a : ℕ) → is_named before a ≡ true → is_among a (filter_map opened_by lines) ≡ false

  opened-once : (before lines : List LogLine) → lines_follow c sent ended before lines ≡ true → AreOpenedOnce before lines
  opened-once before [] e = record { distinct = refl; fresh = λ a f. refl }
  opened-once before (line ∷ lines) e =
      by line (and_parts (line_may_follow c sent ended before line) _ e).0 (opened-once (before ++ line ∷ []) lines (and_parts (line_may_follow c sent ended before line) _ e).1)
    where
      by : (line : LogLine) → line_may_follow c sent ended before line ≡ true → AreOpenedOnce (before ++ line ∷ []) lines → AreOpenedOnce before (line ∷ lines)
      by (Opened attempt id) f on =
          let none = not-true _ (and_parts (not (is_named before attempt)) _ f).0 in
          let here : is_named (before ++ Opened attempt id ∷ []) attempt ≡ true =
          list_any-append (λ l. attempt_of_line l == attempt) before (Opened attempt id ∷ []) ∙ or_right (is_named before attempt) _ (or_left (attempt == attempt) false (eq-eqb attempt attempt refl)) in
          record {
            distinct = and_from (not (is_among attempt (filter_map opened_by lines))) _ (not_from_false _ (on.fresh attempt here)) on.distinct;
            fresh = λ a g. or_from (attempt == a) _ (false_from_ne_true (attempt == a) (λ t. true≢false (sym g ∙ ap (λ n. is_named before n) (sym (eqb-true attempt a t)) ∙ none))) (on.fresh a (line-behind a before (Opened attempt id) g));
          }
      by (Registered a r p) f on = record { distinct = on.distinct; fresh = λ b g. on.fresh b (line-behind b before (Registered a r p) g) }
      by (Written a r x) f on = record { distinct = on.distinct; fresh = λ b g. on.fresh b (line-behind b before (Written a r x) g) }
      by (Forgot a r n) f on = record { distinct = on.distinct; fresh = λ b g. on.fresh b (line-behind b before (Forgot a r n) g) }
      by (Done a) f on = record { distinct = on.distinct; fresh = λ b g. on.fresh b (line-behind b before (Done a) g) }

  undone-apart : (lines : List LogLine) → is_log_legal c sent ended lines ≡ true → AreApart nat_lt (undone lines)
  undone-apart lines e = apart (undone lines) (distinct-filter (λ a. not (is_done lines a)) (filter_map opened_by lines) (opened-once [] lines e).distinct)

  pub unfinished-rising : (lines : List LogLine) → is_log_legal c sent ended lines ≡ true → are_rising (unfinished lines) ≡ true
  unfinished-rising lines e = up-rising (unfinished lines) (in_order-up nat_lt through one_way (undone lines) not_itself (undone-apart lines e))

  pub unfinished-among : (lines : List LogLine) → is_log_legal c sent ended lines ≡ true → (a : ℕ) → is_among a (unfinished lines) ≡ is_unfinished lines a
  unfinished-among lines e a =
      in_order-any nat_lt through one_way (λ b. b == a) (undone lines) not_itself (undone-apart lines e)
      ∙ among-filter (λ a. not (is_done lines a)) a (filter_map opened_by lines)

  -- a line but Opened follows lines of its attempt
  known-before : (a : ℕ) (before : List LogLine) (line : LogLine) → is_named before a ≡ false → is_opened (line ∷ []) a ≡ false → line_may_follow c sent ended before line ≡ true
      → (attempt_of_line line == a) ≡ false
  known-before a before line none closed f = false_from_ne_true (attempt_of_line line == a) (λ t. by line (eqb-true (attempt_of_line line) a t) closed f)
    where
      none-opened : (b : ℕ) → b ≡ a → is_unfinished before b ≡ true → ⊥
      none-opened b same e = true≢false (sym (and_parts (is_opened before b) _ e).0 ∙ ap (is_opened before) same ∙ unnamed-unopened a before none)

      by : (line : LogLine) → attempt_of_line line ≡ a → is_opened (line ∷ []) a ≡ false → line_may_follow c sent ended before line ≡ true → ⊥
      by (Opened b id) same closed f = true≢false (sym (eq-eqb b a same) ∙ (or_parts (b == a) _ closed).0)
      by (Registered b r p) same closed f = none-opened b same (and_parts (is_unfinished before b) _ f).0
      by (Written b r x) same closed f = none-opened b same (and_parts (is_unfinished before b) _ f).0
      by (Forgot b r n) same closed f =
          true≢false (sym (and_parts (not (is_done before b)) _ f).1 ∙ (λ i. list_any (λ (x : LogRecord). x.seq == n) (unforgotten before (same i) r)) ∙ ap (list_any (λ (x : LogRecord). x.seq == n)) (unnamed-keeps-none a before r none))
      by (Done b) same closed f = none-opened b same f

  unnamed-behind : (a : ℕ) (before lines : List LogLine) → is_named before a ≡ false → lines_follow c sent ended before lines ≡ true → is_opened lines a ≡ false → is_named lines a ≡ false
  unnamed-behind a before [] none e closed = refl
  unnamed-behind a before (line ∷ lines) none e closed =
      let parts = and_parts (line_may_follow c sent ended before line) _ e in
      let both = opened-parts line closed in
      let other = known-before a before line none both.0 parts.0 in
      let further : is_named (before ++ line ∷ []) a ≡ false = list_any-append (λ l. attempt_of_line l == a) before (line ∷ []) ∙ or_from (is_named before a) _ none (or_from (attempt_of_line line == a) false other refl) in
      or_from (attempt_of_line line == a) _ other (unnamed-behind a (before ++ line ∷ []) lines further parts.1 both.1)
    where
      opened-parts : (line : LogLine) → is_opened (line ∷ lines) a ≡ false → (is_opened (line ∷ []) a ≡ false) × (is_opened lines a ≡ false)
      opened-parts (Opened b id) closed = let parts = or_parts (b == a) _ closed in (or_from (b == a) false parts.0 refl, parts.1)
      opened-parts (Registered b r p) closed = (refl, closed)
      opened-parts (Written b r x) closed = (refl, closed)
      opened-parts (Forgot b r n) closed = (refl, closed)
      opened-parts (Done b) closed = (refl, closed)

  -- an attempt that isn't opened has no line
  pub unopened-unnamed : (lines : List LogLine) (a : ℕ) → is_log_legal c sent ended lines ≡ true → is_opened lines a ≡ false → is_named lines a ≡ false
  unopened-unnamed lines a e closed = unnamed-behind a [] lines refl e closed
