-- The attempts that lines leave unfinished, and a log behind their Done.
use Rattle.std.proofs.Common.{◌≡◌, ◌∙◌, ℕ, ◌<◌, ◌≤◌, ◌==◌, nat_lt, List, [], ◌∷◌, ◌++◌, map, filter, filter_map, find, count_by, Bool, true, false, cond, not, ◌&&◌, ◌||◌, Some, refl, sym, ap, subst, arith, true≢false, eq-eqb, append_assoc, append-nil, ⊎_elim, All}
use Rattle.std.specs.List.{list_all, list_any, enumerate_from}
use Rattle.std.specs.Option.{IfSome}
use Rattle.std.proofs.Math.Bool.{and_assoc, or-false}
use Rattle.std.proofs.lemmas.Bool.Decides.{nat_tests}
use Rattle.std.proofs.lemmas.Bool.{and_parts, cases_lt, eqb-true, ltb-true, ne_eqb}
use Rattle.std.proofs.lemmas.List.Elements.{filter_map-append}
use Rattle.std.proofs.lemmas.List.Folds.{list_any-append}
use Rattle.qc_base.specs.declared.log_line.LogLine.{LogLine}
use Rattle.qc_base.specs.declared.log_line.LogLine.TheVariants.{Opened, Registered, Written, Forgot, Done}
use Rattle.qc_base.specs.LogLines.{opened_by, is_done, is_done_line, is_opened, is_unfinished, unfinished}
use Rattle.qc_base.specs.Messages.{in_order}
use Rattle.qc_base.specs.Spelling.{is_attempt, is_id, is_line}
use Rattle.qc_catalogue.specs.declared.catalogue.Catalogue.{Catalogue}
use Rattle.crm_log.specs.Log.{all_lines}
use Rattle.crm_log.proofs.Rising.{has, Rises, in_order_is}
use Rattle.crm_history.specs.declared.ended.Ended.{Ended}
use Rattle.crm_history.specs.Legal.{line_may_follow, lines_follow, is_log_legal}
use Rattle.crm_recovery.specs.Settling.{done_group, done_groups}
use Rattle.crm_recovery.proofs.Picked.{all-given}

-- they are numbers of attempts

opened-fit : (lines : List LogLine) → list_all is_line lines ≡ true → list_all is_attempt (filter_map opened_by lines) ≡ true
opened-fit [] fit = refl
opened-fit (Opened a id ∷ lines) fit =
    let parts = and_parts (is_attempt a && is_id id) (list_all is_line lines) fit in
    rw (and_parts (is_attempt a) (is_id id) parts.0).0 (opened-fit lines parts.1)
opened-fit (Registered a name phases ∷ lines) fit = opened-fit lines (and_parts (is_line (Registered a name phases)) (list_all is_line lines) fit).1
opened-fit (Written a name r ∷ lines) fit = opened-fit lines (and_parts (is_line (Written a name r)) (list_all is_line lines) fit).1
opened-fit (Forgot a name seq ∷ lines) fit = opened-fit lines (and_parts (is_line (Forgot a name seq)) (list_all is_line lines) fit).1
opened-fit (Done a ∷ lines) fit = opened-fit lines (and_parts (is_line (Done a)) (list_all is_line lines) fit).1

kept-fit : (p q : ℕ → Bool) (xs : List ℕ) → list_all p xs ≡ true → list_all p (filter q xs) ≡ true
kept-fit p q [] all = refl
kept-fit p q (x ∷ xs) all = by (q x) (kept-fit p q xs parts.1)
  where
    parts : (p x ≡ true) × (list_all p xs ≡ true)
    parts = and_parts (p x) (list_all p xs) all

    by : (b : Bool) → list_all p (filter q xs) ≡ true → list_all p (cond b (x ∷ filter q xs) (filter q xs)) ≡ true
    by true rest = rw parts.0 rest
    by false rest = rest

found-fits : (p q : ℕ → Bool) (xs : List ℕ) → list_all p xs ≡ true → IfSome (find q xs) (λ n. p n ≡ true)
found-fits p q [] all = tt
found-fits p q (x ∷ xs) all = by (q x) (found-fits p q xs parts.1)
  where
    parts : (p x ≡ true) × (list_all p xs ≡ true)
    parts = and_parts (p x) (list_all p xs) all

    by : (b : Bool) → IfSome (find q xs) (λ n. p n ≡ true) → IfSome (cond b (Some x) (find q xs)) (λ n. p n ≡ true)
    by true rest = parts.0
    by false rest = rest

pub attempts-fit : (lines : List LogLine) → list_all is_line lines ≡ true → All (λ n. is_attempt n ≡ true) (unfinished lines)
attempts-fit lines fit =
    let xs = filter (λ a. not (is_done lines a)) (filter_map opened_by lines) in
    let all : list_all is_attempt xs ≡ true = kept-fit is_attempt (λ a. not (is_done lines a)) (filter_map opened_by lines) (opened-fit lines fit) in
    all-given (λ n. is_attempt n ≡ true) (λ (p : ℕ × ℕ). find (λ x. count_by (λ y. nat_lt y x) xs == p.0) xs) (λ p. found-fits is_attempt (λ x. count_by (λ y. nat_lt y x) xs == p.0) xs all) (enumerate_from 0 xs)

-- numbers in order, each once

insert : ℕ → List ℕ → List ℕ
insert a [] = a ∷ []
insert a (x ∷ xs) = cond (nat_lt a x) (a ∷ x ∷ xs) (cond (a == x) (x ∷ xs) (x ∷ insert a xs))

sorted : List ℕ → List ℕ
sorted [] = []
sorted (x ∷ xs) = insert x (sorted xs)

swapped : (a b rest : Bool) → (a || (b || rest)) ≡ (b || (a || rest))
swapped true true rest = refl
swapped true false rest = refl
swapped false true rest = refl
swapped false false rest = refl

twice : (a rest : Bool) → (a || rest) ≡ (a || (a || rest))
twice true rest = refl
twice false rest = refl

has-insert : (a : ℕ) (xs : List ℕ) (n : ℕ) → has (insert a xs) n ≡ ((a == n) || has xs n)
unfolding insert
has-insert a [] n = refl
has-insert a (x ∷ xs) n = by (nat_lt a x) (a == x) refl (has-insert a xs n)
  where
    by : (l e : Bool) → (a == x) ≡ e → has (insert a xs) n ≡ ((a == n) || has xs n) → has (cond l (a ∷ x ∷ xs) (cond e (x ∷ xs) (x ∷ insert a xs))) n ≡ ((a == n) || ((x == n) || has xs n))
    by true e is rest = refl
    by false true is rest =
        let same : a ≡ x = eqb-true a x is in
        twice (x == n) (has xs n) ∙ ap (λ (m : ℕ). (m == n) || ((x == n) || has xs n)) (sym same)
    by false false is rest = ap (λ (b : Bool). (x == n) || b) rest ∙ swapped (x == n) (a == n) (has xs n)

has-sorted : (xs : List ℕ) (n : ℕ) → has (sorted xs) n ≡ has xs n
unfolding sorted
has-sorted [] n = refl
has-sorted (x ∷ xs) n = has-insert x (sorted xs) n ∙ ap (λ (b : Bool). (x == n) || b) (has-sorted xs n)

not-equal : (a x : ℕ) → nat_lt a x ≡ false → (a == x) ≡ false → x < a
not-equal a x l e = ⊎_elim (λ (lt : a < x). absurd (true≢false (sym (yes a x lt) ∙ l))) (λ (ge : x ≤ a). ⊎_elim (λ (lt : x < a). lt) (λ (le : a ≤ x). absurd (true≢false (sym (eq-eqb a x (omega (arith, ge, le))) ∙ e))) (cases_lt x a)) (cases_lt a x)
  where
    yes : (a n : ℕ) → a < n → nat_lt a n ≡ true
    yes a n h = grind (arith, nat_tests)

rises-insert : (a : ℕ) (xs : List ℕ) → Rises xs → Rises (insert a xs)
unfolding insert
rises-insert a [] up = (λ z none. absurd (true≢false (sym none)), refl)
rises-insert a (x ∷ xs) up = by (nat_lt a x) refl (a == x) refl (rises-insert a xs up.1)
  where
    above : a < x → (z : ℕ) → (b : Bool) → (x == z) ≡ b → (b || has xs z) ≡ true → a < z
    above lt z true is h = omega (arith, lt, eqb-true x z is)
    above lt z false is h = omega (arith, lt, up.0 z h)

    over : x < a → (z : ℕ) → (b : Bool) → (a == z) ≡ b → (b || has xs z) ≡ true → x < z
    over lt z true is h = omega (arith, lt, eqb-true a z is)
    over lt z false is h = up.0 z h

    by : (l : Bool) → nat_lt a x ≡ l → (e : Bool) → (a == x) ≡ e → Rises (insert a xs) → Rises (cond l (a ∷ x ∷ xs) (cond e (x ∷ xs) (x ∷ insert a xs)))
    by true is e is_e rest = (λ z h. above (ltb-true a x is) z (x == z) refl h, up)
    by false is true is_e rest = up
    by false is false is_e rest = (λ z h. over (not-equal a x is is_e) z (a == z) refl (sym (has-insert a xs z) ∙ h), rest)

rises-sorted : (xs : List ℕ) → Rises (sorted xs)
unfolding sorted
rises-sorted [] = refl
rises-sorted (x ∷ xs) = rises-insert x (sorted xs) (rises-sorted xs)

in-order : (xs : List ℕ) → in_order nat_lt xs ≡ sorted xs
in-order xs = in_order_is xs (sorted xs) (rises-sorted xs) (has-sorted xs)

pub in-order-rises : (xs : List ℕ) → Rises (in_order nat_lt xs)
in-order-rises xs = subst Rises (sym (in-order xs)) (rises-sorted xs)

pub has-in-order : (xs : List ℕ) (n : ℕ) → has (in_order nat_lt xs) n ≡ has xs n
has-in-order xs n = ap (λ (l : List ℕ). has l n) (in-order xs) ∙ has-sorted xs n

has-kept : (p : ℕ → Bool) (xs : List ℕ) (n : ℕ) → has (filter p xs) n ≡ (has xs n && p n)
has-kept p [] n = refl
has-kept p (x ∷ xs) n = by (p x) refl (x == n) refl (has-kept p xs n)
  where
    here : (b : Bool) → p x ≡ b → (x == n) ≡ true → p n ≡ b
    here b e same = ap p (sym (eqb-true x n same)) ∙ e

    none : (t : Bool) → (t && false) ≡ false
    none true = refl
    none false = refl

    by : (b : Bool) → p x ≡ b → (c : Bool) → (x == n) ≡ c → has (filter p xs) n ≡ (has xs n && p n) → has (cond b (x ∷ filter p xs) (filter p xs)) n ≡ ((c || has xs n) && p n)
    by true e true f on = ap (λ t. t || has (filter p xs) n) f ∙ sym (here true e f)
    by true e false f on = ap (λ t. t || has (filter p xs) n) f ∙ on
    by false e true f on = on ∙ ap (λ t. has xs n && t) (here false e f) ∙ none (has xs n) ∙ sym (here false e f)
    by false e false f on = on

-- an attempt is one of them exactly where it is unfinished
pub has-unfinished : (lines : List LogLine) (n : ℕ) → has (unfinished lines) n ≡ is_unfinished lines n
has-unfinished lines n = has-in-order (filter (λ a. not (is_done lines a)) (filter_map opened_by lines)) n ∙ has-kept (λ a. not (is_done lines a)) (filter_map opened_by lines) n

-- lines Done

pub done-lines : (ns : List ℕ) → all_lines (map done_group ns) ≡ map Done ns
done-lines [] = refl
done-lines (a ∷ ns) = ap (λ (l : List LogLine). Done a ∷ l) (done-lines ns)

none-opened : (ns : List ℕ) → filter_map opened_by (map Done ns) ≡ []
none-opened [] = refl
none-opened (a ∷ ns) = none-opened ns

same-opened : (lines : List LogLine) (ns : List ℕ) → filter_map opened_by (lines ++ map Done ns) ≡ filter_map opened_by lines
same-opened lines ns = filter_map-append opened_by lines (map Done ns) ∙ ap (λ (l : List ℕ). filter_map opened_by lines ++ l) (none-opened ns) ∙ append-nil (filter_map opened_by lines)

done-among : (ns : List ℕ) (n : ℕ) → list_any (is_done_line n) (map Done ns) ≡ has ns n
done-among [] n = refl
done-among (a ∷ ns) n = ap (λ (b : Bool). (a == n) || b) (done-among ns n)

done-behind : (lines : List LogLine) (ns : List ℕ) (n : ℕ) → is_done (lines ++ map Done ns) n ≡ (is_done lines n || has ns n)
done-behind lines ns n = list_any-append (is_done_line n) lines (map Done ns) ∙ ap (λ (b : Bool). is_done lines n || b) (done-among ns n)

none-kept : (p : ℕ → Bool) (xs : List ℕ) → ((n : ℕ) → has xs n ≡ true → p n ≡ false) → filter p xs ≡ []
none-kept p [] no_one = refl
none-kept p (x ∷ xs) no_one =
    let rest = none-kept p xs (λ n h. no_one n (there (x == n) (has xs n) h)) in
    ap (λ (b : Bool). cond b (x ∷ filter p xs) (filter p xs)) (no_one x (ap (λ (b : Bool). b || has xs x) (eq-eqb x x refl))) ∙ rest
  where
    there : (a b : Bool) → b ≡ true → (a || b) ≡ true
    there true b h = refl
    there false b h = h

-- behind Done of all of them none is left
pub all-finished : (lines : List LogLine) → unfinished (lines ++ all_lines (done_groups lines)) ≡ []
all-finished lines =
    let ns = unfinished lines in
    let opened = filter_map opened_by lines in
    ap (λ (l : List LogLine). unfinished (lines ++ l)) (done-lines ns)
    ∙ ap (λ (xs : List ℕ). in_order nat_lt (filter (λ a. not (is_done (lines ++ map Done ns) a)) xs)) (same-opened lines ns)
    ∙ ap (in_order nat_lt) (none-kept (λ a. not (is_done (lines ++ map Done ns) a)) opened (λ n h.
    ap not (done-behind lines ns n ∙ ap (λ (b : Bool). is_done lines n || b) (has-unfinished lines n)) ∙ both (has opened n) (is_done lines n) h))
  where
    both : (o d : Bool) → o ≡ true → not (d || (o && not d)) ≡ false
    both o true h = refl
    both true false h = refl
    both false false h = absurd (true≢false (sym h))

-- and each of them may follow

module _ (c : Catalogue) (sent : ℕ) (ended : List Ended) where
  pub follow-append : (before xs ys : List LogLine) → lines_follow c sent ended before (xs ++ ys) ≡ (lines_follow c sent ended before xs && lines_follow c sent ended (before ++ xs) ys)
  follow-append before [] ys = ap (λ (b : List LogLine). lines_follow c sent ended b ys) (sym (append-nil before))
  follow-append before (x ∷ xs) ys =
      ap (λ (b : Bool). line_may_follow c sent ended before x && b) (follow-append (before ++ x ∷ []) xs ys ∙ ap (λ (b : List LogLine). lines_follow c sent ended (before ++ x ∷ []) xs && lines_follow c sent ended b ys) (append_assoc before (x ∷ []) xs))
      ∙ sym (and_assoc (line_may_follow c sent ended before x) (lines_follow c sent ended (before ++ x ∷ []) xs) (lines_follow c sent ended (before ++ x ∷ xs) ys))

  -- one that isn't this one stays unfinished
  other-left : (lines : List LogLine) (a n : ℕ) → a < n → is_unfinished lines n ≡ true → is_unfinished (lines ++ Done a ∷ []) n ≡ true
  other-left lines a n lt h =
      let differs : (a == n) ≡ false = ne_eqb a n (λ same. omega (arith, lt, same)) in
      ap (λ (xs : List ℕ). list_any (λ m. m == n) xs && not (is_done (lines ++ Done a ∷ []) n)) (same-opened lines (a ∷ []))
      ∙ ap (λ (b : Bool). is_opened lines n && not b) (done-behind lines (a ∷ []) n ∙ ap (λ (b : Bool). is_done lines n || (b || false)) differs ∙ or-false (is_done lines n)) ∙ h

  dones-follow : (lines : List LogLine) (ns : List ℕ) → Rises ns → ((n : ℕ) → has ns n ≡ true → is_unfinished lines n ≡ true) → lines_follow c sent ended lines (map Done ns) ≡ true
  dones-follow lines [] up each = refl
  dones-follow lines (a ∷ ns) up each =
      rw (each a (ap (λ (b : Bool). b || has ns a) (eq-eqb a a refl)))
      (dones-follow (lines ++ Done a ∷ []) ns up.1 (λ n h. other-left lines a n (up.0 n h) (each n (there (a == n) (has ns n) h))))
    where
      there : (x y : Bool) → y ≡ true → (x || y) ≡ true
      there true y h = refl
      there false y h = h

  pub legal-behind : (lines : List LogLine) → is_log_legal c sent ended lines ≡ true → is_log_legal c sent ended (lines ++ all_lines (done_groups lines)) ≡ true
  legal-behind lines legal =
      ap (λ (l : List LogLine). is_log_legal c sent ended (lines ++ l)) (done-lines (unfinished lines))
      ∙ follow-append [] lines (map Done (unfinished lines))
      ∙ rw legal (dones-follow lines (unfinished lines) (in-order-rises (filter (λ a. not (is_done lines a)) (filter_map opened_by lines))) (λ n h. sym (has-unfinished lines n) ∙ h))
