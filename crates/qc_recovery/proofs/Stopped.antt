-- A recovery that was stopped leaves a site that stands for the same history.
use Rattle.std.proofs.Common.{◌≡◌, ◌∙◌, ℕ, ◌<◌, ◌==◌, nat_lt, List, [], ◌∷◌, ◌++◌, length, drop, get_or, map, Bool, true, false, not, ◌&&◌, ◌||◌, true≢false, refl, sym, ap, arith}
use Rattle.std.specs.List.{list_all}
use Rattle.std.proofs.lemmas.Bool.{and_parts, eqb-true, eq-eqb, false_from_ne_true, ltb-true, not-true, or_left, or_parts, or_right}
use Rattle.std.proofs.lemmas.Grind.{flat_map-append}
use Rattle.std.proofs.lemmas.List.Folds.{list_any-append}
use Rattle.qc_base.specs.Rows.{OutsideRows}
use Rattle.qc_base.specs.declared.log_line.LogLine.{LogLine}
use Rattle.qc_base.specs.LogLines.{is_done, is_done_line, is_opened, is_unfinished, unfinished}
use Rattle.crm_driver.specs.Puts.{RowPut}
use Rattle.crm_history.specs.Legal.{is_committed}
use Rattle.crm_log.specs.Log.{all_lines}
use Rattle.crm_recovery.specs.Moments.{Finish, finish_of}
use Rattle.crm_recovery.specs.Settling.{done_group, phase_puts, rows_after, settling_puts}
use Rattle.qc_machine.specs.Finishable.{are_rising, is_among}
use Rattle.qc_machine.specs.History.{History, are_distinct}
use Rattle.qc_machine.specs.OwnLines.{is_named}
use Rattle.qc_machine.specs.Sound.{ended_in, is_log_of, IsSound}
use Rattle.qc_machine.proofs.LinesBehind.{unfinished-behind}
use Rattle.qc_machine.proofs.OwnLines.{own-behind, own-puts}
use Rattle.qc_machine.proofs.PutRows.{puts-behind}
use Rattle.qc_machine.proofs.Unfinished.{rising-distinct, unfinished-among, unfinished-rising}
use Rattle.qc_recovery.specs.Calls.{finishes_of, groups_done}
use Rattle.qc_recovery.proofs.Finished.{all-puts-in, groups-all, puts_in}
use Rattle.qc_recovery.proofs.PutAgain.{put-again}

-- numbers that rise are one list

above : (n m : ℕ) (ns : List ℕ) → list_all (λ x. nat_lt n x) ns ≡ true → is_among m ns ≡ true → n < m
above n m [] all here = absurd cc
above n m (x ∷ ns) all here = by (x == m) refl (above n m ns parts.1)
  where
    parts : (nat_lt n x ≡ true) × (list_all (λ y. nat_lt n y) ns ≡ true)
    parts = and_parts (nat_lt n x) _ all

    by : (b : Bool) → (x == m) ≡ b → (is_among m ns ≡ true → n < m) → n < m
    by true e others = omega (arith, ltb-true n x parts.0, eqb-true x m e)
    by false e others = others (sym (ap (λ (b : Bool). b || is_among m ns) e) ∙ here)

not-behind : (n m : ℕ) (ns : List ℕ) → list_all (λ x. nat_lt n x) ns ≡ true → (n == m) ≡ true → is_among m ns ≡ false
not-behind n m ns all e = false_from_ne_true (is_among m ns) (λ here. absurd (omega (arith, above n m ns all here, eqb-true n m e)))

rising-one : (xs ys : List ℕ) → are_rising xs ≡ true → are_rising ys ≡ true → ((n : ℕ) → is_among n xs ≡ is_among n ys) → xs ≡ ys
rising-one [] [] up down same = refl
rising-one [] (y ∷ ys) up down same = absurd (true≢false (sym (same y ∙ or_left (y == y) (is_among y ys) (eq-eqb y y refl))))
rising-one (x ∷ xs) [] up down same = absurd (true≢false (sym (or_left (x == x) (is_among x xs) (eq-eqb x x refl)) ∙ same x))
rising-one (x ∷ xs) (y ∷ ys) up down same =
    let first = and_parts (list_all (λ m. nat_lt x m) xs) _ up in
    let second = and_parts (list_all (λ m. nat_lt y m) ys) _ down in
    let one : x ≡ y = heads first.0 second.0 (y == x) refl in
    let rest = rising-one xs ys first.1 second.1 (λ n. tails first.0 second.0 one n (x == n) refl) in
    λ i. one i ∷ rest i
  where
    heads : list_all (λ m. nat_lt x m) xs ≡ true → list_all (λ m. nat_lt y m) ys ≡ true → (b : Bool) → (y == x) ≡ b → x ≡ y
    heads over under true e = sym (eqb-true y x e)
    heads over under false e =
        let there : is_among x ys ≡ true = sym (ap (λ (b : Bool). b || is_among x ys) e) ∙ sym (same x) ∙ or_left (x == x) (is_among x xs) (eq-eqb x x refl) in
        let y_below = above y x ys under there in
        let other : (x == y) ≡ false = false_from_ne_true (x == y) (λ t. absurd (omega (arith, y_below, eqb-true x y t))) in
        let here : is_among y xs ≡ true = sym (ap (λ (b : Bool). b || is_among y xs) other) ∙ same y ∙ or_left (y == y) (is_among y ys) (eq-eqb y y refl) in
        absurd (omega (arith, y_below, above x y xs over here))

    tails : list_all (λ m. nat_lt x m) xs ≡ true → list_all (λ m. nat_lt y m) ys ≡ true → x ≡ y → (n : ℕ) → (b : Bool) → (x == n) ≡ b → is_among n xs ≡ is_among n ys
    tails over under one n true e = not-behind x n xs over e ∙ sym (not-behind y n ys under (ap (λ (m : ℕ). m == n) (sym one) ∙ e))
    tails over under one n false e =
        sym (ap (λ (b : Bool). b || is_among n xs) e) ∙ same n ∙ ap (λ (b : Bool). b || is_among n ys) (ap (λ (m : ℕ). m == n) (sym one) ∙ e)

rising-rest : (xs ys : List ℕ) → are_rising (xs ++ ys) ≡ true → are_rising ys ≡ true
rising-rest [] ys up = up
rising-rest (x ∷ xs) ys up = rising-rest xs ys (and_parts (list_all (λ m. nat_lt x m) (xs ++ ys)) _ up).1

not-both : (xs ys : List ℕ) (n : ℕ) → are_distinct (xs ++ ys) ≡ true → is_among n xs ≡ true → is_among n ys ≡ false
not-both [] ys n distinct here = absurd cc
not-both (x ∷ xs) ys n distinct here = by (x == n) refl (not-both xs ys n parts.1)
  where
    parts : (not (is_among x (xs ++ ys)) ≡ true) × (are_distinct (xs ++ ys) ≡ true)
    parts = and_parts (not (is_among x (xs ++ ys))) _ distinct

    by : (b : Bool) → (x == n) ≡ b → (is_among n xs ≡ true → is_among n ys ≡ false) → is_among n ys ≡ false
    by true e others = ap (λ (m : ℕ). is_among m ys) (sym (eqb-true x n e)) ∙ (or_parts (is_among x xs) _ (sym (list_any-append (λ m. m == x) xs ys) ∙ not-true _ parts.0)).1
    by false e others = others (sym (ap (λ (b : Bool). b || is_among n xs) e) ∙ here)

-- behind the lines Done of some attempts the others are unfinished

dones-named : (ns : List ℕ) (a : ℕ) → is_named (all_lines (map done_group ns)) a ≡ is_among a ns
dones-named [] a = refl
dones-named (n ∷ ns) a = ap (λ (b : Bool). (n == a) || b) (dones-named ns a)

dones-done : (ns : List ℕ) (a : ℕ) → is_done (all_lines (map done_group ns)) a ≡ is_among a ns
dones-done [] a = refl
dones-done (n ∷ ns) a = ap (λ (b : Bool). (n == a) || b) (dones-done ns a)

module _ (h : History) (lines : List LogLine) (front rest : List ℕ) (legal : is_log_of h lines ≡ true) (behind : is_log_of h (lines ++ all_lines (map done_group front)) ≡ true) (all : unfinished lines ≡ front ++ rest) where
  abbrev more : List LogLine
  more = all_lines (map done_group front)

  rising : are_rising (front ++ rest) ≡ true
  rising = ap are_rising (sym all) ∙ unfinished-rising h.catalogue (length h.messages) (ended_in h) lines legal

  distinct : are_distinct (front ++ rest) ≡ true
  distinct = rising-distinct (front ++ rest) rising

  among : (n : ℕ) → is_among n (unfinished (lines ++ more)) ≡ is_among n rest
  among n = unfinished-among h.catalogue (length h.messages) (ended_in h) (lines ++ more) behind n ∙ by (is_among n front) refl
    where
      none : (o d : Bool) → d ≡ true → (o && not d) ≡ false
      none true true e = refl
      none false true e = refl
      none true false e = absurd cc
      none false false e = absurd cc

      by : (b : Bool) → is_among n front ≡ b → is_unfinished (lines ++ more) n ≡ is_among n rest
      by true e =
          none (is_opened (lines ++ more) n) (is_done (lines ++ more) n) (list_any-append (is_done_line n) lines more ∙ or_right (is_done lines n) _ (dones-done front n ∙ e))
          ∙ sym (not-both front rest n distinct e)
      by false e =
          unfinished-behind lines more n (dones-named front n ∙ e) ∙ sym (unfinished-among h.catalogue (length h.messages) (ended_in h) lines legal n)
          ∙ ap (is_among n) all ∙ list_any-append (λ m. m == n) front rest ∙ ap (λ (b : Bool). b || is_among n rest) e

  unfinished-left : unfinished (lines ++ more) ≡ rest
  unfinished-left =
      rising-one (unfinished (lines ++ more)) rest (unfinished-rising h.catalogue (length h.messages) (ended_in h) (lines ++ more) behind) (rising-rest front rest rising) among

  -- and their phases put the same

  one-left : (n : ℕ) → is_among n rest ≡ true → finish_of h.catalogue (ended_in h) (lines ++ more) n ≡ finish_of h.catalogue (ended_in h) lines n
  one-left n here =
      let committed = is_committed n (ended_in h) in
      let others : is_named more n ≡ false = dones-named front n ∙ false_from_ne_true (is_among n front) (λ e. true≢false (sym here ∙ not-both front rest n distinct e)) in
      let puts : phase_puts h.catalogue (lines ++ more) n committed ≡ phase_puts h.catalogue lines n committed
      = sym (own-puts h.catalogue (lines ++ more) n committed) ∙ ap (λ (l : List LogLine). phase_puts h.catalogue l n committed) (own-behind n lines more others) ∙ own-puts h.catalogue lines n committed in
      λ i. record { attempt = n; puts = puts i }

  each-left : (ns : List ℕ) → ((n : ℕ) → is_among n ns ≡ true → is_among n rest ≡ true) → map (finish_of h.catalogue (ended_in h) (lines ++ more)) ns ≡ map (finish_of h.catalogue (ended_in h) lines) ns
  each-left [] inside = refl
  each-left (n ∷ ns) inside =
      let one = one-left n (inside n (or_left (n == n) (is_among n ns) (eq-eqb n n refl))) in
      let others = each-left ns (λ m here. inside m (or_right (n == m) (is_among m ns) here)) in
      λ i. one i ∷ others i

  pub finishes-left : finishes_of h (lines ++ more) ≡ map (finish_of h.catalogue (ended_in h) lines) rest
  finishes-left = ap (map (finish_of h.catalogue (ended_in h) (lines ++ more))) unfinished-left ∙ each-left rest (λ n here. here)

-- a list of values, in two parts

record Parted (f : ℕ → Finish) (ns : List ℕ) (xs ys : List Finish) : Type 0 where
  front : List ℕ
  rest : List ℕ
  split : ns ≡ front ++ rest
  fronts : map f front ≡ xs
  rests : map f rest ≡ ys

parted : (f : ℕ → Finish) (ns : List ℕ) (xs ys : List Finish) → map f ns ≡ xs ++ ys → Parted f ns xs ys
parted f ns [] ys e = record { front = []; rest = ns; split = refl; fronts = refl; rests = e }
parted f [] (x ∷ xs) ys e = absurd (omega (arith, ap length e))
parted f (n ∷ ns) (x ∷ xs) ys e =
    let first : f n ≡ x = ap (λ (l : List Finish). get_or l 0 x) e in
    let on = parted f ns xs ys (ap (λ (l : List Finish). drop 1 l) e) in
    record {
      front = n ∷ on.front;
      rest = on.rest;
      split = ap (λ (l : List ℕ). n ∷ l) on.split;
      fronts = λ i. first i ∷ on.fronts i;
      rests = on.rests;
    }

-- the rows once the attempts that are left have their phases too

module _ (h : History) (lines : List LogLine) (done left : List Finish) (legal : is_log_of h lines ≡ true) (behind : is_log_of h (lines ++ all_lines (groups_done done)) ≡ true) (split : finishes_of h lines ≡ done ++ left) where
  abbrev f : ℕ → Finish
  f = finish_of h.catalogue (ended_in h) lines

  abbrev now : List LogLine
  now = lines ++ all_lines (groups_done done)

  attempts-left : finishes_of h now ≡ left
  attempts-left =
      let p = parted f (unfinished lines) done left split in
      let groups : groups_done done ≡ map done_group p.front = ap groups_done (sym p.fronts) ∙ groups-all f p.front (λ n. refl) in
      let same : now ≡ lines ++ all_lines (map done_group p.front) = ap (λ (l : List (List LogLine)). lines ++ all_lines l) groups in
      ap (finishes_of h) same ∙ finishes-left h lines p.front p.rest legal (ap (is_log_of h) (sym same) ∙ behind) p.split ∙ p.rests

  puts-left : settling_puts h.catalogue (ended_in h) now ≡ puts_in left
  puts-left = sym (all-puts-in (finish_of h.catalogue (ended_in h) now) (unfinished now)) ∙ ap puts_in attempts-left

  puts-all : settling_puts h.catalogue (ended_in h) lines ≡ puts_in done ++ puts_in left
  puts-all = sym (all-puts-in f (unfinished lines)) ∙ ap puts_in split ∙ flat_map-append (λ (x : Finish). x.puts) done left

  -- some of the puts of those that are left were made already
  pub sound-stopped : (made more : List RowPut) (before rows : OutsideRows) → puts_in left ≡ made ++ more → rows ≡ rows_after made (rows_after (puts_in done) before) → IsSound h lines before → IsSound h now rows
  sound-stopped made more before rows parts is sound = record {
    legal = behind;
    settled = λ r k.
        let mid = rows_after (puts_in done) before in
        (λ i. rows_after ((puts-left ∙ parts) i) (is i) r k) ∙ put-again made more mid r k
        ∙ (λ i. (ap (λ (l : List RowPut). rows_after l mid) (sym parts) ∙ sym (puts-behind (puts_in done) (puts_in left) before) ∙ ap (λ (l : List RowPut). rows_after l before) (sym puts-all)) i r k)
        ∙ sound.settled r k;
  }
