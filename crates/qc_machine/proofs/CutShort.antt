-- A recovery that a crash cuts short leaves what a later one can finish.
use Rattle.std.proofs.Common.{◌≡◌, ◌∙◌, ℕ, ◌==◌, List, [], ◌∷◌, ◌++◌, length, Bool, true, false, not, ◌||◌, map, flat_map, reverse, refl, sym, ap, subst, append-nil, append_assoc, true≢false, Option, Some, None}
use Rattle.std.specs.List.{AllByRecursion}
use Rattle.std.specs.Option.{option_map_or}
use Rattle.std.specs.Str.{bytes_eq}
use Rattle.std.proofs.lemmas.Bool.{and_parts, and_from, or_parts, or_from, or_left, or_right, eqb-true, eq-eqb, not-true, not_from_false, false_from_ne_true}
use Rattle.std.proofs.lemmas.Grind.{flat_map-append}
use Rattle.std.proofs.lemmas.List.{map-append}
use Rattle.std.proofs.lemmas.List.Folds.{list_any-append}
use Rattle.qc_base.specs.declared.log_line.LogLine.{LogLine}
use Rattle.qc_base.specs.declared.log_line.LogLine.TheVariants.{Done}
use Rattle.qc_base.specs.declared.log_line.LogRecord.{LogRecord}
use Rattle.qc_base.specs.LogLines.{Registration, is_done, is_done_line, is_unfinished, registrations, unfinished, unforgotten}
use Rattle.qc_base.specs.Rows.{OutsideRows, put_row}
use Rattle.qc_catalogue.specs.declared.catalogue.Resource.{Resource}
use Rattle.qc_catalogue.specs.Lookup.{resource_named}
use Rattle.qc_catalogue.proofs.Lookups.{found_name}
use Rattle.qc_play.specs.Play.{outside_row}
use Rattle.qc_play.proofs.OuterLaws.{bytes-itself}
use Rattle.crm_driver.specs.Puts.{RowPut}
use Rattle.crm_history.specs.Legal.{is_committed}
use Rattle.crm_log.specs.Log.{all_lines}
use Rattle.crm_recovery.specs.Settling.{attempts_puts, done_group, done_groups, phase_puts, puts_of, registration_puts, rows_after}
use Rattle.qc_machine.specs.History.{History, are_distinct}
use Rattle.qc_machine.specs.Holding.{has_row}
use Rattle.qc_machine.specs.OwnLines.{is_named}
use Rattle.qc_machine.specs.Sound.{ended_in, is_log_of, IsSound}
use Rattle.qc_machine.specs.Finishable.{has_key, is_among, is_late, AreFinishable}
use Rattle.qc_machine.proofs.Changed.{done-left, put-left}
use Rattle.qc_machine.proofs.Crashed.{sound-left}
use Rattle.qc_machine.proofs.Finishing.{chain-inside, finished, finished-beside, has-key-reverse}
use Rattle.qc_machine.proofs.LinesBehind.{legal-front, unfinished-behind}
use Rattle.qc_machine.proofs.OwnLines.{own-behind, own-puts}
use Rattle.qc_machine.proofs.PhaseRows.{each_put, new_of, old_of, phase_put, puts-by}
use Rattle.qc_machine.proofs.PutRows.{puts-behind}
use Rattle.qc_machine.proofs.Unfinished.{rising-distinct, unfinished-among, unfinished-rising}

each-joined : {A : Type 0} (P : A → Type 0) (xs ys : List A) → AllByRecursion P xs → AllByRecursion P ys → AllByRecursion P (xs ++ ys)
each-joined P [] ys all more = more
each-joined P (x ∷ xs) ys all more = (all.0, each-joined P xs ys all.1 more)

each-front : {A : Type 0} (P : A → Type 0) (xs ys : List A) → AllByRecursion P (xs ++ ys) → AllByRecursion P xs
each-front P [] ys all = tt
each-front P (x ∷ xs) ys all = (all.0, each-front P xs ys all.1)

keys-there : (all rs : List LogRecord) → ((k : List ℕ) → has_key rs k ≡ true → has_key all k ≡ true) → AllByRecursion (λ (r : LogRecord). has_key all r.key ≡ true) rs
keys-there all [] h = tt
keys-there all (r ∷ rs) h = (h r.key (or_left (bytes_eq r.key r.key) _ (bytes-itself r.key)), keys-there all rs (λ k e. h k (or_right (bytes_eq k r.key) _ e)))

module _ (h : History) (lines : List LogLine) (a : ℕ) where
  -- of a row that the attempt has a record of, and that its phase puts
  abbrev IsPhasePut : RowPut → Type 0
  IsPhasePut p = (has_key (reverse (unforgotten lines a p.resource)) p.key ≡ true) × (is_late h.catalogue p.resource ≡ is_committed a (ended_in h))

  each-recorded : (amount : LogRecord → ℕ) (resource : List ℕ) (rs : List LogRecord) → AllByRecursion (λ (r : LogRecord). has_key (reverse (unforgotten lines a resource)) r.key ≡ true) rs
      → is_late h.catalogue resource ≡ is_committed a (ended_in h) → AllByRecursion IsPhasePut (each_put amount resource rs)
  each-recorded amount resource [] all late = tt
  each-recorded amount resource (r ∷ rs) all late = ((all.0, late), each-recorded amount resource rs all.1 late)

  own-phase : (own : Registration) → AllByRecursion IsPhasePut (registration_puts h.catalogue lines a (is_committed a (ended_in h)) own)
  own-phase own = by (resource_named own.resource h.catalogue.resources) refl
    where
      kept : List LogRecord
      kept = unforgotten lines a own.resource

      by : (o : Option Resource) → resource_named own.resource h.catalogue.resources ≡ o
          → AllByRecursion IsPhasePut (option_map_or (λ (x : Resource). puts_of x (is_committed a (ended_in h)) (unforgotten lines a own.resource)) o [])
      by None e = tt
      by (Some x) found =
          subst (AllByRecursion IsPhasePut) (sym (puts-by x (is_committed a (ended_in h)) x.early kept refl))
          (subst (λ n. AllByRecursion IsPhasePut (phase_put (is_committed a (ended_in h)) x.early n kept)) (sym (found_name (λ (x : Resource). x.name) own.resource h.catalogue.resources x found))
          (puts (is_committed a (ended_in h)) refl x.early refl))
        where
          late : is_late h.catalogue own.resource ≡ not x.early
          late = ap (λ (o : Option Resource). option_map_or (λ (y : Resource). not y.early) o true) found

          puts : (d : Bool) → is_committed a (ended_in h) ≡ d → (b : Bool) → x.early ≡ b → AllByRecursion IsPhasePut (phase_put d b own.resource kept)
          puts true e true f = tt
          puts true e false f = each-recorded new_of own.resource kept (keys-there (reverse kept) kept (λ k t. has-key-reverse kept k ∙ t)) (late ∙ ap not f ∙ sym e)
          puts false e true f = each-recorded old_of own.resource (reverse kept) (keys-there (reverse kept) (reverse kept) (λ k t. t)) (late ∙ ap not f ∙ sym e)
          puts false e false f = tt

  own-phases : (rs : List Registration) → AllByRecursion IsPhasePut (flat_map (registration_puts h.catalogue lines a (is_committed a (ended_in h))) rs)
  own-phases [] = tt
  own-phases (r ∷ rs) = each-joined IsPhasePut (registration_puts h.catalogue lines a (is_committed a (ended_in h)) r) (flat_map (registration_puts h.catalogue lines a (is_committed a (ended_in h))) rs) (own-phase r) (own-phases rs)

  puts-left : (puts : List RowPut) (rows : OutsideRows) → AllByRecursion IsPhasePut puts → is_among a (unfinished lines) ≡ true → AreFinishable h lines rows (unfinished lines) → AreFinishable h lines (rows_after puts rows) (unfinished lines)
  puts-left [] rows all here is = is
  puts-left (p ∷ puts) rows all here is =
      puts-left puts (put_row p.resource p.key p.amount rows) all.1 here
      (put-left h lines rows a p.resource p.key p.amount is here (mine (has_row (is.mine a) (outside_row p.resource p.key)) refl) all.0.0 all.0.1)
    where
      mine : (b : Bool) → has_row (is.mine a) (outside_row p.resource p.key) ≡ b → has_row (is.mine a) (outside_row p.resource p.key) ≡ true
      mine true e = e
      mine false e =
          let one = is.each a here in
          absurd (true≢false (sym all.0.0 ∙ chain-inside (is.mine a) p.resource (reverse (unforgotten lines a p.resource)) (is.first a p.resource) (is.now a p.resource) (one.chain p.resource) (one.inside p.resource) p.key e))

  -- some of the puts of its phase
  pub phase-front : (done left : List RowPut) (rows : OutsideRows) → phase_puts h.catalogue lines a (is_committed a (ended_in h)) ≡ done ++ left
      → is_among a (unfinished lines) ≡ true → AreFinishable h lines rows (unfinished lines) → AreFinishable h lines (rows_after done rows) (unfinished lines)
  phase-front done left rows split here is = puts-left done rows (each-front IsPhasePut done left (subst (AllByRecursion IsPhasePut) split (own-phases (registrations lines a)))) here is

  -- all of them, and then Done
  phase-done : (rows : OutsideRows) → is_log_of h (lines ++ Done a ∷ []) ≡ true → is_among a (unfinished lines) ≡ true → AreFinishable h lines rows (unfinished lines)
      → AreFinishable h (lines ++ Done a ∷ []) (rows_after (phase_puts h.catalogue lines a (is_committed a (ended_in h))) rows) (unfinished (lines ++ Done a ∷ []))
  phase-done rows legal here is =
      let one = is.each a here in
      done-left h lines (Done a ∷ []) a (and_from (a == a) true (eq-eqb a a refl) refl) legal rows
      (rows_after (phase_puts h.catalogue lines a (is_committed a (ended_in h))) rows) is here
      (list_any-append (is_done_line a) lines (Done a ∷ []) ∙ or_right (is_done lines a) _ (or_left (a == a) false (eq-eqb a a refl)))
      (finished h.catalogue lines a (is.mine a) (is.first a) (is.now a) (is_committed a (ended_in h)) rows one)
      (finished-beside h.catalogue lines a (is.mine a) (is.first a) (is.now a) (is_committed a (ended_in h)) rows one)

-- distinct numbers

each-other : (b : ℕ) (ns : List ℕ) → is_among b ns ≡ false → AllByRecursion (λ d. (d == b) ≡ false) ns
each-other b [] e = tt
each-other b (n ∷ ns) e = let parts = or_parts (n == b) _ e in (parts.0, each-other b ns parts.1)

front-distinct : (xs ys : List ℕ) → are_distinct (xs ++ ys) ≡ true → are_distinct xs ≡ true
front-distinct [] ys e = refl
front-distinct (x ∷ xs) ys e =
    let parts = and_parts (not (is_among x (xs ++ ys))) _ e in
    let none = or_parts (is_among x xs) _ (sym (list_any-append (λ n. n == x) xs ys) ∙ not-true _ parts.0) in
    and_from (not (is_among x xs)) _ (not_from_false _ none.0) (front-distinct xs ys parts.1)

none-before : (xs : List ℕ) (a : ℕ) (ys : List ℕ) → are_distinct (xs ++ a ∷ ys) ≡ true → is_among a xs ≡ false
none-before [] a ys e = refl
none-before (x ∷ xs) a ys e =
    let parts = and_parts (not (is_among x (xs ++ a ∷ ys))) _ e in
    let none = or_parts (is_among x xs) _ (sym (list_any-append (λ n. n == x) xs (a ∷ ys)) ∙ not-true _ parts.0) in
    let other : (a == x) ≡ false = (or_parts (a == x) _ none.1).0 in
    or_from (x == a) _ (false_from_ne_true (x == a) (λ t. true≢false (sym (eq-eqb a x (sym (eqb-true x a t))) ∙ other))) (none-before xs a ys parts.1)

-- several attempts, one after another

dones-named : (front : List ℕ) (a : ℕ) → is_named (all_lines (map done_group front)) a ≡ is_among a front
dones-named [] a = refl
dones-named (b ∷ front) a = ap (λ t. (b == a) || t) (dones-named front a)

phase-same : (h : History) (lines more : List LogLine) (a : ℕ) → is_named more a ≡ false
    → phase_puts h.catalogue (lines ++ more) a (is_committed a (ended_in h)) ≡ phase_puts h.catalogue lines a (is_committed a (ended_in h))
phase-same h lines more a others =
    sym (own-puts h.catalogue (lines ++ more) a (is_committed a (ended_in h)))
    ∙ ap (λ l. phase_puts h.catalogue l a (is_committed a (ended_in h))) (own-behind a lines more others)
    ∙ own-puts h.catalogue lines a (is_committed a (ended_in h))

phases-same : (h : History) (lines : List LogLine) (b : ℕ) (front : List ℕ) → AllByRecursion (λ d. (d == b) ≡ false) front
    → attempts_puts h.catalogue (ended_in h) (lines ++ Done b ∷ []) front ≡ attempts_puts h.catalogue (ended_in h) lines front
phases-same h lines b [] others = refl
phases-same h lines b (d ∷ front) others =
    λ i. phase-same h lines (Done b ∷ []) d (or_from (b == d) false (false_from_ne_true (b == d) (λ t. true≢false (sym (eq-eqb d b (sym (eqb-true b d t))) ∙ others.0))) refl) i ++ phases-same h lines b front others.1 i

still-unfinished : (lines : List LogLine) (b : ℕ) (front : List ℕ) → AllByRecursion (λ d. (d == b) ≡ false) front
    → AllByRecursion (λ d. is_unfinished lines d ≡ true) front → AllByRecursion (λ d. is_unfinished (lines ++ Done b ∷ []) d ≡ true) front
still-unfinished lines b [] others all = tt
still-unfinished lines b (d ∷ front) others all =
    (unfinished-behind lines (Done b ∷ []) d (or_from (b == d) false (false_from_ne_true (b == d) (λ t. true≢false (sym (eq-eqb d b (sym (eqb-true b d t))) ∙ others.0))) refl) ∙ all.0, still-unfinished lines b front others.1 all.1)

fronts-left : (h : History) (lines : List LogLine) (rows : OutsideRows) (front : List ℕ) → is_log_of h (lines ++ all_lines (map done_group front)) ≡ true
    → are_distinct front ≡ true → AllByRecursion (λ b. is_unfinished lines b ≡ true) front → AreFinishable h lines rows (unfinished lines)
    → AreFinishable h (lines ++ all_lines (map done_group front)) (rows_after (attempts_puts h.catalogue (ended_in h) lines front) rows) (unfinished (lines ++ all_lines (map done_group front)))
fronts-left h lines rows [] legal distinct all is = subst (λ l. AreFinishable h l rows (unfinished l)) (sym (append-nil lines)) is
fronts-left h lines rows (b ∷ front) legal distinct all is =
    subst (λ l. AreFinishable h l (rows_after (attempts_puts h.catalogue (ended_in h) lines (b ∷ front)) rows) (unfinished l)) (append_assoc lines (Done b ∷ []) (all_lines (map done_group front)))
    (subst (λ (r : OutsideRows). AreFinishable h ((lines ++ Done b ∷ []) ++ all_lines (map done_group front)) r (unfinished ((lines ++ Done b ∷ []) ++ all_lines (map done_group front)))) (sym same)
    (fronts-left h (lines ++ Done b ∷ []) next front legal_on parts.1 (still-unfinished lines b front others all.1)
    (phase-done h lines b rows legal_one (unfinished-among h.catalogue (length h.messages) (ended_in h) lines (legal-front h.catalogue (length h.messages) (ended_in h) lines (Done b ∷ []) legal_one) b ∙ all.0) is)))
  where
    parts : (not (is_among b front) ≡ true) × (are_distinct front ≡ true)
    parts = and_parts (not (is_among b front)) _ distinct

    others : AllByRecursion (λ d. (d == b) ≡ false) front
    others = each-other b front (not-true _ parts.0)

    next : OutsideRows
    next = rows_after (phase_puts h.catalogue lines b (is_committed b (ended_in h))) rows

    legal_on : is_log_of h ((lines ++ Done b ∷ []) ++ all_lines (map done_group front)) ≡ true
    legal_on = ap (is_log_of h) (append_assoc lines (Done b ∷ []) (all_lines (map done_group front))) ∙ legal

    legal_one : is_log_of h (lines ++ Done b ∷ []) ≡ true
    legal_one = legal-front h.catalogue (length h.messages) (ended_in h) (lines ++ Done b ∷ []) (all_lines (map done_group front)) legal_on

    same : rows_after (attempts_puts h.catalogue (ended_in h) lines (b ∷ front)) rows ≡ rows_after (attempts_puts h.catalogue (ended_in h) (lines ++ Done b ∷ []) front) next
    same =
        puts-behind (phase_puts h.catalogue lines b (is_committed b (ended_in h))) (attempts_puts h.catalogue (ended_in h) lines front) rows
        ∙ ap (λ ps. rows_after ps next) (sym (phases-same h lines b front others))

-- the attempts before one, and some puts of its phase; `whole` is what a recovery leaves
module _ (h : History) (lines : List LogLine) (rows : OutsideRows) (front rest : List ℕ) (a : ℕ) (done left : List RowPut)
    (whole : is_log_of h (lines ++ all_lines (done_groups lines)) ≡ true) (legal : is_log_of h lines ≡ true) (is : AreFinishable h lines rows (unfinished lines))
    (all : unfinished lines ≡ front ++ a ∷ rest) (split : phase_puts h.catalogue lines a (is_committed a (ended_in h)) ≡ done ++ left) where
  distinct : are_distinct (front ++ a ∷ rest) ≡ true
  distinct = sym (ap are_distinct all) ∙ rising-distinct (unfinished lines) (unfinished-rising h.catalogue (length h.messages) (ended_in h) lines legal)

  among : (b : ℕ) → is_among b (front ++ a ∷ rest) ≡ is_unfinished lines b
  among b = sym (ap (is_among b) all) ∙ unfinished-among h.catalogue (length h.messages) (ended_in h) lines legal b

  legal_front : is_log_of h (lines ++ all_lines (map done_group front)) ≡ true
  legal_front =
      let cut : all_lines (done_groups lines) ≡ all_lines (map done_group front) ++ all_lines (map done_group (a ∷ rest)) =
      ap (λ ns. all_lines (map done_group ns)) all ∙ ap all_lines (map-append done_group front (a ∷ rest)) ∙ flat_map-append (λ l. l) (map done_group front) (map done_group (a ∷ rest)) in
      legal-front h.catalogue (length h.messages) (ended_in h) (lines ++ all_lines (map done_group front)) (all_lines (map done_group (a ∷ rest)))
      (ap (is_log_of h) (append_assoc lines (all_lines (map done_group front)) (all_lines (map done_group (a ∷ rest))) ∙ sym (ap (λ l. lines ++ l) cut)) ∙ whole)

  unnamed : is_named (all_lines (map done_group front)) a ≡ false
  unnamed = dones-named front a ∙ none-before front a rest distinct

  pub cut-left : AreFinishable h (lines ++ all_lines (map done_group front)) (rows_after done (rows_after (attempts_puts h.catalogue (ended_in h) lines front) rows)) (unfinished (lines ++ all_lines (map done_group front)))
  cut-left =
      phase-front h (lines ++ all_lines (map done_group front)) a done left (rows_after (attempts_puts h.catalogue (ended_in h) lines front) rows)
      (phase-same h lines (all_lines (map done_group front)) a unnamed ∙ split)
      (unfinished-among h.catalogue (length h.messages) (ended_in h) (lines ++ all_lines (map done_group front)) legal_front a
      ∙ unfinished-behind lines (all_lines (map done_group front)) a unnamed ∙ sym (among a) ∙ list_any-append (λ n. n == a) front (a ∷ rest) ∙ or_right (is_among a front) _ (or_left (a == a) _ (eq-eqb a a refl)))
      (fronts-left h lines rows front legal_front (front-distinct front (a ∷ rest) distinct) (each-open front (λ b e. e)) is)
    where
      each-open : (ns : List ℕ) → ((b : ℕ) → is_among b ns ≡ true → is_among b front ≡ true) → AllByRecursion (λ b. is_unfinished lines b ≡ true) ns
      each-open [] inside = tt
      each-open (n ∷ ns) inside = (
        sym (among n) ∙ list_any-append (λ m. m == n) front (a ∷ rest) ∙ or_left (is_among n front) _ (inside n (or_left (n == n) _ (eq-eqb n n refl))),
        each-open ns (λ b e. inside b (or_right (n == b) _ e)),
      )

  pub cut-sound : IsSound h (lines ++ all_lines (map done_group front)) (rows_after done (rows_after (attempts_puts h.catalogue (ended_in h) lines front) rows))
  cut-sound = sound-left h (lines ++ all_lines (map done_group front)) (rows_after done (rows_after (attempts_puts h.catalogue (ended_in h) lines front) rows)) legal_front cut-left
