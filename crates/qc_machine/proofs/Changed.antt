-- What each write keeps of what a crash may leave: a group of lines, a fact, a put, and the end of an attempt.
use Rattle.std.proofs.Common.{◌≡◌, ◌∙◌, ℕ, ◌==◌, List, [], ◌∷◌, ◌++◌, length, Bool, true, false, not, cond, ◌&&◌, ◌||◌, reverse, refl, sym, ap, subst, true≢false}
use Rattle.std.specs.List.{list_all}
use Rattle.std.specs.Str.{bytes_eq}
use Rattle.std.proofs.lemmas.Bool.{and_parts, and_right, eqb-true, eq-eqb, false_from_ne_true}
use Rattle.std.proofs.lemmas.List.Folds.{list_any-append}
use Rattle.qc_base.specs.declared.log_line.LogLine.{LogLine}
use Rattle.qc_base.specs.declared.recording.Row.{Row}
use Rattle.qc_base.specs.LogLines.{is_done, is_opened, is_unfinished, unfinished, unforgotten}
use Rattle.qc_base.specs.Rows.{OutsideRows, put_row}
use Rattle.qc_catalogue.specs.declared.catalogue.Catalogue.{Catalogue}
use Rattle.qc_play.specs.Play.{outside_row}
use Rattle.qc_play.proofs.OuterLaws.{bytes-same}
use Rattle.qc_rows.specs.Outside.{outside_amount}
use Rattle.crm_history.specs.declared.ended.Ended.{Ended}
use Rattle.crm_history.specs.Legal.{is_committed}
use Rattle.qc_machine.specs.History.{History}
use Rattle.qc_machine.specs.Holding.{has_row, HaveNoCommon}
use Rattle.qc_machine.specs.Sound.{ended_in, is_log_of}
use Rattle.qc_machine.specs.Finishable.{has_key, is_among, is_late, led_to, HaveAmounts, OthersHave, IsFinishable, AreFinishable}
use Rattle.qc_machine.specs.OwnLines.{is_own}
use Rattle.qc_machine.proofs.Crashed.{finishable-rows, finishable-lines, finishable-put}
use Rattle.qc_machine.proofs.LinesBehind.{legal-front, of-one-alone, unfinished-behind}
use Rattle.qc_machine.proofs.PutRows.{put-other}
use Rattle.qc_machine.proofs.Unfinished.{unfinished-among}

-- one place of a function is another
abbrev set_at : {A : Type 0} → ℕ → A → (ℕ → A) → ℕ → A
set_at a x f b = cond (b == a) x (f b)

not-both : (xs ys : List Row) → HaveNoCommon xs ys → HaveNoCommon ys xs
not-both xs ys apart r e = false_from_ne_true (has_row xs r) (λ t. true≢false (sym e ∙ apart r t))

-- which attempts are unfinished behind lines of one of them

module _ (h : History) (lines more : List LogLine) (a : ℕ) (own : list_all (is_own a) more ≡ true) (legal : is_log_of h (lines ++ more) ≡ true) where
  among-behind : (b : ℕ) → is_among b (unfinished (lines ++ more)) ≡ is_unfinished (lines ++ more) b
  among-behind b = unfinished-among h.catalogue (length h.messages) (ended_in h) (lines ++ more) legal b

  among-before : (b : ℕ) → is_among b (unfinished lines) ≡ is_unfinished lines b
  among-before b = unfinished-among h.catalogue (length h.messages) (ended_in h) lines (legal-front h.catalogue (length h.messages) (ended_in h) lines more legal) b

  others-stay : (b : ℕ) → (b == a) ≡ false → is_among b (unfinished (lines ++ more)) ≡ is_among b (unfinished lines)
  others-stay b other = among-behind b ∙ unfinished-behind lines more b (of-one-alone a b more own other) ∙ sym (among-before b)

  -- a group of lines of one attempt, old or new, that isn't committed
  pub lines-left : (rows : OutsideRows) (mine : List Row) (first now : OutsideRows) (is : AreFinishable h lines rows (unfinished lines))
      → is_unfinished (lines ++ more) a ≡ true
      → is_committed a (ended_in h) ≡ false
      → IsFinishable h.catalogue (lines ++ more) rows a mine first now false
      → ((r k : List ℕ) → has_row mine (outside_row r k) ≡ true → outside_amount h.outside r k ≡ first r k)
      → ((b : ℕ) → (b == a) ≡ false → is_among b (unfinished lines) ≡ true → HaveNoCommon mine (is.mine b))
      → (is_among a (unfinished lines) ≡ true → (r k : List ℕ) → has_row (is.mine a) (outside_row r k) ≡ true → has_row mine (outside_row r k) ≡ true)
      → AreFinishable h (lines ++ more) rows (unfinished (lines ++ more))
  lines-left rows mine first now is here loose new settled apart within = record {
    mine = set_at a mine is.mine;
    first = set_at a first is.first;
    now = set_at a now is.now;
    each = λ b e. each b e (b == a) refl;
    apart = λ b d other e f. between b d other e f (b == a) refl (d == a) refl;
    settled = λ b e r k. values b e r k (b == a) refl;
    free = λ r k none. is.free r k (λ b e. old b e r k none (b == a) refl);
  }
    where
      was : (b : ℕ) → (b == a) ≡ false → is_among b (unfinished (lines ++ more)) ≡ true → is_among b (unfinished lines) ≡ true
      was b f e = sym (others-stay b f) ∙ e

      each : (b : ℕ) → is_among b (unfinished (lines ++ more)) ≡ true → (t : Bool) → (b == a) ≡ t
          → IsFinishable h.catalogue (lines ++ more) rows b (cond (b == a) mine (is.mine b)) (cond (b == a) first (is.first b)) (cond (b == a) now (is.now b)) (is_committed b (ended_in h))
      each b e true f =
          let at : IsFinishable h.catalogue (lines ++ more) rows a mine first now (is_committed a (ended_in h)) = subst (λ c. IsFinishable h.catalogue (lines ++ more) rows a mine first now c) (sym loose) new in
          subst (λ t. IsFinishable h.catalogue (lines ++ more) rows b (cond t mine (is.mine b)) (cond t first (is.first b)) (cond t now (is.now b)) (is_committed b (ended_in h))) (sym f)
          (subst (λ n. IsFinishable h.catalogue (lines ++ more) rows n mine first now (is_committed n (ended_in h))) (sym (eqb-true b a f)) at)
      each b e false f =
          subst (λ t. IsFinishable h.catalogue (lines ++ more) rows b (cond t mine (is.mine b)) (cond t first (is.first b)) (cond t now (is.now b)) (is_committed b (ended_in h))) (sym f)
          (finishable-lines h.catalogue lines rows b (is.mine b) (is.first b) (is.now b) (is_committed b (ended_in h)) more (of-one-alone a b more own f) (is.each b (was b f e)))

      between : (b d : ℕ) → (b == d) ≡ false → is_among b (unfinished (lines ++ more)) ≡ true → is_among d (unfinished (lines ++ more)) ≡ true → (t : Bool) → (b == a) ≡ t → (u : Bool) → (d == a) ≡ u
          → HaveNoCommon (cond (b == a) mine (is.mine b)) (cond (d == a) mine (is.mine d))
      between b d other e f true g true g' = absurd (true≢false (sym (both b d (eqb-true b a g) (eqb-true d a g')) ∙ other))
        where
          both : (b d : ℕ) → b ≡ a → d ≡ a → (b == d) ≡ true
          both b d e f = ap (λ n. n == d) (e ∙ sym f) ∙ eq-eqb d d refl
      between b d other e f true g false g' =
          subst (λ t. HaveNoCommon (cond t mine (is.mine b)) (cond (d == a) mine (is.mine d))) (sym g) (subst (λ u. HaveNoCommon mine (cond u mine (is.mine d))) (sym g') (apart d g' (was d g' f)))
      between b d other e f false g true g' =
          subst (λ t. HaveNoCommon (cond t mine (is.mine b)) (cond (d == a) mine (is.mine d))) (sym g) (subst (λ u. HaveNoCommon (is.mine b) (cond u mine (is.mine d))) (sym g') (not-both mine (is.mine b) (apart b g (was b g e))))
      between b d other e f false g false g' =
          subst (λ t. HaveNoCommon (cond t mine (is.mine b)) (cond (d == a) mine (is.mine d))) (sym g) (subst (λ u. HaveNoCommon (is.mine b) (cond u mine (is.mine d))) (sym g') (is.apart b d other (was b g e) (was d g' f)))

      values : (b : ℕ) → is_among b (unfinished (lines ++ more)) ≡ true → (r k : List ℕ) → (t : Bool) → (b == a) ≡ t → has_row (cond (b == a) mine (is.mine b)) (outside_row r k) ≡ true
          → outside_amount h.outside r k ≡ cond (is_committed b (ended_in h)) ((cond (b == a) now (is.now b)) r k) ((cond (b == a) first (is.first b)) r k)
      values b e r k true f m =
          let committed : is_committed b (ended_in h) ≡ false = ap (λ n. is_committed n (ended_in h)) (eqb-true b a f) ∙ loose in
          settled r k (ap (λ t. has_row (cond t mine (is.mine b)) (outside_row r k)) (sym f) ∙ m) ∙ sym (ap (λ t. (cond t first (is.first b)) r k) f) ∙ sym (ap (λ t. cond t ((cond (b == a) now (is.now b)) r k) ((cond (b == a) first (is.first b)) r k)) committed)
      values b e r k false f m =
          is.settled b (was b f e) r k (ap (λ t. has_row (cond t mine (is.mine b)) (outside_row r k)) (sym f) ∙ m)
          ∙ sym (ap (λ t. cond (is_committed b (ended_in h)) ((cond t now (is.now b)) r k) ((cond t first (is.first b)) r k)) f)

      old : (b : ℕ) → is_among b (unfinished lines) ≡ true → (r k : List ℕ) → ((b : ℕ) → is_among b (unfinished (lines ++ more)) ≡ true → has_row (cond (b == a) mine (is.mine b)) (outside_row r k) ≡ false) → (t : Bool) → (b == a) ≡ t → has_row (is.mine b) (outside_row r k) ≡ false
      old b e r k none true f =
          let at : b ≡ a = eqb-true b a f in
          let none_here : has_row mine (outside_row r k) ≡ false = ap (λ t. has_row (cond t mine (is.mine a)) (outside_row r k)) (sym (eq-eqb a a refl)) ∙ none a (among-behind a ∙ here) in
          (λ i. has_row (is.mine (at i)) (outside_row r k)) ∙ false_from_ne_true (has_row (is.mine a) (outside_row r k)) (λ m. true≢false (sym (within (ap (λ n. is_among n (unfinished lines)) (sym at) ∙ e) r k m) ∙ none_here))
      old b e r k none false f = ap (λ t. has_row (cond t mine (is.mine b)) (outside_row r k)) (sym f) ∙ none b (others-stay b f ∙ e)

  -- the end of an attempt, where its rows now are as they shall be, and others are as they were
  pub done-left : (rows next : OutsideRows) (is : AreFinishable h lines rows (unfinished lines))
      → is_among a (unfinished lines) ≡ true
      → is_done (lines ++ more) a ≡ true
      → ((r k : List ℕ) → has_row (is.mine a) (outside_row r k) ≡ true → next r k ≡ cond (is_committed a (ended_in h)) (is.now a r k) (is.first a r k))
      → ((r k : List ℕ) → has_row (is.mine a) (outside_row r k) ≡ false → next r k ≡ rows r k)
      → AreFinishable h (lines ++ more) next (unfinished (lines ++ more))
  done-left rows next is here gone done beside = record {
    mine = is.mine;
    first = is.first;
    now = is.now;
    each = λ b e. finishable-lines h.catalogue lines next b (is.mine b) (is.first b) (is.now b) (is_committed b (ended_in h)) more (of-one-alone a b more own (other b e))
        (finishable-rows h.catalogue lines rows b (is.mine b) (is.first b) (is.now b) (is_committed b (ended_in h)) next
        (λ r k m. beside r k (is.apart b a (other b e) (was b e) here (outside_row r k) m)) (is.each b (was b e)));
    apart = λ b d differ e f. is.apart b d differ (was b e) (was d f);
    settled = λ b e. is.settled b (was b e);
    free = λ r k none. by r k none (has_row (is.mine a) (outside_row r k)) refl;
  }
    where
      finished_now : is_unfinished (lines ++ more) a ≡ false
      finished_now = and_right (is_opened (lines ++ more) a) _ (ap not gone)

      other : (b : ℕ) → is_among b (unfinished (lines ++ more)) ≡ true → (b == a) ≡ false
      other b e = false_from_ne_true (b == a) (λ t. true≢false (sym e ∙ among-behind b ∙ ap (is_unfinished (lines ++ more)) (eqb-true b a t) ∙ finished_now))

      was : (b : ℕ) → is_among b (unfinished (lines ++ more)) ≡ true → is_among b (unfinished lines) ≡ true
      was b e = sym (others-stay b (other b e)) ∙ e

      by : (r k : List ℕ) → ((b : ℕ) → is_among b (unfinished (lines ++ more)) ≡ true → has_row (is.mine b) (outside_row r k) ≡ false) → (u : Bool) → has_row (is.mine a) (outside_row r k) ≡ u → next r k ≡ outside_amount h.outside r k
      by r k none true m = done r k m ∙ sym (is.settled a here r k m)
      by r k none false m = beside r k m ∙ is.free r k (λ b e. each b e (b == a) refl)
        where
          each : (b : ℕ) → is_among b (unfinished lines) ≡ true → (t : Bool) → (b == a) ≡ t → has_row (is.mine b) (outside_row r k) ≡ false
          each b e true f = (λ i. has_row (is.mine (eqb-true b a f i)) (outside_row r k)) ∙ m
          each b e false f = none b (others-stay b f ∙ e)

-- a fact that ends an attempt

committed-other : (b : ℕ) (e : Ended) (ended : List Ended) → (b == e.attempt) ≡ false → is_committed b (ended ++ e ∷ []) ≡ is_committed b ended
committed-other b e ended other =
    list_any-append (λ (x : Ended). (x.attempt == b) && x.committed) ended (e ∷ [])
    ∙ ap (λ t. is_committed b ended || ((t && e.committed) || false)) (false_from_ne_true (e.attempt == b) (λ t. true≢false (sym (eq-eqb b e.attempt (sym (eqb-true e.attempt b t))) ∙ other)))
    ∙ stays (is_committed b ended)
  where
    stays : (x : Bool) → (x || false) ≡ x
    stays true = refl
    stays false = refl

fact-left : (h g : History) (e : Ended) (lines : List LogLine) (rows : OutsideRows) (is : AreFinishable h lines rows (unfinished lines))
    → g.catalogue ≡ h.catalogue
    → ended_in g ≡ ended_in h ++ e ∷ []
    → ((r k : List ℕ) → (is_among e.attempt (unfinished lines) ≡ true → has_row (is.mine e.attempt) (outside_row r k) ≡ false) → outside_amount g.outside r k ≡ outside_amount h.outside r k)
    → (is_among e.attempt (unfinished lines) ≡ true → IsFinishable h.catalogue lines rows e.attempt (is.mine e.attempt) (is.first e.attempt) (is.now e.attempt) (is_committed e.attempt (ended_in g)))
    → (is_among e.attempt (unfinished lines) ≡ true → (r k : List ℕ) → has_row (is.mine e.attempt) (outside_row r k) ≡ true
    → outside_amount g.outside r k ≡ cond (is_committed e.attempt (ended_in g)) (is.now e.attempt r k) (is.first e.attempt r k))
    → AreFinishable g lines rows (unfinished lines)
fact-left h g e lines rows is catalogue more others new settled = record {
  mine = is.mine;
  first = is.first;
  now = is.now;
  each = λ b i. subst (λ (c : Catalogue). IsFinishable c lines rows b (is.mine b) (is.first b) (is.now b) (is_committed b (ended_in g))) (sym catalogue) (each b i (b == e.attempt) refl);
  apart = is.apart;
  settled = λ b i r k m. values b i r k m (b == e.attempt) refl;
  free = λ r k none. is.free r k none ∙ sym (others r k (λ i. none e.attempt i));
}
  where
    same : (b : ℕ) → (b == e.attempt) ≡ false → is_committed b (ended_in g) ≡ is_committed b (ended_in h)
    same b f = ap (is_committed b) more ∙ committed-other b e (ended_in h) f

    each : (b : ℕ) → is_among b (unfinished lines) ≡ true → (t : Bool) → (b == e.attempt) ≡ t → IsFinishable h.catalogue lines rows b (is.mine b) (is.first b) (is.now b) (is_committed b (ended_in g))
    each b i true f =
        let at : b ≡ e.attempt = eqb-true b e.attempt f in
        subst (λ n. IsFinishable h.catalogue lines rows n (is.mine n) (is.first n) (is.now n) (is_committed n (ended_in g))) (sym at) (new (ap (λ n. is_among n (unfinished lines)) (sym at) ∙ i))
    each b i false f = subst (λ c. IsFinishable h.catalogue lines rows b (is.mine b) (is.first b) (is.now b) c) (sym (same b f)) (is.each b i)

    values : (b : ℕ) → is_among b (unfinished lines) ≡ true → (r k : List ℕ) → has_row (is.mine b) (outside_row r k) ≡ true → (t : Bool) → (b == e.attempt) ≡ t
        → outside_amount g.outside r k ≡ cond (is_committed b (ended_in g)) (is.now b r k) (is.first b r k)
    values b i r k m true f =
        let at : b ≡ e.attempt = eqb-true b e.attempt f in
        settled (ap (λ n. is_among n (unfinished lines)) (sym at) ∙ i) r k ((λ j. has_row (is.mine (sym at j)) (outside_row r k)) ∙ m)
        ∙ (λ j. cond (is_committed (sym at j) (ended_in g)) (is.now (sym at j) r k) (is.first (sym at j) r k))
    values b i r k m false f =
        others r k (λ here. is.apart b e.attempt f i here (outside_row r k) m) ∙ is.settled b i r k m ∙ ap (λ c. cond c (is.now b r k) (is.first b r k)) (sym (same b f))

-- of an attempt of the log, and of another

pub fact-own : (h g : History) (e : Ended) (lines : List LogLine) (rows : OutsideRows) (is : AreFinishable h lines rows (unfinished lines))
    → g.catalogue ≡ h.catalogue → ended_in g ≡ ended_in h ++ e ∷ [] → is_among e.attempt (unfinished lines) ≡ true
    → IsFinishable h.catalogue lines rows e.attempt (is.mine e.attempt) (is.first e.attempt) (is.now e.attempt) (is_committed e.attempt (ended_in g))
    → HaveAmounts (is.mine e.attempt) (outside_amount g.outside) (led_to (is_committed e.attempt (ended_in g)) (is.first e.attempt) (is.now e.attempt))
    → OthersHave (is.mine e.attempt) (outside_amount g.outside) (outside_amount h.outside)
    → AreFinishable g lines rows (unfinished lines)
fact-own h g e lines rows is catalogue more here new settled others =
    fact-left h g e lines rows is catalogue more (λ r k mine. others r k (mine here)) (λ i. new) (λ i. settled)

pub fact-beside : (h g : History) (e : Ended) (lines : List LogLine) (rows : OutsideRows) → AreFinishable h lines rows (unfinished lines)
    → g.catalogue ≡ h.catalogue → ended_in g ≡ ended_in h ++ e ∷ [] → is_among e.attempt (unfinished lines) ≡ false
    → ((r k : List ℕ) → outside_amount g.outside r k ≡ outside_amount h.outside r k)
    → AreFinishable g lines rows (unfinished lines)
fact-beside h g e lines rows is catalogue more none same =
    fact-left h g e lines rows is catalogue more (λ r k mine. same r k) (λ i. absurd (true≢false (sym i ∙ none))) (λ i. absurd (true≢false (sym i ∙ none)))

-- a put of a row that an attempt has a record of, and that its phase puts
pub put-left : (h : History) (lines : List LogLine) (rows : OutsideRows) (a : ℕ) (resource key : List ℕ) (n : ℕ) (is : AreFinishable h lines rows (unfinished lines))
    → is_among a (unfinished lines) ≡ true → has_row (is.mine a) (outside_row resource key) ≡ true
    → has_key (reverse (unforgotten lines a resource)) key ≡ true → is_late h.catalogue resource ≡ is_committed a (ended_in h)
    → AreFinishable h lines (put_row resource key n rows) (unfinished lines)
put-left h lines rows a resource key n is here m written late = record {
  mine = is.mine;
  first = is.first;
  now = is.now;
  each = λ b e. by b e (b == a) refl;
  apart = is.apart;
  settled = is.settled;
  free = λ r k none. put-other resource key n rows r k (outside (is.mine a) r k (none a here) m) ∙ is.free r k none;
}
  where
    outside : (rs : List Row) (r k : List ℕ) → has_row rs (outside_row r k) ≡ false → has_row rs (outside_row resource key) ≡ true → (bytes_eq r resource && bytes_eq k key) ≡ false
    outside rs r k none m = false_from_ne_true (bytes_eq r resource && bytes_eq k key) (λ t. let parts = and_parts (bytes_eq r resource) _ t in
        true≢false (sym m ∙ (λ i. has_row rs (outside_row (sym (bytes-same r resource parts.0) i) (sym (bytes-same k key parts.1) i))) ∙ none))

    by : (b : ℕ) → is_among b (unfinished lines) ≡ true → (t : Bool) → (b == a) ≡ t → IsFinishable h.catalogue lines (put_row resource key n rows) b (is.mine b) (is.first b) (is.now b) (is_committed b (ended_in h))
    by b e true f = subst (λ b. IsFinishable h.catalogue lines (put_row resource key n rows) b (is.mine b) (is.first b) (is.now b) (is_committed b (ended_in h))) (sym (eqb-true b a f))
        (finishable-put h.catalogue lines rows a (is.mine a) (is.first a) (is.now a) (is_committed a (ended_in h)) resource key n written late (is.each a here))
    by b e false f = finishable-rows h.catalogue lines rows b (is.mine b) (is.first b) (is.now b) (is_committed b (ended_in h)) (put_row resource key n rows)
        (λ r k mb. put-other resource key n rows r k (outside (is.mine a) r k (is.apart b a f e here (outside_row r k) mb) m)) (is.each b e)
