-- Where each unfinished attempt can be finished, history, log and outside rows agree.
use Rattle.std.proofs.Common.{◌≡◌, ◌∙◌, ℕ, ◌==◌, List, [], ◌∷◌, ◌++◌, length, Bool, true, false, not, ◌&&◌, ◌||◌, reverse, refl, sym, ap, subst, true≢false, is_some}
use Rattle.std.specs.List.{list_any}
use Rattle.std.specs.Str.{bytes_eq}
use Rattle.std.proofs.lemmas.Bool.{and_parts, and_left, or_left, or_right, eqb-true, eq-eqb, not-true, false_from_ne_true}
use Rattle.qc_base.specs.declared.log_line.LogLine.{LogLine}
use Rattle.qc_base.specs.declared.recording.Row.{Row}
use Rattle.qc_base.specs.LogLines.{unforgotten, unfinished}
use Rattle.qc_base.specs.Rows.{OutsideRows, put_row}
use Rattle.qc_catalogue.specs.declared.catalogue.Catalogue.{Catalogue}
use Rattle.qc_play.specs.Play.{outside_row}
use Rattle.qc_play.specs.Effects.{IsChain}
use Rattle.qc_play.proofs.OuterLaws.{bytes-same}
use Rattle.qc_rows.specs.Outside.{outside_amount}
use Rattle.crm_history.specs.Legal.{is_committed}
use Rattle.crm_recovery.specs.Settling.{attempts_puts, phase_puts, rows_after}
use Rattle.qc_machine.specs.History.{History, are_distinct}
use Rattle.qc_machine.specs.Holding.{has_row}
use Rattle.qc_machine.specs.Sound.{ended_in, is_log_of, IsSound}
use Rattle.qc_machine.specs.Finishable.{has_key, is_among, is_late, IsFinishable, AreFinishable}
use Rattle.qc_machine.specs.OwnLines.{is_named}
use Rattle.qc_machine.proofs.Finishing.{phase, finished, finished-beside}
use Rattle.qc_machine.proofs.LinesBehind.{registered-behind, kept-behind}
use Rattle.qc_machine.proofs.PutRows.{same-put, put-other, puts-behind}
use Rattle.qc_machine.proofs.Unfinished.{rising-distinct, unfinished-rising}

-- of one attempt

module _ (c : Catalogue) (lines : List LogLine) (rows : OutsideRows) (a : ℕ) (mine : List Row) (first now : OutsideRows) (committed : Bool) where
  -- its rows alone matter
  pub finishable-rows : (next : OutsideRows) → ((r k : List ℕ) → has_row mine (outside_row r k) ≡ true → next r k ≡ rows r k)
      → IsFinishable c lines rows a mine first now committed → IsFinishable c lines next a mine first now committed
  finishable-rows next same is = record {
    names = is.names;
    registered = is.registered;
    apart = is.apart;
    known = is.known;
    none = is.none;
    chain = is.chain;
    inside = is.inside;
    unwritten = λ r k m e. same r k m ∙ is.unwritten r k m e;
    there = λ r k m e. ap is_some (same r k m) ∙ is.there r k m e;
    left = λ r k m e. same r k m ∙ is.left r k m e;
  }

  -- its lines alone matter
  pub finishable-lines : (more : List LogLine) → is_named more a ≡ false
      → IsFinishable c lines rows a mine first now committed → IsFinishable c (lines ++ more) rows a mine first now committed
  finishable-lines more others is = record {
    names = is.names;
    registered = registered-behind lines more a others ∙ is.registered;
    apart = is.apart;
    known = is.known;
    none = λ r e. kept-behind lines more a others r ∙ is.none r e;
    chain = λ r. subst (λ rs. IsChain (first r) (reverse rs) (now r)) (sym (kept-behind lines more a others r)) (is.chain r);
    inside = is.inside;
    unwritten = λ r k m e. is.unwritten r k m (ap (λ rs. has_key (reverse rs) k) (sym (kept-behind lines more a others r)) ∙ e);
    there = λ r k m e. is.there r k m (ap (λ rs. has_key (reverse rs) k) (sym (kept-behind lines more a others r)) ∙ e);
    left = is.left;
  }

  -- a put of a row that it has a record of, and that its phase puts
  pub finishable-put : (resource key : List ℕ) (n : ℕ) → has_key (reverse (unforgotten lines a resource)) key ≡ true → is_late c resource ≡ committed
      → IsFinishable c lines rows a mine first now committed → IsFinishable c lines (put_row resource key n rows) a mine first now committed
  finishable-put resource key n written late is = record {
    names = is.names;
    registered = is.registered;
    apart = is.apart;
    known = is.known;
    none = is.none;
    chain = is.chain;
    inside = is.inside;
    unwritten = λ r k m e. put-other resource key n rows r k (other r k e) ∙ is.unwritten r k m e;
    there = λ r k m e. same-put resource key n rows r k ∙ is.there r k m e;
    left = λ r k m e. put-other resource key n rows r k (and_left (bytes_eq r resource) _ (elsewhere r e)) ∙ is.left r k m e;
  }
    where
      other : (r k : List ℕ) → has_key (reverse (unforgotten lines a r)) k ≡ false → (bytes_eq r resource && bytes_eq k key) ≡ false
      other r k e = false_from_ne_true (bytes_eq r resource && bytes_eq k key) (λ t. let parts = and_parts (bytes_eq r resource) _ t in
          true≢false (sym written ∙ (λ i. has_key (reverse (unforgotten lines a (sym (bytes-same r resource parts.0) i))) (sym (bytes-same k key parts.1) i)) ∙ e))

      differ : (b : Bool) → b ≡ not b → ⊥
      differ true e = true≢false e
      differ false e = true≢false (sym e)

      elsewhere : (r : List ℕ) → is_late c r ≡ not committed → bytes_eq r resource ≡ false
      elsewhere r e = false_from_ne_true (bytes_eq r resource) (λ t. differ committed (sym late ∙ (λ i. is_late c (sym (bytes-same r resource t) i)) ∙ e))

-- of all unfinished ones

-- the phases of all lead to the settled amounts
settles : (h : History) (lines : List LogLine) (attempts : List ℕ) (rows : OutsideRows) → are_distinct attempts ≡ true → AreFinishable h lines rows attempts
    → (r k : List ℕ) → rows_after (attempts_puts h.catalogue (ended_in h) lines attempts) rows r k ≡ outside_amount h.outside r k
settles h lines [] rows distinct is r k = is.free r k (λ a e. absurd (true≢false (sym e)))
settles h lines (a ∷ attempts) rows distinct is r k =
    ap (λ (f : OutsideRows). f r k) (puts-behind (phase_puts h.catalogue lines a committed) (attempts_puts h.catalogue (ended_in h) lines attempts) rows)
    ∙ settles h lines attempts next parts.1 on r k
  where
    parts : (not (list_any (λ m. m == a) attempts) ≡ true) × (are_distinct attempts ≡ true)
    parts = and_parts (not (list_any (λ m. m == a) attempts)) _ distinct

    committed : Bool
    committed = is_committed a (ended_in h)

    here : is_among a (a ∷ attempts) ≡ true
    here = or_left (a == a) _ (eq-eqb a a refl)

    more : (b : ℕ) → is_among b attempts ≡ true → is_among b (a ∷ attempts) ≡ true
    more b e = or_right (a == b) _ e

    mine : IsFinishable h.catalogue lines rows a (is.mine a) (is.first a) (is.now a) committed
    mine = is.each a here

    next : OutsideRows
    next = phase h.catalogue lines a (is.mine a) (is.first a) (is.now a) committed rows

    differ : (b : ℕ) → is_among b attempts ≡ true → (b == a) ≡ false
    differ b e = false_from_ne_true (b == a) (λ t. true≢false (sym e ∙ ap (λ n. list_any (λ m. m == n) attempts) (eqb-true b a t) ∙ not-true _ parts.0))

    beside : (b : ℕ) → is_among b attempts ≡ true → (r k : List ℕ) → has_row (is.mine b) (outside_row r k) ≡ true → next r k ≡ rows r k
    beside b e r k m = finished-beside h.catalogue lines a (is.mine a) (is.first a) (is.now a) committed rows mine r k (is.apart b a (differ b e) (more b e) here (outside_row r k) m)

    on : AreFinishable h lines next attempts
    on = record {
      mine = is.mine;
      first = is.first;
      now = is.now;
      each = λ b e. finishable-rows h.catalogue lines rows b (is.mine b) (is.first b) (is.now b) (is_committed b (ended_in h)) next (beside b e) (is.each b (more b e));
      apart = λ b d other e f. is.apart b d other (more b e) (more d f);
      settled = λ b e. is.settled b (more b e);
      free = λ r k none. by r k none (has_row (is.mine a) (outside_row r k)) refl;
    }
      where
        by : (r k : List ℕ) → ((b : ℕ) → is_among b attempts ≡ true → has_row (is.mine b) (outside_row r k) ≡ false) → (t : Bool) → has_row (is.mine a) (outside_row r k) ≡ t → next r k ≡ outside_amount h.outside r k
        by r k none true m = finished h.catalogue lines a (is.mine a) (is.first a) (is.now a) committed rows mine r k m ∙ sym (is.settled a here r k m)
        by r k none false m =
            finished-beside h.catalogue lines a (is.mine a) (is.first a) (is.now a) committed rows mine r k m
            ∙ is.free r k (λ b e. either b (a == b) refl e)
          where
            either : (b : ℕ) (t : Bool) → (a == b) ≡ t → (t || is_among b attempts) ≡ true → has_row (is.mine b) (outside_row r k) ≡ false
            either b true f e = (λ i. has_row (is.mine (sym (eqb-true a b f) i)) (outside_row r k)) ∙ m
            either b false f e = none b e

-- what a crash may leave is sound
pub sound-left : (h : History) (lines : List LogLine) (rows : OutsideRows) → is_log_of h lines ≡ true → AreFinishable h lines rows (unfinished lines) → IsSound h lines rows
sound-left h lines rows legal is = record {
  legal = legal;
  settled = settles h lines (unfinished lines) rows (rising-distinct (unfinished lines) (unfinished-rising h.catalogue (length h.messages) (ended_in h) lines legal)) is;
}
