-- The phase of an attempt that a crash left is finished by a recovery, wherever between two puts the crash was: what was
-- put before is put again, and comes to the same.
use Rattle.std.proofs.Common.{◌≡◌, ◌∙◌, ℕ, List, [], ◌∷◌, Bool, true, false, not, cond, ◌||◌, flat_map, reverse, refl, sym, ap, true≢false, Option, Some, is_some}
use Rattle.std.specs.List.{list_any}
use Rattle.std.specs.Option.{option_map_or}
use Rattle.std.specs.Str.{bytes_eq}
use Rattle.std.proofs.lemmas.Bool.{and_right, or_parts, or_from, false_from_ne_true}
use Rattle.std.proofs.lemmas.List.{reverse-append, reverse-reverse}
use Rattle.std.proofs.lemmas.List.Folds.{list_any-append}
use Rattle.qc_base.specs.declared.log_line.LogLine.{LogLine}
use Rattle.qc_base.specs.declared.log_line.LogRecord.{LogRecord}
use Rattle.qc_base.specs.declared.recording.Row.{Row}
use Rattle.qc_base.specs.LogLines.{Registration, unforgotten}
use Rattle.qc_base.specs.Rows.{OutsideRows, put_row}
use Rattle.qc_catalogue.specs.declared.catalogue.Catalogue.{Catalogue}
use Rattle.qc_catalogue.specs.declared.catalogue.Resource.{Resource}
use Rattle.qc_catalogue.specs.Lookup.{resource_named}
use Rattle.qc_catalogue.proofs.Lookups.{found_name}
use Rattle.qc_play.specs.Play.{outside_row}
use Rattle.qc_play.specs.Effects.{IsChain}
use Rattle.qc_play.proofs.OuterLaws.{bytes-same}
use Rattle.crm_driver.specs.Puts.{RowPut}
use Rattle.crm_recovery.specs.Settling.{phase_puts, puts_of, registration_puts, rows_after}
use Rattle.qc_machine.specs.Holding.{has_row}
use Rattle.qc_machine.specs.Finishable.{has_key, is_late, IsFinishable}
use Rattle.qc_machine.proofs.PutRows.{same-put, same-puts, put-other}
use Rattle.qc_machine.proofs.PhaseRows.{each_put, named_puts, named-rows, new_of, old_of, phase_put, put-here, put-push, puts-by, unnamed-rows, unput}

-- the amounts before a record's change
abbrev undone : LogRecord → (List ℕ → Option ℕ) → List ℕ → Option ℕ
undone r now k = cond (bytes_eq k r.key) (Some r.old) (now k)

pub chain-none : (first : List ℕ → Option ℕ) (rs : List LogRecord) (now : List ℕ → Option ℕ) (k : List ℕ) → IsChain first rs now → has_key rs k ≡ false → now k ≡ first k
chain-none first [] now k c none = c k
chain-none first (r ∷ rs) now k c none =
    let parts = or_parts (bytes_eq k r.key) _ none in
    sym (ap (λ b. cond b (Some r.old) (now k)) parts.0) ∙ chain-none first rs (undone r now) k c.1 parts.1

pub has-key-reverse : (rs : List LogRecord) (k : List ℕ) → has_key (reverse rs) k ≡ has_key rs k
has-key-reverse [] k = refl
has-key-reverse (r ∷ rs) k =
    ap (λ l. has_key l k) (reverse-append (r ∷ []) rs)
    ∙ list_any-append (λ (x : LogRecord). bytes_eq k x.key) (reverse rs) (r ∷ [])
    ∙ ap (λ b. b || (bytes_eq k r.key || false)) (has-key-reverse rs k) ∙ swap (has_key rs k) (bytes_eq k r.key)
  where
    swap : (x y : Bool) → (x || (y || false)) ≡ (y || x)
    swap true true = refl
    swap true false = refl
    swap false true = refl
    swap false false = refl

module _ (resource : List ℕ) where
  abbrev puts_old : List LogRecord → OutsideRows → OutsideRows
  puts_old rs rows = rows_after (each_put old_of resource rs) rows

  abbrev puts_new : List LogRecord → OutsideRows → OutsideRows
  puts_new rs rows = rows_after (each_put new_of resource rs) rows

  at-key : (r : LogRecord) (rows : OutsideRows) (k : List ℕ) → bytes_eq k r.key ≡ true → is_some (rows resource k) ≡ true → is_some (rows resource r.key) ≡ true
  at-key r rows k e t = (λ i. is_some (rows resource (sym (bytes-same k r.key e) i))) ∙ t

  -- back to the first amount, from any amount
  old-any : (rs : List LogRecord) (first now : List ℕ → Option ℕ) (rows : OutsideRows) (k : List ℕ) → IsChain first rs now → is_some (rows resource k) ≡ true → has_key rs k ≡ true → puts_old rs rows resource k ≡ first k
  old-any [] first now rows k c t here = absurd (true≢false (sym here))
  old-any (r ∷ rs) first now rows k c t here =
      by (has_key rs k) refl (bytes_eq k r.key) refl here (old-any rs first (undone r now) (put_row resource r.key r.old rows) k c.1 (same-put resource r.key r.old rows resource k ∙ t))
    where
      by : (b : Bool) → has_key rs k ≡ b → (d : Bool) → bytes_eq k r.key ≡ d → (d || b) ≡ true → (has_key rs k ≡ true → puts_old rs (put_row resource r.key r.old rows) resource k ≡ first k)
          → puts_old rs (put_row resource r.key r.old rows) resource k ≡ first k
      by true e d f h on = on e
      by false e false f h on = absurd (true≢false (sym h))
      by false e true f h on =
          unput old_of resource rs (put_row resource r.key r.old rows) k e ∙ put-here resource r.key r.old rows k (at-key r rows k f t) ∙ ap (λ b. cond b (Some r.old) (rows resource k)) f
          ∙ sym (ap (λ b. cond b (Some r.old) (now k)) f) ∙ chain-none first rs (undone r now) k c.1 e

  -- on to the last amount, from any amount
  new-any : (rs : List LogRecord) (first now : List ℕ → Option ℕ) (rows : OutsideRows) (k : List ℕ) → IsChain first rs now → is_some (rows resource k) ≡ true → has_key rs k ≡ true → puts_new (reverse rs) rows resource k ≡ now k
  new-any [] first now rows k c t here = absurd (true≢false (sym here))
  new-any (r ∷ rs) first now rows k c t here =
      ap (λ l. puts_new l rows resource k) (reverse-append (r ∷ []) rs)
      ∙ ap (λ (f : OutsideRows). f resource k) (put-push new_of resource (reverse rs) r rows)
      ∙ by (bytes_eq k r.key) refl here (new-any rs first (undone r now) rows k c.1 t)
    where
      by : (b : Bool) → bytes_eq k r.key ≡ b → (b || has_key rs k) ≡ true → (has_key rs k ≡ true → puts_new (reverse rs) rows resource k ≡ undone r now k) → put_row resource r.key r.new (puts_new (reverse rs) rows) resource k ≡ now k
      by true f h on =
          put-here resource r.key r.new (puts_new (reverse rs) rows) k (at-key r (puts_new (reverse rs) rows) k f (same-puts (each_put new_of resource (reverse rs)) rows resource k ∙ t))
          ∙ ap (λ b. cond b (Some r.new) (puts_new (reverse rs) rows resource k)) f ∙ sym ((λ i. now (bytes-same k r.key f i)) ∙ c.0)
      by false f h on =
          put-other resource r.key r.new (puts_new (reverse rs) rows) resource k (and_right (bytes_eq resource resource) _ f) ∙ on h ∙ ap (λ b. cond b (Some r.old) (now k)) f

-- the records of a chain are of the attempt's rows

pub chain-inside : (mine : List Row) (resource : List ℕ) (rs : List LogRecord) (first now : List ℕ → Option ℕ) → IsChain first rs now → ((k : List ℕ) → is_some (now k) ≡ true → has_row mine (outside_row resource k) ≡ true)
    → (k : List ℕ) → has_row mine (outside_row resource k) ≡ false → has_key rs k ≡ false
chain-inside mine resource [] first now c h k none = refl
chain-inside mine resource (r ∷ rs) first now c h k none =
    or_from (bytes_eq k r.key) _
    (false_from_ne_true (bytes_eq k r.key) (λ t. true≢false (sym (h r.key (ap is_some c.0)) ∙ (λ i. has_row mine (outside_row resource (sym (bytes-same k r.key t) i))) ∙ none)))
    (chain-inside mine resource rs first (undone r now) c.1 (λ k t. by k (bytes_eq k r.key) refl t) k none)
  where
    by : (k : List ℕ) (b : Bool) → bytes_eq k r.key ≡ b → is_some (cond b (Some r.old) (now k)) ≡ true → has_row mine (outside_row resource k) ≡ true
    by k true f t = (λ i. has_row mine (outside_row resource (bytes-same k r.key f i))) ∙ h r.key (ap is_some c.0)
    by k false f t = h k t

module _ (c : Catalogue) (lines : List LogLine) (attempt : ℕ) (mine : List Row) (first now : OutsideRows) (committed : Bool) where
  abbrev pub phase : OutsideRows → OutsideRows
  phase rows = rows_after (phase_puts c lines attempt committed) rows

  abbrev kept : List ℕ → List LogRecord
  kept r = unforgotten lines attempt r

  abbrev pub shall_be : List ℕ → List ℕ → Option ℕ
  shall_be r k = cond committed (now r k) (first r k)

  phase-by : (rows : OutsideRows) (is : IsFinishable c lines rows attempt mine first now committed) → phase rows ≡ rows_after (named_puts c lines attempt committed is.names) rows
  phase-by rows is = ap (λ (rs : List Registration). rows_after (flat_map (registration_puts c lines attempt committed) rs) rows) is.registered

  -- the attempt's rows are as they shall be
  pub finished : (rows : OutsideRows) → IsFinishable c lines rows attempt mine first now committed → (r k : List ℕ) → has_row mine (outside_row r k) ≡ true → phase rows r k ≡ shall_be r k
  finished rows is r k m = (λ i. phase-by rows is i r k) ∙ by (list_any (bytes_eq r) is.names) refl
    where
      same-goal : now r k ≡ first r k → (d : Bool) → first r k ≡ cond d (now r k) (first r k)
      same-goal e true = sym e
      same-goal e false = refl

      new : (b : Bool) → has_key (reverse (kept r)) k ≡ b → puts_new r (kept r) rows r k ≡ now r k
      new true e = ap (λ l. puts_new r l rows r k) (sym (reverse-reverse (kept r))) ∙ new-any r (reverse (kept r)) (first r) (now r) rows k (is.chain r) (is.there r k m e) e
      new false e =
          ap (λ l. puts_new r l rows r k) (sym (reverse-reverse (kept r))) ∙ unput new_of r (reverse (reverse (kept r))) rows k (has-key-reverse (reverse (kept r)) k ∙ e) ∙ is.unwritten r k m e
          ∙ sym (chain-none (first r) (reverse (kept r)) (now r) k (is.chain r) e)

      old : (b : Bool) → has_key (reverse (kept r)) k ≡ b → puts_old r (reverse (kept r)) rows r k ≡ first r k
      old true e = old-any r (reverse (kept r)) (first r) (now r) rows k (is.chain r) (is.there r k m e) e
      old false e = unput old_of r (reverse (kept r)) rows k e ∙ is.unwritten r k m e

      step : (x : Resource) → resource_named r c.resources ≡ Some x → rows_after (puts_of x committed (kept r)) rows r k ≡ shall_be r k
      step x found = ap (λ (ps : List RowPut). rows_after ps rows r k) (puts-by x committed x.early (kept r) refl) ∙ puts committed refl x.early refl
        where
          name : x.name ≡ r
          name = found_name (λ (x : Resource). x.name) r c.resources x found

          left : (d b : Bool) → committed ≡ d → x.early ≡ b → not b ≡ not d → rows r k ≡ cond d (now r k) (first r k)
          left d b e f same = is.left r k m (late ∙ ap not f ∙ same ∙ sym (ap not e)) ∙ ap (λ t. cond t (now r k) (first r k)) e
            where
              late : is_late c r ≡ not x.early
              late = ap (λ (o : Option Resource). option_map_or (λ (y : Resource). not y.early) o true) found

          puts : (d : Bool) → committed ≡ d → (b : Bool) → x.early ≡ b → rows_after (phase_put d b x.name (kept r)) rows r k ≡ cond d (now r k) (first r k)
          puts true e true f = left true true e f refl
          puts true e false f = (λ i. puts_new (name i) (kept r) rows r k) ∙ new (has_key (reverse (kept r)) k) refl
          puts false e true f = (λ i. puts_old (name i) (reverse (kept r)) rows r k) ∙ old (has_key (reverse (kept r)) k) refl
          puts false e false f = left false false e f refl

      by : (b : Bool) → list_any (bytes_eq r) is.names ≡ b → rows_after (named_puts c lines attempt committed is.names) rows r k ≡ shall_be r k
      by true e = let x = is.known r e in named-rows c lines attempt committed is.names rows r k x.0 is.apart e x.1 ∙ step x.0 x.1
      by false e =
          let empty : has_key (reverse (kept r)) k ≡ false = ap (λ rs. has_key (reverse rs) k) (is.none r e) in
          unnamed-rows c lines attempt committed is.names rows r k e ∙ is.unwritten r k m empty ∙ same-goal (chain-none (first r) (reverse (kept r)) (now r) k (is.chain r) empty) committed

  -- and others are as they were
  pub finished-beside : (rows : OutsideRows) → IsFinishable c lines rows attempt mine first now committed → (r k : List ℕ) → has_row mine (outside_row r k) ≡ false → phase rows r k ≡ rows r k
  finished-beside rows is r k none = (λ i. phase-by rows is i r k) ∙ by (list_any (bytes_eq r) is.names) refl
    where
      keyless : has_key (reverse (kept r)) k ≡ false
      keyless = chain-inside mine r (reverse (kept r)) (first r) (now r) (is.chain r) (is.inside r) k none

      step : (x : Resource) → resource_named r c.resources ≡ Some x → (d b : Bool) → rows_after (phase_put d b x.name (kept r)) rows r k ≡ rows r k
      step x found true true = refl
      step x found true false =
          (λ i. puts_new (found_name (λ (x : Resource). x.name) r c.resources x found i) (sym (reverse-reverse (kept r)) i) rows r k)
          ∙ unput new_of r (reverse (reverse (kept r))) rows k (has-key-reverse (reverse (kept r)) k ∙ keyless)
      step x found false true =
          (λ i. puts_old (found_name (λ (x : Resource). x.name) r c.resources x found i) (reverse (kept r)) rows r k)
          ∙ unput old_of r (reverse (kept r)) rows k keyless
      step x found false false = refl

      by : (b : Bool) → list_any (bytes_eq r) is.names ≡ b → rows_after (named_puts c lines attempt committed is.names) rows r k ≡ rows r k
      by false e = unnamed-rows c lines attempt committed is.names rows r k e
      by true e =
          let x = is.known r e in
          named-rows c lines attempt committed is.names rows r k x.0 is.apart e x.1
          ∙ ap (λ (ps : List RowPut). rows_after ps rows r k) (puts-by x.0 committed x.0.early (kept r) refl) ∙ step x.0 x.1 committed x.0.early
