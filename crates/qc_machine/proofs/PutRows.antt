-- Puts keep which rows are there, and leave rows that aren't theirs.
use Rattle.std.proofs.Common.{◌≡◌, ◌∙◌, ℕ, List, [], ◌∷◌, ◌++◌, Bool, true, false, cond, ◌&&◌, refl, sym, ap, Some, is_some}
use Rattle.std.specs.Str.{bytes_eq}
use Rattle.std.proofs.lemmas.Bool.{and_parts, cond-false}
use Rattle.qc_base.specs.Rows.{OutsideRows, set_row, put_row}
use Rattle.qc_base.specs.declared.log_line.LogLine.{LogLine}
use Rattle.qc_base.specs.LogLines.{unfinished}
use Rattle.qc_play.proofs.OuterLaws.{bytes-same}
use Rattle.qc_rows.specs.Outside.{outside_amount}
use Rattle.crm_driver.specs.Puts.{RowPut}
use Rattle.crm_recovery.specs.Settling.{attempts_puts, rows_after, settling_puts}
use Rattle.qc_machine.specs.History.{History}
use Rattle.qc_machine.specs.Sound.{ended_in, is_log_of, settled_by_log, IsSound}

-- the rows that are there
abbrev pub SameRows : OutsideRows → OutsideRows → Type 0
SameRows old new = (r k : List ℕ) → is_some (new r k) ≡ is_some (old r k)

pub same-put : (resource key : List ℕ) (amount : ℕ) (rows : OutsideRows) → SameRows rows (put_row resource key amount rows)
same-put resource key amount rows r k = by (is_some (rows resource key)) refl (bytes_eq r resource && bytes_eq k key) refl
  where
    by : (b : Bool) → is_some (rows resource key) ≡ b → (d : Bool) → (bytes_eq r resource && bytes_eq k key) ≡ d
        → is_some (cond b (set_row resource key amount rows) rows r k) ≡ is_some (rows r k)
    by false e d f = refl
    by true e true f =
        let parts = and_parts (bytes_eq r resource) _ f in
        let same_r : r ≡ resource = bytes-same r resource parts.0 in
        let same_k : k ≡ key = bytes-same k key parts.1 in
        ap (λ b. is_some (cond b (Some amount) (rows r k))) f ∙ sym e ∙ (λ i. is_some (rows (sym same_r i) (sym same_k i)))
    by true e false f = ap (λ b. is_some (cond b (Some amount) (rows r k))) f

pub same-puts : (puts : List RowPut) (rows : OutsideRows) → SameRows rows (rows_after puts rows)
same-puts [] rows r k = refl
same-puts (p ∷ puts) rows r k = same-puts puts (put_row p.resource p.key p.amount rows) r k ∙ same-put p.resource p.key p.amount rows r k

-- a put leaves another row as it is
pub put-other : (resource key : List ℕ) (amount : ℕ) (rows : OutsideRows) (r k : List ℕ) → (bytes_eq r resource && bytes_eq k key) ≡ false
    → put_row resource key amount rows r k ≡ rows r k
put-other resource key amount rows r k other = by (is_some (rows resource key))
  where
    by : (b : Bool) → cond b (set_row resource key amount rows) rows r k ≡ rows r k
    by true = cond-false (bytes_eq r resource && bytes_eq k key) (Some amount) (rows r k) other
    by false = refl

-- a put makes of a row what it makes of it among other rows

put-alike : (resource key : List ℕ) (amount : ℕ) (rows next : OutsideRows) (r k : List ℕ) → next r k ≡ rows r k
    → put_row resource key amount next r k ≡ put_row resource key amount rows r k
put-alike resource key amount rows next r k same = by (bytes_eq r resource && bytes_eq k key) refl
  where
    by : (d : Bool) → (bytes_eq r resource && bytes_eq k key) ≡ d → put_row resource key amount next r k ≡ put_row resource key amount rows r k
    by false f = put-other resource key amount next r k f ∙ same ∙ sym (put-other resource key amount rows r k f)
    by true f =
        let parts = and_parts (bytes_eq r resource) _ f in
        let same_r : r ≡ resource = bytes-same r resource parts.0 in
        let same_k : k ≡ key = bytes-same k key parts.1 in
        let at : next resource key ≡ rows resource key = (λ i. next (sym same_r i) (sym same_k i)) ∙ same ∙ (λ i. rows (same_r i) (same_k i)) in
        (λ i. cond (is_some (at i)) (λ (x y : List ℕ). cond (bytes_eq x resource && bytes_eq y key) (Some amount) (next x y)) next r k)
        ∙ made (is_some (rows resource key))
      where
        made : (b : Bool) → cond b (set_row resource key amount next) next r k ≡ cond b (set_row resource key amount rows) rows r k
        made true = ap (λ o. cond (bytes_eq r resource && bytes_eq k key) (Some amount) o) same
        made false = same

pub puts-alike : (puts : List RowPut) (rows next : OutsideRows) (r k : List ℕ) → next r k ≡ rows r k → rows_after puts next r k ≡ rows_after puts rows r k
puts-alike [] rows next r k same = same
puts-alike (p ∷ puts) rows next r k same =
    puts-alike puts (put_row p.resource p.key p.amount rows) (put_row p.resource p.key p.amount next) r k (put-alike p.resource p.key p.amount rows next r k same)

-- some puts, and then others
pub puts-behind : (puts more : List RowPut) (rows : OutsideRows) → rows_after (puts ++ more) rows ≡ rows_after more (rows_after puts rows)
puts-behind [] more rows = refl
puts-behind (p ∷ puts) more rows = puts-behind puts more (put_row p.resource p.key p.amount rows)

-- settling keeps which rows are there
pub same-settled : (h : History) (lines : List LogLine) (rows : OutsideRows) → SameRows rows (settled_by_log h lines rows)
same-settled h lines rows = same-puts (settling_puts h.catalogue (ended_in h) lines) rows

-- a sound site has the rows of its history
pub sound-there : (h : History) (lines : List LogLine) (rows : OutsideRows) → IsSound h lines rows → (r k : List ℕ) → is_some (rows r k) ≡ is_some (outside_amount h.outside r k)
sound-there h lines rows is r k = sym (same-settled h lines rows r k) ∙ ap is_some (is.settled r k)

-- where no attempt is unfinished nothing is put

pub settled-already : (h : History) (lines : List LogLine) (rows : OutsideRows) → unfinished lines ≡ [] → settled_by_log h lines rows ≡ rows
settled-already h lines rows none = λ i. rows_after (attempts_puts h.catalogue (ended_in h) lines (none i)) rows

pub sound-settled : (h : History) (lines : List LogLine) (rows : OutsideRows) → IsSound h lines rows → unfinished lines ≡ []
    → (r k : List ℕ) → rows r k ≡ outside_amount h.outside r k
sound-settled h lines rows is none r k = sym (λ i. settled-already h lines rows none i r k) ∙ is.settled r k

pub settled-sound : (h : History) (lines : List LogLine) (rows : OutsideRows) → is_log_of h lines ≡ true → unfinished lines ≡ []
    → ((r k : List ℕ) → rows r k ≡ outside_amount h.outside r k) → IsSound h lines rows
settled-sound h lines rows legal none same = record { legal = legal; settled = λ r k. (λ i. settled-already h lines rows none i r k) ∙ same r k }
