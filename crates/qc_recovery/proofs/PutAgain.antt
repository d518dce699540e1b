-- Puts that are made again behind a front of them.
use Rattle.std.proofs.Common.{◌≡◌, ◌∙◌, ℕ, List, [], ◌∷◌, ◌++◌, Bool, true, false, cond, ◌&&◌, ◌||◌, Option, Some, None, is_some, refl, sym, ap}
use Rattle.std.specs.List.{list_any}
use Rattle.std.specs.Str.{bytes_eq}
use Rattle.std.proofs.lemmas.Bool.{and_parts, or_left, or_parts}
use Rattle.std.proofs.lemmas.List.Folds.{list_any-append}
use Rattle.qc_base.specs.Rows.{OutsideRows, put_row, set_row}
use Rattle.qc_play.proofs.OuterLaws.{bytes-same}
use Rattle.crm_driver.specs.Puts.{RowPut}
use Rattle.crm_recovery.specs.Settling.{rows_after}
use Rattle.qc_machine.proofs.PutRows.{put-other, puts-alike, same-put, same-puts}

pub none-there : (o : Option ℕ) → is_some o ≡ false → o ≡ None
none-there None e = refl
none-there (Some n) e = absurd cc

-- a row that is put has the amount where it is there
put-there : (resource key : List ℕ) (amount : ℕ) (rows : OutsideRows) (r k : List ℕ) → (bytes_eq r resource && bytes_eq k key) ≡ true → put_row resource key amount rows r k ≡ cond (is_some (rows r k)) (Some amount) None
put-there resource key amount rows r k f =
    let parts = and_parts (bytes_eq r resource) _ f in
    let same_r : r ≡ resource = bytes-same r resource parts.0 in
    let same_k : k ≡ key = bytes-same k key parts.1 in
    (λ i. cond (is_some (rows (sym same_r i) (sym same_k i))) (set_row resource key amount rows) rows r k) ∙ by (is_some (rows r k)) refl
  where
    by : (b : Bool) → is_some (rows r k) ≡ b → cond b (set_row resource key amount rows) rows r k ≡ cond b (Some amount) None
    by true e = ap (λ (t : Bool). cond t (Some amount) (rows r k)) f
    by false e = none-there (rows r k) e

-- whether one of these puts is of the row
abbrev names : List ℕ → List ℕ → RowPut → Bool
names r k p = bytes_eq r p.resource && bytes_eq k p.key

-- a row that isn't put stays
unnamed : (puts : List RowPut) (rows : OutsideRows) (r k : List ℕ) → list_any (names r k) puts ≡ false → rows_after puts rows r k ≡ rows r k
unnamed [] rows r k other = refl
unnamed (p ∷ puts) rows r k other =
    let parts = or_parts (names r k p) _ other in
    unnamed puts (put_row p.resource p.key p.amount rows) r k parts.1 ∙ put-other p.resource p.key p.amount rows r k parts.0

-- a row that is put ends as it would from any rows among which it is there, or isn't
named : (puts : List RowPut) (rows next : OutsideRows) (r k : List ℕ) → list_any (names r k) puts ≡ true → is_some (next r k) ≡ is_some (rows r k) → rows_after puts next r k ≡ rows_after puts rows r k
named [] rows next r k here same = absurd cc
named (p ∷ puts) rows next r k here same = by (names r k p) refl (named puts after_rows after_next r k)
  where
    after_rows : OutsideRows
    after_rows = put_row p.resource p.key p.amount rows

    after_next : OutsideRows
    after_next = put_row p.resource p.key p.amount next

    by : (b : Bool) → names r k p ≡ b → (list_any (names r k) puts ≡ true → is_some (after_next r k) ≡ is_some (after_rows r k) → rows_after puts after_next r k ≡ rows_after puts after_rows r k)
        → rows_after puts after_next r k ≡ rows_after puts after_rows r k
    by true e others =
        puts-alike puts after_rows after_next r k
        (put-there p.resource p.key p.amount next r k e ∙ ap (λ (b : Bool). cond b (Some p.amount) None) same ∙ sym (put-there p.resource p.key p.amount rows r k e))
    by false e others =
        others (sym (ap (λ (b : Bool). b || list_any (names r k) puts) e) ∙ here)
        (same-put p.resource p.key p.amount next r k ∙ same ∙ sym (same-put p.resource p.key p.amount rows r k))

-- puts of which a front was made already
pub put-again : (made more : List RowPut) (rows : OutsideRows) (r k : List ℕ) → rows_after (made ++ more) (rows_after made rows) r k ≡ rows_after (made ++ more) rows r k
put-again made more rows r k = by (list_any (names r k) made) refl
  where
    by : (b : Bool) → list_any (names r k) made ≡ b → rows_after (made ++ more) (rows_after made rows) r k ≡ rows_after (made ++ more) rows r k
    by true e = named (made ++ more) rows (rows_after made rows) r k (list_any-append (names r k) made more ∙ or_left (list_any (names r k) made) _ e) (same-puts made rows r k)
    by false e = puts-alike (made ++ more) rows (rows_after made rows) r k (unnamed made rows r k e)
