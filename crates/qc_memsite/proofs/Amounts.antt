-- Rows as a list.
use Rattle.std.proofs.Common.{◌≡◌, ℕ, suc, ◌+◌, ◌<◌, List, [], ◌∷◌, ◌++◌, length, take, drop, set, get_or, refl, sym, ◌∙◌, ap, arith, true, false, cond, Bool, ◌&&◌, Option, Some, None}
use Rattle.std.specs.Option.{is_some}
use Rattle.std.specs.Str.{bytes_eq}
use Rattle.std.proofs.lemmas.List.{take_more, take-append-drop, drop_more, set_split}
use Rattle.std.proofs.lemmas.Bool.{and_parts}
use Rattle.std.proofs.lemmas.Slice.Eq.{bytes_eq-Decides}
use Rattle.qc_base.specs.Rows.{set_row}
use Rattle.qc_memsite.specs.declared.row.RowAmount.{RowAmount}
use Rattle.qc_memsite.specs.Rows.{is_row, row_of, IsRowAt}

abbrev pub option_or : Option ℕ → Option ℕ → Option ℕ
option_or (Some n) o = Some n
option_or None o = o

pub row_append : (xs ys : List RowAmount) (r k : List ℕ) → row_of (xs ++ ys) r k ≡ option_or (row_of xs r k) (row_of ys r k)
row_append [] ys r k = refl
row_append (x ∷ xs) ys r k = elim (is_row r k x) as (λ b. cond b (Some x.amount) (row_of (xs ++ ys) r k) ≡ option_or (cond b (Some x.amount) (row_of xs r k)) (row_of ys r k)) [ true ↦ refl | false ↦ row_append xs ys r k ]

-- one row more
pub row_more : (rows : List RowAmount) (i : ℕ) (x : RowAmount) (r k : List ℕ) → i < length rows → x ≡ get_or rows i x → row_of (take (i + 1) rows) r k ≡ option_or (row_of (take i rows) r k) (row_of (x ∷ []) r k)
row_more rows i x r k lt here = ap (λ (l : List RowAmount). row_of l r k) (take_more rows i x lt ∙ ap (λ (y : RowAmount). take i rows ++ y ∷ []) (sym here)) ∙ row_append (take i rows) (x ∷ []) r k

split_at : (rows : List RowAmount) (i : ℕ) (x : RowAmount) → i < length rows → x ≡ get_or rows i x → rows ≡ take i rows ++ x ∷ drop (i + 1) rows
split_at rows i x lt here = sym (take-append-drop i rows) ∙ ap (λ (l : List RowAmount). take i rows ++ l) (drop_more rows i x lt ∙ ap (λ (y : RowAmount). y ∷ drop (i + 1) rows) (sym here))

-- what the row holds that was found
pub row_at : (rows : List RowAmount) (i : ℕ) (x : RowAmount) (r k : List ℕ) → IsRowAt rows r k i → x ≡ get_or rows i x → row_of rows r k ≡ Some x.amount
row_at rows i x r k at here =
    ap (λ (l : List RowAmount). row_of l r k) (split_at rows i x at.within here)
    ∙ row_append (take i rows) (x ∷ drop (i + 1) rows) r k
    ∙ (λ j. option_or (at.before j) (cond (at.is x here j) (Some x.amount) (row_of (drop (i + 1) rows) r k)))

set_by : (b : Bool) (f rest : Option ℕ) (a m : ℕ) → (b ≡ true → f ≡ None) → option_or f (cond b (Some a) rest) ≡ cond b (Some a) (option_or f (cond b (Some m) rest))
set_by true f rest a m none = ap (λ o. option_or o (Some a)) (none refl)
set_by false f rest a m none = refl

same_row : (x : RowAmount) (resource key : List ℕ) → is_row resource key x ≡ true → (resource ≡ x.resource.items) × (key ≡ x.key.items)
same_row x resource key is =
    let p = and_parts (bytes_eq resource x.resource.items) (bytes_eq key x.key.items) is in
    ((bytes_eq-Decides resource x.resource.items).0 p.0, (bytes_eq-Decides key x.key.items).0 p.1)

none_before : (front : List RowAmount) (resource key r k : List ℕ) → row_of front resource key ≡ None → (bytes_eq r resource && bytes_eq k key) ≡ true → row_of front r k ≡ None
none_before front resource key r k none is =
    let p = and_parts (bytes_eq r resource) (bytes_eq k key) is in
    let rs : r ≡ resource = (bytes_eq-Decides r resource).0 p.0 in
    let ks : k ≡ key = (bytes_eq-Decides k key).0 p.1 in
    (λ j. row_of front (rs j) (ks j)) ∙ none

module _ (rows : List RowAmount) (i : ℕ) (x y : RowAmount) (resource key : List ℕ) (amount : ℕ) where
  -- a row that is there is set in its place
  pub row_put : IsRowAt rows resource key i → x ≡ get_or rows i x → y.resource.items ≡ x.resource.items → y.key.items ≡ x.key.items → y.amount ≡ amount → (r k : List ℕ) → row_of (set rows i y) r k ≡ set_row resource key amount (λ s j. row_of rows s j) r k
  row_put at here ys yk ya r k =
      let same = same_row x resource key (at.is x here) in
      let now : row_of (set rows i y) r k ≡ option_or (row_of (take i rows) r k) (cond (is_row r k y) (Some y.amount) (row_of (drop (suc i) rows) r k)) = ap (λ (l : List RowAmount). row_of l r k) (set_split rows i y at.within) ∙ row_append (take i rows) (y ∷ drop (suc i) rows) r k in
      let was : row_of rows r k ≡ option_or (row_of (take i rows) r k) (cond (is_row r k x) (Some x.amount) (row_of (drop (i + 1) rows) r k)) = ap (λ (l : List RowAmount). row_of l r k) (split_at rows i x at.within here) ∙ row_append (take i rows) (x ∷ drop (i + 1) rows) r k in
      let next : suc i ≡ i + 1 = omega arith in
      let is_y : is_row r k y ≡ (bytes_eq r resource && bytes_eq k key) = λ j. bytes_eq r ((ys ∙ sym same.0) j) && bytes_eq k ((yk ∙ sym same.1) j) in
      let is_x : is_row r k x ≡ (bytes_eq r resource && bytes_eq k key) = λ j. bytes_eq r (sym same.0 j) && bytes_eq k (sym same.1 j) in
      now
      ∙ (λ j. option_or (row_of (take i rows) r k) (cond (is_y j) (Some (ya j)) (row_of (drop (next j) rows) r k)))
      ∙ set_by (bytes_eq r resource && bytes_eq k key) (row_of (take i rows) r k) (row_of (drop (i + 1) rows) r k) amount x.amount (none_before (take i rows) resource key r k at.before)
      ∙ (λ j. cond (bytes_eq r resource && bytes_eq k key) (Some amount) (option_or (row_of (take i rows) r k) (cond (sym is_x j) (Some x.amount) (row_of (drop (i + 1) rows) r k))))
      ∙ ap (λ (o : Option ℕ). cond (bytes_eq r resource && bytes_eq k key) (Some amount) o) (sym was)

push_by : (b : Bool) (o : Option ℕ) (a : ℕ) → (b ≡ true → o ≡ None) → option_or o (cond b (Some a) None) ≡ cond b (Some a) o
push_by true o a none = ap (λ p. option_or p (Some a)) (none refl) ∙ refl
push_by false o a none = or_none o
  where
    or_none : (o : Option ℕ) → option_or o None ≡ o
    or_none (Some n) = refl
    or_none None = refl

-- a row that isn't there is put at the end
pub row_pushed : (rows : List RowAmount) (y : RowAmount) (resource key : List ℕ) (amount : ℕ) → row_of rows resource key ≡ None → y.resource.items ≡ resource → y.key.items ≡ key → y.amount ≡ amount
    → (r k : List ℕ) → row_of (rows ++ y ∷ []) r k ≡ set_row resource key amount (λ s j. row_of rows s j) r k
row_pushed rows y resource key amount missing ys yk ya r k =
    row_append rows (y ∷ []) r k
    ∙ (λ j. option_or (row_of rows r k) (cond (bytes_eq r (ys j) && bytes_eq k (yk j)) (Some (ya j)) None))
    ∙ push_by (bytes_eq r resource && bytes_eq k key) (row_of rows r k) amount (none_before rows resource key r k missing)

pub none_of : (o : Option ℕ) → is_some o ≡ false → o ≡ None
none_of (Some n) is = absurd (cc)
none_of None is = refl
