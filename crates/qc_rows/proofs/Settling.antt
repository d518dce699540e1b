-- What a view makes of the tables, row by row.
use Rattle.std.proofs.Common.{◌≡◌, ◌∙◌, List, ℕ, ◌+◌, [], ◌∷◌, map, find, Bool, true, false, cond, ◌&&◌, ◌||◌, not, Option, Some, None, option_and_then, is_some, unwrap_or, refl, sym, ap, subst, true≢false, arith}
use Rattle.std.specs.List.{list_all, list_any}
use Rattle.std.specs.Option.{option_map_or}
use Rattle.std.specs.Str.{bytes_eq}
use Rattle.std.proofs.lemmas.Bool.{and_parts, and_from, or_parts, not-true, false_from_ne_true}
use Rattle.std.proofs.lemmas.List.Sums.{sum_by-cons}
use Rattle.std.proofs.lemmas.Slice.Eq.{bytes_eq-Decides}
use Rattle.qc_base.specs.declared.recording.Row.{Row}
use Rattle.qc_base.specs.Rows.{row_eq}
use Rattle.qc_catalogue.specs.Laws.{keys_ascend}
use Rattle.qc_rows.specs.Tables.{TableRows, rows_shown, is_set, amount_at, amount_in, row_amount, sum_of, total_in}
use Rattle.qc_rows.specs.Places.{rows_seen}
use Rattle.qc_rows.specs.Settling.{with_amount, settled, is_inside, settled_one, settled_by}
use Rattle.qc_rows.specs.Laws.{is_canonical, are_canonical, is_table, are_rows_apart, amount_seen, is_change, changes, new_sum, old_sum, SettlesAmounts, SettlesTotals, KeepsCanonical, KeepsNames}
use Rattle.qc_rows.proofs.Ascending.{rows-each}
use Rattle.qc_rows.proofs.Amounts.{amount-here, amount-there, sum-with, with-ascends, with-set}
use Rattle.qc_rows.proofs.SameRows.{row-same, keys-differ}

abbrev Seen : Type 0
Seen = Row × Option ℕ

abbrev names_of : List TableRows → List (List ℕ)
names_of tables = map (λ (t : TableRows). t.name) tables

-- the rows of a table by whether it's the first one
abbrev rows_or : Bool → TableRows → List ℕ → List TableRows → List (List ℕ × ℕ)
rows_or b t name tables = option_map_or (λ (t : TableRows). t.rows) (cond b (Some t) (find (λ (t : TableRows). bytes_eq t.name name) tables)) []

-- the rows of canonical tables stand in order
pub canonical-ascend : (name : List ℕ) (tables : List TableRows) → are_canonical tables ≡ true → keys_ascend (rows_shown name tables) ≡ true
canonical-ascend name tables h =
    let rows = rows_shown name tables in
    let stand = and_parts (keys_ascend rows) (list_all is_set rows) (rows-each (λ rows. keys_ascend rows && list_all is_set rows) name tables refl h) in
    stand.0

-- one row

module _ (row : Row) (amount : ℕ) where
  abbrev there : TableRows → TableRows
  there t = record t { rows = with_amount row.key amount t.rows }

  abbrev one : Bool → TableRows → TableRows
  one b t = cond b (there t) t

  one-name : (b : Bool) (t : TableRows) → (one b t).name ≡ t.name
  one-name true t = refl
  one-name false t = refl

  settled-names : (tables : List TableRows) → names_of (settled row amount tables) ≡ names_of tables
  settled-names [] = refl
  settled-names (t ∷ tables) = λ i. one-name (bytes_eq t.name row.name) t i ∷ settled-names tables i

  settled-canonical : (tables : List TableRows) → are_canonical tables ≡ true → are_canonical (settled row amount tables) ≡ true
  settled-canonical [] h = refl
  settled-canonical (t ∷ tables) h =
      let both = and_parts (is_canonical t) (are_canonical tables) h in
      let rows = and_parts (keys_ascend t.rows) (list_all is_set t.rows) both.0 in
      let first : is_canonical (there t) ≡ true =
      and_from (keys_ascend (with_amount row.key amount t.rows)) (list_all is_set (with_amount row.key amount t.rows)) (with-ascends row.key amount t.rows rows.0) (with-set row.key amount t.rows rows.1) in
      and_from (is_canonical (one (bytes_eq t.name row.name) t)) (are_canonical (settled row amount tables)) (by (bytes_eq t.name row.name) first both.0) (settled-canonical tables both.1)
    where
      by : (b : Bool) → is_canonical (there t) ≡ true → is_canonical t ≡ true → is_canonical (one b t) ≡ true
      by true new old = new
      by false new old = old

  -- the rows of its own table
  settled-rows : (tables : List TableRows) → is_table tables row.name ≡ true → rows_shown row.name (settled row amount tables) ≡ with_amount row.key amount (rows_shown row.name tables)
  settled-rows [] h = absurd (true≢false (sym h))
  settled-rows (t ∷ tables) h = by (bytes_eq t.name row.name) refl h (λ more. settled-rows tables more)
    where
      by : (b : Bool) → bytes_eq t.name row.name ≡ b → (b || is_table tables row.name) ≡ true
          → (is_table tables row.name ≡ true → rows_shown row.name (settled row amount tables) ≡ with_amount row.key amount (rows_shown row.name tables))
          → rows_or (bytes_eq (one b t).name row.name) (one b t) row.name (settled row amount tables) ≡ with_amount row.key amount (rows_or b t row.name tables)
      by true e h rest = ap (λ d. rows_or d (there t) row.name (settled row amount tables)) e
      by false e h rest = ap (λ d. rows_or d t row.name (settled row amount tables)) e ∙ rest h

  -- those of another
  settled-others : (name : List ℕ) (tables : List TableRows) → bytes_eq row.name name ≡ false → rows_shown name (settled row amount tables) ≡ rows_shown name tables
  settled-others name [] other = refl
  settled-others name (t ∷ tables) other = by (bytes_eq t.name row.name) refl (settled-others name tables other)
    where
      same : (d : Bool) → rows_shown name (settled row amount tables) ≡ rows_shown name tables → rows_or d t name (settled row amount tables) ≡ rows_or d t name tables
      same true rest = refl
      same false rest = rest

      by : (b : Bool) → bytes_eq t.name row.name ≡ b → rows_shown name (settled row amount tables) ≡ rows_shown name tables
          → rows_or (bytes_eq (one b t).name name) (one b t) name (settled row amount tables) ≡ rows_or (bytes_eq t.name name) t name tables
      by true e rest =
          let same : t.name ≡ row.name = (bytes_eq-Decides t.name row.name).0 e in
          let apart : bytes_eq t.name name ≡ false = rw same other in
          ap (λ d. rows_or d (there t) name (settled row amount tables)) apart ∙ rest ∙ sym (ap (λ d. rows_or d t name tables) apart)
      by false e rest = same (bytes_eq t.name name) rest

  -- another key of any
  settled-keys : (name key : List ℕ) (tables : List TableRows) → bytes_eq row.key key ≡ false → amount_in name key (settled row amount tables) ≡ amount_in name key tables
  settled-keys name key [] other = refl
  settled-keys name key (t ∷ tables) other = by (bytes_eq t.name row.name) (settled-keys name key tables other)
    where
      here : (d : Bool) → amount_in name key (settled row amount tables) ≡ amount_in name key tables
          → amount_at key (rows_or d (there t) name (settled row amount tables)) ≡ amount_at key (rows_or d t name tables)
      here true rest = amount-there row.key amount key t.rows other
      here false rest = rest

      elsewhere : (d : Bool) → amount_in name key (settled row amount tables) ≡ amount_in name key tables
          → amount_at key (rows_or d t name (settled row amount tables)) ≡ amount_at key (rows_or d t name tables)
      elsewhere true rest = refl
      elsewhere false rest = rest

      by : (b : Bool) → amount_in name key (settled row amount tables) ≡ amount_in name key tables
          → amount_at key (rows_or (bytes_eq (one b t).name name) (one b t) name (settled row amount tables)) ≡ amount_at key (rows_or (bytes_eq t.name name) t name tables)
      by true rest = here (bytes_eq t.name name) rest
      by false rest = elsewhere (bytes_eq t.name name) rest

  -- the row's amount, and that of another

  settled-amount : (tables : List TableRows) → is_table tables row.name ≡ true → are_canonical tables ≡ true → row_amount (settled row amount tables) row ≡ amount
  settled-amount tables h canonical =
      ap (amount_at row.key) (settled-rows tables h) ∙ amount-here row.key amount (rows_shown row.name tables) (canonical-ascend row.name tables canonical)

  settled-other : (x : Row) (tables : List TableRows) → is_inside row ≡ true → is_inside x ≡ true → row_eq row x ≡ false → row_amount (settled row amount tables) x ≡ row_amount tables x
  settled-other x tables inside within differ = by (bytes_eq row.name x.name) refl
    where
      by : (b : Bool) → bytes_eq row.name x.name ≡ b → row_amount (settled row amount tables) x ≡ row_amount tables x
      by true e = settled-keys x.name x.key tables (keys-differ row x inside within differ e)
      by false e = ap (amount_at x.key) (settled-others x.name tables e)

  settled-total : (tables : List TableRows) → is_table tables row.name ≡ true → are_canonical tables ≡ true
      → total_in row.name (settled row amount tables) + row_amount tables row ≡ total_in row.name tables + amount
  settled-total tables h canonical =
      omega (arith, ap sum_of (settled-rows tables h), sum-with row.key amount (rows_shown row.name tables) (canonical-ascend row.name tables canonical))

-- the row of a view, or what is passed over

abbrev if_inside : Bool → Seen → List TableRows → List TableRows
if_inside b s tables = cond b (option_map_or (λ amount. settled s.0 amount tables) s.1 tables) tables

abbrev if_some : Row → Option ℕ → List TableRows → List TableRows
if_some row o tables = option_map_or (λ amount. settled row amount tables) o tables

pub one-names : (s : Seen) (tables : List TableRows) → names_of (settled_one s tables) ≡ names_of tables
one-names s tables = by (is_inside s.0) s.1
  where
    by : (b : Bool) (o : Option ℕ) → names_of (cond b (if_some s.0 o tables) tables) ≡ names_of tables
    by false o = refl
    by true None = refl
    by true (Some amount) = settled-names s.0 amount tables

pub one-canonical : (s : Seen) (tables : List TableRows) → are_canonical tables ≡ true → are_canonical (settled_one s tables) ≡ true
one-canonical s tables h = by (is_inside s.0) s.1
  where
    by : (b : Bool) (o : Option ℕ) → are_canonical (cond b (if_some s.0 o tables) tables) ≡ true
    by false o = h
    by true None = h
    by true (Some amount) = settled-canonical s.0 amount tables h

table-named : (tables : List TableRows) (name : List ℕ) → is_table tables name ≡ list_any (λ (n : List ℕ). bytes_eq n name) (names_of tables)
table-named [] name = refl
table-named (t ∷ tables) name = ap (λ b. bytes_eq t.name name || b) (table-named tables name)

pub one-table : (s : Seen) (tables : List TableRows) (name : List ℕ) → is_table tables name ≡ true → is_table (settled_one s tables) name ≡ true
one-table s tables name h = table-named (settled_one s tables) name ∙ ap (list_any (λ (n : List ℕ). bytes_eq n name)) (one-names s tables) ∙ sym (table-named tables name) ∙ h

pub one-amount : (s : Seen) (tables : List TableRows) → is_inside s.0 ≡ true → is_table tables s.0.name ≡ true → are_canonical tables ≡ true → row_amount (settled_one s tables) s.0 ≡ unwrap_or s.1 (row_amount tables s.0)
one-amount s tables inside h canonical = ap (λ b. row_amount (if_inside b s tables) s.0) inside ∙ by s.1
  where
    by : (o : Option ℕ) → row_amount (if_some s.0 o tables) s.0 ≡ unwrap_or o (row_amount tables s.0)
    by None = refl
    by (Some amount) = settled-amount s.0 amount tables h canonical

pub one-other : (s : Seen) (x : Row) (tables : List TableRows) → is_inside x ≡ true → row_eq s.0 x ≡ false → row_amount (settled_one s tables) x ≡ row_amount tables x
one-other s x tables within differ = by (is_inside s.0) refl s.1
  where
    by : (b : Bool) → is_inside s.0 ≡ b → (o : Option ℕ) → row_amount (cond b (if_some s.0 o tables) tables) x ≡ row_amount tables x
    by false e o = refl
    by true e None = refl
    by true e (Some amount) = settled-other s.0 amount x tables e within differ

-- a table's total, by whether the row is among the changes of it
pub one-total : (s : Seen) (tables : List TableRows) (name : List ℕ) → is_table tables name ≡ true → are_canonical tables ≡ true
    → total_in name (settled_one s tables) + cond (is_change name s) (row_amount tables s.0) 0 ≡ total_in name tables + cond (is_change name s) (unwrap_or s.1 0) 0
one-total s tables name h canonical = by (is_inside s.0) (bytes_eq s.0.name name) refl s.1
  where
    by : (b d : Bool) → bytes_eq s.0.name name ≡ d → (o : Option ℕ)
        → total_in name (cond b (if_some s.0 o tables) tables) + cond (b && (d && is_some o)) (row_amount tables s.0) 0 ≡ total_in name tables + cond (b && (d && is_some o)) (unwrap_or o 0) 0
    by false d e o = refl
    by true true e None = refl
    by true false e None = refl
    by true true e (Some amount) =
        let same : s.0.name ≡ name = (bytes_eq-Decides s.0.name name).0 e in
        subst (λ (n : List ℕ). total_in n (settled s.0 amount tables) + row_amount tables s.0 ≡ total_in n tables + amount) same
        (settled-total s.0 amount tables (subst (λ (n : List ℕ). is_table tables n ≡ true) (sym same) h) canonical)
    by true false e (Some amount) = ap (λ rows. sum_of rows + 0) (settled-others s.0 amount name tables e)

-- rows of a view that are none of a row
unseen : (r x : Row) (view : List Seen) → row_eq r x ≡ true → list_any (row_eq r) (rows_seen view) ≡ false → amount_seen x view ≡ None
unseen r x [] e none = refl
unseen r x (s ∷ view) e none =
    let parts = or_parts (row_eq r s.0) (list_any (row_eq r) (rows_seen view)) none in
    let apart : row_eq s.0 x ≡ false = false_from_ne_true (row_eq s.0 x) (λ t.
    true≢false (sym (rw (row-same s.0 x t) e) ∙ parts.0)) in
    ap (λ b. option_and_then (λ (s : Seen). s.1) (cond b (Some s) (find (λ (s : Seen). row_eq s.0 x) view))) apart ∙ unseen r x view e parts.1

pub settles-amounts : SettlesAmounts
settles-amounts [] tables row apart canonical inside h = refl
settles-amounts (s ∷ view) tables row apart canonical inside h =
    let both = and_parts (not (list_any (row_eq s.0) (rows_seen view))) (are_rows_apart view) apart in
    let rest = settles-amounts view (settled_one s tables) row both.1 (one-canonical s tables canonical) inside (one-table s tables row.name h) in
    rest ∙ by (row_eq s.0 row) refl (not-true (list_any (row_eq s.0) (rows_seen view)) both.0)
  where
    by : (b : Bool) → row_eq s.0 row ≡ b → list_any (row_eq s.0) (rows_seen view) ≡ false
        → unwrap_or (amount_seen row view) (row_amount (settled_one s tables) row) ≡ unwrap_or (option_and_then (λ (s : Seen). s.1) (cond b (Some s) (find (λ (s : Seen). row_eq s.0 row) view))) (row_amount tables row)
    by true e none =
        let same : s.0 ≡ row = row-same s.0 row e in
        ap (λ o. unwrap_or o (row_amount (settled_one s tables) row)) (unseen s.0 row view e none)
        ∙ subst (λ (r : Row). row_amount (settled_one s tables) r ≡ unwrap_or s.1 (row_amount tables r)) same
        (one-amount s tables (rw same inside) (rw same h) canonical)
    by false e none = ap (λ n. unwrap_or (amount_seen row view) n) (one-other s row tables inside e)

-- the sum of amounts before that a row of the view doesn't touch
old-same : (s : Seen) (view : List Seen) (tables : List TableRows) (name : List ℕ) → list_any (row_eq s.0) (rows_seen view) ≡ false
    → old_sum (settled_one s tables) (changes name view) ≡ old_sum tables (changes name view)
old-same s [] tables name none = refl
old-same s (x ∷ view) tables name none =
    let parts = or_parts (row_eq s.0 x.0) (list_any (row_eq s.0) (rows_seen view)) none in
    by (is_inside x.0) refl (bytes_eq x.0.name name && is_some x.1) parts.0 (old-same s view tables name parts.1)
  where
    more : List Seen
    more = changes name view

    sum_with : (tables : List TableRows) → old_sum tables (x ∷ more) ≡ row_amount tables x.0 + old_sum tables more
    sum_with tables = sum_by-cons (λ (s : Seen). row_amount tables s.0) x more

    by : (b : Bool) → is_inside x.0 ≡ b → (d : Bool) → row_eq s.0 x.0 ≡ false → old_sum (settled_one s tables) more ≡ old_sum tables more
        → old_sum (settled_one s tables) (cond (b && d) (x ∷ more) more) ≡ old_sum tables (cond (b && d) (x ∷ more) more)
    by false e d differ rest = rest
    by true e false differ rest = rest
    by true e true differ rest = omega (arith, sum_with (settled_one s tables), sum_with tables, one-other s x.0 tables e differ, rest)

pub settles-totals : SettlesTotals
settles-totals [] tables name apart canonical h = refl
settles-totals (s ∷ view) tables name apart canonical h =
    let both = and_parts (not (list_any (row_eq s.0) (rows_seen view))) (are_rows_apart view) apart in
    let rest = settles-totals view (settled_one s tables) name both.1 (one-canonical s tables canonical) (one-table s tables name h) in
    let same = old-same s view tables name (not-true (list_any (row_eq s.0) (rows_seen view)) both.0) in
    let first = one-total s tables name h canonical in
    by (is_change name s) first same rest
  where
    more : List Seen
    more = changes name view

    after : List TableRows
    after = settled_one s tables

    by : (b : Bool) → total_in name after + cond b (row_amount tables s.0) 0 ≡ total_in name tables + cond b (unwrap_or s.1 0) 0
        → old_sum after more ≡ old_sum tables more → total_in name (settled_by view after) + old_sum after more ≡ total_in name after + new_sum more
        → total_in name (settled_by view after) + old_sum tables (cond b (s ∷ more) more) ≡ total_in name tables + new_sum (cond b (s ∷ more) more)
    by true first same rest =
        let old = sum_by-cons (λ (s : Seen). row_amount tables s.0) s more in
        let new = sum_by-cons (λ (s : Seen). unwrap_or s.1 0) s more in
        omega (arith, first, same, rest, old, new)
    by false first same rest = omega (arith, first, same, rest)

pub keeps-canonical : KeepsCanonical
keeps-canonical [] tables h = h
keeps-canonical (s ∷ view) tables h = keeps-canonical view (settled_one s tables) (one-canonical s tables h)

pub keeps-names : KeepsNames
keeps-names [] tables = refl
keeps-names (s ∷ view) tables = keeps-names view (settled_one s tables) ∙ one-names s tables
