-- What is kept of tables, and what it means.
use Rattle.std.proofs.Common.{◌≡◌, ◌∙◌, List, ℕ, ◌+◌, ◌<◌, zero, suc, ◌==◌, [], ◌∷◌, ◌++◌, length, map, filter, find, take, drop, get_or, set, Bool, true, false, cond, ◌||◌, not, Option, Some, None, Result, Ok, Err, OnOk, OnErr, refl, sym, ap, subst, Ordering, Less, Equal, Greater, true≢false, arith}
use Rattle.std.specs.List.{list_all, list_any, insert}
use Rattle.std.specs.Option.{option_map_or}
use Rattle.std.specs.Ordering.{match_ordering}
use Rattle.std.specs.Str.{bytes_eq}
use Rattle.std.proofs.lemmas.Bool.{and_parts, and_from, or_left, or_right}
use Rattle.std.proofs.lemmas.List.{drop_more, take_more, take_more_set, length-set, map-append, append_assoc, take-append-drop}
use Rattle.std.proofs.lemmas.List.Folds.{list_all-map, list_all-append, list_all_more}
use Rattle.qc_base.specs.declared.recording.Row.{Row}
use Rattle.qc_catalogue.specs.declared.catalogue.Opening.{Opening}
use Rattle.qc_catalogue.specs.Laws.{ascend, keys_ascend}
use Rattle.qc_rows.specs.Tables.{TableRows, is_set, set_rows, opening_rows, opened, rows_shown}
use Rattle.qc_rows.specs.Settling.{row_if_set, with_amount, settled, is_inside, settled_one, settled_by}
use Rattle.qc_rows.specs.Places.{Places, TablesView, has_place, is_reserved, is_ready, are_reserved, rows_seen, places_of, meant, keys_stand, written, written_row, written_one, written_by, with_place, WidensTable, Widens}
use Rattle.qc_rows.proofs.Ascending.{order, keys_of, Before, less-differs, greater-differs, equal-same, flip, itself, turned, earlier, before, behind, first-before, kept-before, none-has, rows-each}
use Rattle.qc_rows.proofs.Amounts.{with-before, with-at, with-behind}

abbrev Rows : Type 0
Rows = List (List ℕ × ℕ)

abbrev Seen : Type 0
Seen = Row × Option ℕ

-- an amount is written

module _ (key : List ℕ) (amount : ℕ) where
  abbrev wrote : Bool → List ℕ × ℕ → List ℕ × ℕ
  wrote b r = cond b ((r.0, amount)) r

  written-keys : (rows : Rows) → keys_of (written key amount rows) ≡ keys_of rows
  written-keys [] = refl
  written-keys (r ∷ rows) = λ i. same (bytes_eq r.0 key) i ∷ written-keys rows i
    where
      same : (b : Bool) → (wrote b r).0 ≡ r.0
      same true = refl
      same false = refl

  written-later : (rows : Rows) → Before key rows → written key amount rows ≡ rows
  written-later [] h = refl
  written-later (r ∷ rows) h = λ i. wrote (flip key r.0 false (less-differs key r.0 h.0) i) r ∷ written-later rows h.1 i

  -- what is written means the amount of the row
  written-means : (rows : Rows) → keys_ascend rows ≡ true → list_any (bytes_eq key) (keys_of rows) ≡ true → filter is_set (written key amount rows) ≡ with_amount key amount (filter is_set rows)
  written-means [] h has = absurd (true≢false (sym has))
  written-means (r ∷ rows) h has = by (order key r.0) refl (λ more. written-means rows (behind r rows h) more)
    where
      kept : Rows
      kept = filter is_set rows

      new : Rows
      new = filter is_set (written key amount rows)

      Goal : Bool → Type 0
      Goal b = filter is_set (wrote b r ∷ written key amount rows) ≡ with_amount key amount (filter is_set (r ∷ rows))

      -- the key's own row
      first : (b : Bool) → cond (not b) ((key, amount) ∷ kept) kept ≡ cond b [] ((key, amount) ∷ []) ++ kept
      first true = refl
      first false = refl

      behind_it : order key r.0 ≡ Equal → Before key rows → (b : Bool) → with_amount key amount (cond b (r ∷ kept) kept) ≡ row_if_set key amount ++ kept
      behind_it e later true = with-at key amount r kept e
      behind_it e later false = with-before key amount kept (kept-before is_set key rows later)

      here : order key r.0 ≡ Equal → key ≡ r.0 → Goal true
      here e same =
          let later : Before key rows = rw same (before r rows h) in
          (λ i. filter is_set ((sym same i, amount) ∷ written-later rows later i)) ∙ first (amount == 0) ∙ sym (behind_it e later (is_set r))

      further : order key r.0 ≡ Greater → (b : Bool) → new ≡ with_amount key amount kept → cond b (r ∷ new) new ≡ with_amount key amount (cond b (r ∷ kept) kept)
      further e true rest = ap (λ (l : Rows). r ∷ l) rest ∙ sym (with-behind key amount r kept e)
      further e false rest = rest

      by : (o : Ordering) → order key r.0 ≡ o → (list_any (bytes_eq key) (keys_of rows) ≡ true → new ≡ with_amount key amount kept) → Goal (bytes_eq r.0 key)
      by Less e rest = absurd (true≢false (sym has ∙ none-has key (r ∷ rows) (e, earlier key r.0 rows e (before r rows h))))
      by Equal e rest =
          let same = equal-same key r.0 e in
          subst Goal (sym (flip key r.0 true (rw same (itself r.0)))) (here e same)
      by Greater e rest =
          let differs = greater-differs key r.0 e in
          let has_more : list_any (bytes_eq key) (keys_of rows) ≡ true = sym (ap (λ b. b || list_any (bytes_eq key) (keys_of rows)) differs) ∙ has in
          subst Goal (sym (flip key r.0 false differs)) (further e (is_set r) (rest has_more))

-- rows get a place

module _ (key : List ℕ) where
  abbrev zero_row : List ℕ × ℕ
  zero_row = (key, 0)

  abbrev turn : Ordering → List ℕ × ℕ → Rows → Rows
  turn o r rows = match_ordering o (zero_row ∷ r ∷ rows) (r ∷ rows) (r ∷ with_place key rows)

  pub place-means : (rows : Rows) → filter is_set (with_place key rows) ≡ filter is_set rows
  place-means [] = refl
  place-means (r ∷ rows) = by (order key r.0) (place-means rows)
    where
      kept : (b : Bool) → filter is_set (with_place key rows) ≡ filter is_set rows → cond b (r ∷ filter is_set (with_place key rows)) (filter is_set (with_place key rows)) ≡ cond b (r ∷ filter is_set rows) (filter is_set rows)
      kept true rest = ap (λ (l : Rows). r ∷ l) rest
      kept false rest = rest

      by : (o : Ordering) → filter is_set (with_place key rows) ≡ filter is_set rows → filter is_set (turn o r rows) ≡ filter is_set (r ∷ rows)
      by Less rest = refl
      by Equal rest = refl
      by Greater rest = kept (is_set r) rest

  place-later : (k : List ℕ) (rows : Rows) → order k key ≡ Less → Before k rows → Before k (with_place key rows)
  place-later k [] less h = (less, tt)
  place-later k (r ∷ rows) less h = by (order key r.0) (place-later k rows less h.1)
    where
      by : (o : Ordering) → Before k (with_place key rows) → Before k (turn o r rows)
      by Less rest = (less, h)
      by Equal rest = h
      by Greater rest = (h.0, rest)

  pub place-ascends : (rows : Rows) → keys_ascend rows ≡ true → keys_ascend (with_place key rows) ≡ true
  place-ascends [] h = refl
  place-ascends (r ∷ rows) h = by (order key r.0) refl (place-ascends rows (behind r rows h))
    where
      by : (o : Ordering) → order key r.0 ≡ o → keys_ascend (with_place key rows) ≡ true → keys_ascend (turn o r rows) ≡ true
      by Less e rest = first-before zero_row (r ∷ rows) (e, earlier key r.0 rows e (before r rows h)) h
      by Equal e rest = h
      by Greater e rest = first-before r (with_place key rows) (place-later r.0 rows (turned key r.0 e) (before r rows h)) rest

  pub place-there : (rows : Rows) → list_any (bytes_eq key) (keys_of (with_place key rows)) ≡ true
  place-there [] = or_left (bytes_eq key key) false (itself key)
  place-there (r ∷ rows) = by (order key r.0) refl (place-there rows)
    where
      by : (o : Ordering) → order key r.0 ≡ o → list_any (bytes_eq key) (keys_of (with_place key rows)) ≡ true → list_any (bytes_eq key) (keys_of (turn o r rows)) ≡ true
      by Less e rest = or_left (bytes_eq key key) (list_any (bytes_eq key) (keys_of (r ∷ rows))) (itself key)
      by Equal e rest = or_left (bytes_eq key r.0) (list_any (bytes_eq key) (keys_of rows)) (rw (equal-same key r.0 e) (itself r.0))
      by Greater e rest = or_right (bytes_eq key r.0) (list_any (bytes_eq key) (keys_of (with_place key rows))) rest

  pub place-stays : (k : List ℕ) (rows : Rows) → list_any (bytes_eq k) (keys_of rows) ≡ true → list_any (bytes_eq k) (keys_of (with_place key rows)) ≡ true
  place-stays k [] h = absurd (true≢false (sym h))
  place-stays k (r ∷ rows) h = by (order key r.0) (λ more. place-stays k rows more)
    where
      more : (b : Bool) → (b || list_any (bytes_eq k) (keys_of rows)) ≡ true → (list_any (bytes_eq k) (keys_of rows) ≡ true → list_any (bytes_eq k) (keys_of (with_place key rows)) ≡ true)
          → (b || list_any (bytes_eq k) (keys_of (with_place key rows))) ≡ true
      more true there rest = refl
      more false there rest = rest there

      by : (o : Ordering) → (list_any (bytes_eq k) (keys_of rows) ≡ true → list_any (bytes_eq k) (keys_of (with_place key rows)) ≡ true) → list_any (bytes_eq k) (keys_of (turn o r rows)) ≡ true
      by Less rest = or_right (bytes_eq k key) (list_any (bytes_eq k) (keys_of (r ∷ rows))) h
      by Equal rest = h
      by Greater rest = more (bytes_eq k r.0) h rest

-- a table that gets a place for a key widens, and has one for the key's row
pub place-widens : (t : TableRows) (key : List ℕ) → WidensTable t (record t { rows = with_place key t.rows })
place-widens t key = record {
  rows = ap (λ (r : Rows). record { name = t.name; rows = r }) (place-means key t.rows);
  stand = place-ascends key t.rows;
  reserved = λ row there. stays row (bytes_eq t.name row.name) there;
}
  where
    stays : (row : Row) (b : Bool) → (not b || list_any (bytes_eq row.key) (keys_of t.rows)) ≡ true → (not b || list_any (bytes_eq row.key) (keys_of (with_place key t.rows))) ≡ true
    stays row true there = place-stays key row.key t.rows there
    stays row false there = refl

pub place-has : (t : TableRows) (row : Row) → has_place row (places_of (record t { rows = with_place row.key t.rows })) ≡ true
place-has t row = or_right (not (bytes_eq t.name row.name)) (list_any (bytes_eq row.key) (keys_of (with_place row.key t.rows))) (place-there row.key t.rows)

-- whether there was memory or not
pub place-tried : {T E : Type 0} (r : Result T E) (old new : TableRows) (key : List ℕ) → OnOk r (new ≡ record old { rows = with_place key old.rows }) → OnErr r (new ≡ old) → WidensTable old new
place-tried (Ok x) old new key placed same = subst (λ (t : TableRows). WidensTable old t) (sym placed) (place-widens old key)
place-tried (Err e) old new key placed same = subst (λ (t : TableRows). WidensTable old t) (sym same) (record { rows = refl; stand = λ h. h; reserved = λ row h. h })

pub place-made : {T E : Type 0} (r : Result T E) (old new : TableRows) (row : Row) → OnOk r (new ≡ record old { rows = with_place row.key old.rows }) → OnOk r (has_place row (places_of new) ≡ true)
place-made (Ok x) old new row placed = subst (λ (t : TableRows). has_place row (places_of t) ≡ true) (sym placed) (place-has old row)
place-made (Err e) old new row placed = tt

-- a place is found

module _ (key : List ℕ) (rows : Rows) (i : ℕ) (d : List ℕ × ℕ) (within : i < length rows) (so_far : with_place key rows ≡ take i rows ++ with_place key (drop i rows)) where
  here : drop i rows ≡ get_or rows i d ∷ drop (i + 1) rows
  here = drop_more rows i d within

  at_row : (o : Ordering) → order key (get_or rows i d).0 ≡ o → with_place key rows ≡ take i rows ++ turn key o (get_or rows i d) (drop (i + 1) rows)
  at_row o e = so_far ∙ ap (λ (l : Rows). take i rows ++ with_place key l) here ∙ ap (λ o. take i rows ++ turn key o (get_or rows i d) (drop (i + 1) rows)) e

  pub place-less : order key (get_or rows i d).0 ≡ Less → with_place key rows ≡ insert rows i (key, 0)
  place-less e = at_row Less e ∙ ap (λ (l : Rows). take i rows ++ (key, 0) ∷ l) (sym here)

  pub place-same : order key (get_or rows i d).0 ≡ Equal → with_place key rows ≡ rows
  place-same e = at_row Equal e ∙ ap (λ (l : Rows). take i rows ++ l) (sym here) ∙ take-append-drop i rows

  pub place-on : order key (get_or rows i d).0 ≡ Greater → with_place key rows ≡ take (i + 1) rows ++ with_place key (drop (i + 1) rows)
  place-on e =
      at_row Greater e
      ∙ sym (append_assoc (take i rows) (get_or rows i d ∷ []) (with_place key (drop (i + 1) rows)))
      ∙ ap (λ (l : Rows). l ++ with_place key (drop (i + 1) rows)) (sym (take_more rows i d within))

-- the same of all tables

pub widens-none : (tables : List TableRows) → Widens tables tables
widens-none tables = record { tables = refl; stand = λ h. h; reserved = λ row h. h; many = refl }

pub widens-on : (old mid new : List TableRows) → Widens old mid → Widens mid new → Widens old new
widens-on old mid new h k = record {
  tables = k.tables ∙ h.tables;
  stand = λ stand. k.stand (h.stand stand);
  reserved = λ row there. k.reserved row (h.reserved row there);
  many = k.many ∙ h.many;
}

pub widens-at : (tables : List TableRows) (i : ℕ) (t d : TableRows) → i < length tables → WidensTable (get_or tables i d) t → Widens tables (set tables i t)
widens-at [] i t d within h = absurd (omega (arith, within))
widens-at (x ∷ tables) zero t d within h = record {
  tables = ap (λ (y : TableRows). y ∷ map set_rows tables) h.rows;
  stand = λ stand.
      let both = and_parts (ascend (places_of x).keys) (keys_stand (map places_of tables)) stand in
      and_from (ascend (places_of t).keys) (keys_stand (map places_of tables)) (h.stand both.0) both.1;
  reserved = λ row there.
      let both = and_parts (has_place row (places_of x)) (is_reserved row (map places_of tables)) there in
      and_from (has_place row (places_of t)) (is_reserved row (map places_of tables)) (h.reserved row both.0) both.1;
  many = refl;
}
widens-at (x ∷ tables) (suc i) t d within h =
    let rest = widens-at tables i t d (omega (arith, within)) h in
    record {
      tables = ap (λ (l : List TableRows). set_rows x ∷ l) rest.tables;
      stand = λ stand.
          let both = and_parts (ascend (places_of x).keys) (keys_stand (map places_of tables)) stand in
          and_from (ascend (places_of x).keys) (keys_stand (map places_of (set tables i t))) both.0 (rest.stand both.1);
      reserved = λ row there.
          let both = and_parts (has_place row (places_of x)) (is_reserved row (map places_of tables)) there in
          and_from (has_place row (places_of x)) (is_reserved row (map places_of (set tables i t))) both.0 (rest.reserved row both.1);
      many = length-set (x ∷ tables) (suc i) t;
    }

-- a table further that has a place for a row
pub reserved-more : (row : Row) (tables : List TableRows) (i : ℕ) (t : TableRows) → i < length tables → is_reserved row (map places_of (take i tables)) ≡ true → has_place row (places_of t) ≡ true → is_reserved row (map places_of (take (i + 1) (set tables i t))) ≡ true
reserved-more row tables i t within there here =
    ap (λ (l : List TableRows). is_reserved row (map places_of l)) (take_more_set tables i t within)
    ∙ ap (list_all (has_place row)) (map-append places_of (take i tables) (t ∷ []))
    ∙ list_all-append (has_place row) (map places_of (take i tables)) (places_of t ∷ [])
    ∙ and_from (is_reserved row (map places_of (take i tables))) (is_reserved row (places_of t ∷ [])) there (and_from (has_place row (places_of t)) true here refl)

-- rows that were reserved still are
pub reserved-stay : (old new : List Places) → ((row : Row) → is_reserved row old ≡ true → is_reserved row new ≡ true) → (rows : List Row) → are_reserved rows old ≡ true → are_reserved rows new ≡ true
reserved-stay old new stay [] h = refl
reserved-stay old new stay (row ∷ rows) h =
    let both = and_parts (is_ready old row) (are_reserved rows old) h in
    and_from (is_ready new row) (are_reserved rows new) (by (is_inside row) both.0) (reserved-stay old new stay rows both.1)
  where
    by : (b : Bool) → (not b || is_reserved row old) ≡ true → (not b || is_reserved row new) ≡ true
    by true there = stay row there
    by false there = refl

-- a row more of some rows is ready
pub ready-more : (old new : List Places) → ((row : Row) → is_reserved row old ≡ true → is_reserved row new ≡ true) → (rows : List Row) (i : ℕ) (d : Row) → i < length rows → are_reserved (take i rows) old ≡ true → is_ready new (get_or rows i d) ≡ true → are_reserved (take (i + 1) rows) new ≡ true
ready-more old new stay rows i d within before here =
    list_all_more (is_ready new) rows i d within
    ∙ and_from (are_reserved (take i rows) new) (is_ready new (get_or rows i d)) (reserved-stay old new stay (take i rows) before) here

-- what views write

module _ (row : Row) (amount : ℕ) where
  abbrev there : TableRows → TableRows
  there t = record t { rows = written row.key amount t.rows }

  abbrev one : Bool → TableRows → TableRows
  one b t = cond b (there t) t

  row-places : (tables : List TableRows) → map places_of (written_row row amount tables) ≡ map places_of tables
  row-places [] = refl
  row-places (t ∷ tables) = λ i. same (bytes_eq t.name row.name) i ∷ row-places tables i
    where
      same : (b : Bool) → places_of (one b t) ≡ places_of t
      same true = ap (λ (keys : List (List ℕ)). record { name = t.name; keys = keys }) (written-keys row.key amount t.rows)
      same false = refl

  row-means : (tables : List TableRows) → keys_stand (map places_of tables) ≡ true → is_reserved row (map places_of tables) ≡ true → map set_rows (written_row row amount tables) ≡ settled row amount (map set_rows tables)
  row-means [] stand has = refl
  row-means (t ∷ tables) stand has =
      let stand_both = and_parts (keys_ascend t.rows) (keys_stand (map places_of tables)) stand in
      let has_both = and_parts (has_place row (places_of t)) (is_reserved row (map places_of tables)) has in
      let first = by (bytes_eq t.name row.name) stand_both.0 has_both.0 in
      λ i. first i ∷ row-means tables stand_both.1 has_both.1 i
    where
      by : (b : Bool) → keys_ascend t.rows ≡ true → (not b || list_any (bytes_eq row.key) (keys_of t.rows)) ≡ true
          → set_rows (one b t) ≡ cond b (record (set_rows t) { rows = with_amount row.key amount (filter is_set t.rows) }) (set_rows t)
      by true ascends place = ap (λ (r : Rows). record { name = t.name; rows = r }) (written-means row.key amount t.rows ascends place)
      by false ascends place = refl

one-places : (s : Seen) (tables : List TableRows) → map places_of (written_one s tables) ≡ map places_of tables
one-places s tables = by (is_inside s.0) s.1
  where
    by : (b : Bool) (o : Option ℕ) → map places_of (cond b (option_map_or (λ amount. written_row s.0 amount tables) o tables) tables) ≡ map places_of tables
    by false o = refl
    by true None = refl
    by true (Some amount) = row-places s.0 amount tables

one-means : (s : Seen) (tables : List TableRows) → keys_stand (map places_of tables) ≡ true → is_ready (map places_of tables) s.0 ≡ true → map set_rows (written_one s tables) ≡ settled_one s (map set_rows tables)
one-means s tables stand ready = by (is_inside s.0) s.1 ready
  where
    by : (b : Bool) (o : Option ℕ) → (not b || is_reserved s.0 (map places_of tables)) ≡ true
        → map set_rows (cond b (option_map_or (λ amount. written_row s.0 amount tables) o tables) tables)
        ≡ cond b (option_map_or (λ amount. settled s.0 amount (map set_rows tables)) o (map set_rows tables)) (map set_rows tables)
    by false o has = refl
    by true None has = refl
    by true (Some amount) has = row-means s.0 amount tables stand has

-- a view that is written keeps the places
pub view-places : (view : List Seen) (tables : List TableRows) → map places_of (written_by view tables) ≡ map places_of tables
view-places [] tables = refl
view-places (s ∷ view) tables = view-places view (written_one s tables) ∙ one-places s tables

-- and settles what the tables mean
pub view-means : (view : List Seen) (tables : List TableRows) → keys_stand (map places_of tables) ≡ true → are_reserved (rows_seen view) (map places_of tables) ≡ true → map set_rows (written_by view tables) ≡ settled_by view (map set_rows tables)
view-means [] tables stand ready = refl
view-means (s ∷ view) tables stand ready =
    let both = and_parts (is_ready (map places_of tables) s.0) (are_reserved (rows_seen view) (map places_of tables)) ready in
    let places = one-places s tables in
    view-means view (written_one s tables) (ap keys_stand places ∙ stand) (ap (are_reserved (rows_seen view)) places ∙ both.1)
    ∙ ap (settled_by view) (one-means s tables stand both.0)

pub view-settles : (view : List Seen) (kept : List TableRows) (now : TablesView) → meant kept ≡ now → keys_stand (map places_of kept) ≡ true → are_reserved (rows_seen view) now.places ≡ true → meant (written_by view kept) ≡ record now { tables = settled_by view now.tables }
view-settles view kept now is stand ready =
    let here : are_reserved (rows_seen view) (map places_of kept) ≡ true = ap (λ (v : TablesView). are_reserved (rows_seen view) v.places) is ∙ ready in
    (λ i. record { tables = view-means view kept stand here i; places = view-places view kept i })
    ∙ ap (λ (v : TablesView). let after : TablesView = record { tables = settled_by view v.tables; places = v.places } in after) is

-- the rows of a table as they are kept

pub means-shown : (name : List ℕ) (tables : List TableRows) → filter is_set (rows_shown name tables) ≡ rows_shown name (map set_rows tables)
means-shown name [] = refl
means-shown name (t ∷ tables) = by (bytes_eq t.name name) (means-shown name tables)
  where
    by : (b : Bool) → filter is_set (rows_shown name tables) ≡ rows_shown name (map set_rows tables)
        → filter is_set (option_map_or (λ (t : TableRows). t.rows) (cond b (Some t) (find (λ (t : TableRows). bytes_eq t.name name) tables)) [])
        ≡ option_map_or (λ (t : TableRows). t.rows) (cond b (Some (set_rows t)) (find (λ (t : TableRows). bytes_eq t.name name) (map set_rows tables))) []
    by true rest = refl
    by false rest = rest

pub kept-ascend : (name : List ℕ) (tables : List TableRows) → keys_stand (map places_of tables) ≡ true → keys_ascend (rows_shown name tables) ≡ true
kept-ascend name tables stand = rows-each keys_ascend name tables refl (sym (list_all-map (λ (p : Places). ascend p.keys) places_of tables) ∙ stand)

-- the rows of openings

pub opened-means : (openings : List Opening) → map set_rows (map opening_rows openings) ≡ map opened openings
opened-means [] = refl
opened-means (o ∷ openings) = ap (λ (l : List TableRows). opened o ∷ l) (opened-means openings)

pub opened-stand : (openings : List Opening) → list_all (λ (o : Opening). keys_ascend o.rows) openings ≡ true → keys_stand (map places_of (map opening_rows openings)) ≡ true
opened-stand [] h = refl
opened-stand (o ∷ openings) h =
    let both = and_parts (keys_ascend o.rows) (list_all (λ (o : Opening). keys_ascend o.rows) openings) h in
    and_from (keys_ascend o.rows) (keys_stand (map places_of (map opening_rows openings))) both.0 (opened-stand openings both.1)
