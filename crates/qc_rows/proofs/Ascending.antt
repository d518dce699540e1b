-- Rows in byte order of their keys.
use Rattle.std.proofs.Common.{◌≡◌, ◌∙◌, List, ℕ, [], ◌∷◌, map, filter, Bool, true, false, cond, Some, refl, sym, ap, Ordering, Less, Equal, Greater, nat_cmp}
use Rattle.std.specs.List.{list_all, list_any}
use Rattle.std.specs.Option.{option_map_or}
use Rattle.std.specs.Ordering.{is_lt, is_eq, ordering_reverse}
use Rattle.std.specs.Cmp.Lexicographic.{slice_cmp}
use Rattle.std.specs.Prelude.{find}
use Rattle.std.specs.Str.{bytes_eq}
use Rattle.std.proofs.lemmas.Bool.{and_parts}
use Rattle.std.proofs.lemmas.Cmp.{nat_list_cmp_total, nat_list_eq_equiv}
use Rattle.std.proofs.lemmas.Map.Text.{is_eq-slice_cmp}
use Rattle.std.proofs.lemmas.Slice.Eq.{bytes_eq-Decides}
use Rattle.qc_catalogue.specs.Laws.{keys_ascend}
use Rattle.qc_rows.specs.Tables.{TableRows, rows_shown}

abbrev pub order : List ℕ → List ℕ → Ordering
order j k = slice_cmp nat_cmp j k

abbrev pub keys_of : List (List ℕ × ℕ) → List (List ℕ)
keys_of rows = map (λ (r : List ℕ × ℕ). r.0) rows

-- a key comes before those of some rows
abbrev pub Before : List ℕ → List (List ℕ × ℕ) → Type 0
Before k [] = Unit {0}
Before k (r ∷ rows) = (order k r.0 ≡ Less) × Before k rows

less-is : (o : Ordering) → is_lt o ≡ true → o ≡ Less
less-is Less e = refl
less-is Equal e = cc
less-is Greater e = cc

is-less : (o : Ordering) → o ≡ Less → is_lt o ≡ true
is-less Less e = refl
is-less Equal e = cc
is-less Greater e = cc

pub less-differs : (j k : List ℕ) → order j k ≡ Less → bytes_eq j k ≡ false
less-differs j k e = sym (is_eq-slice_cmp j k) ∙ ap is_eq e

pub greater-differs : (j k : List ℕ) → order j k ≡ Greater → bytes_eq j k ≡ false
greater-differs j k e = sym (is_eq-slice_cmp j k) ∙ ap is_eq e

pub equal-same : (j k : List ℕ) → order j k ≡ Equal → j ≡ k
equal-same j k e = (bytes_eq-Decides j k).0 (sym (is_eq-slice_cmp j k) ∙ ap is_eq e)

pub flip : (j k : List ℕ) (b : Bool) → bytes_eq j k ≡ b → bytes_eq k j ≡ b
flip j k b e = nat_list_eq_equiv.symm k j ∙ e

pub itself : (k : List ℕ) → bytes_eq k k ≡ true
itself k = nat_list_eq_equiv.refl k

pub turned : (j k : List ℕ) → order j k ≡ Greater → order k j ≡ Less
turned j k e = nat_list_cmp_total.antisymm k j ∙ ap ordering_reverse e

pub earlier : (j k : List ℕ) (rows : List (List ℕ × ℕ)) → order j k ≡ Less → Before k rows → Before j rows
earlier j k [] less h = tt
earlier j k (r ∷ rows) less h = (nat_list_cmp_total.trans j k r.0 less h.0, earlier j k rows less h.1)

pub before : (r : List ℕ × ℕ) (rows : List (List ℕ × ℕ)) → keys_ascend (r ∷ rows) ≡ true → Before r.0 rows
before r [] h = tt
before r (s ∷ rows) h =
    let both = and_parts (is_lt (order r.0 s.0)) (keys_ascend (s ∷ rows)) h in
    let less = less-is (order r.0 s.0) both.0 in
    (less, earlier r.0 s.0 rows less (before s rows both.1))

pub behind : (r : List ℕ × ℕ) (rows : List (List ℕ × ℕ)) → keys_ascend (r ∷ rows) ≡ true → keys_ascend rows ≡ true
behind r [] h = refl
behind r (s ∷ rows) h = (and_parts (is_lt (order r.0 s.0)) (keys_ascend (s ∷ rows)) h).1

pub first-before : (r : List ℕ × ℕ) (rows : List (List ℕ × ℕ)) → Before r.0 rows → keys_ascend rows ≡ true → keys_ascend (r ∷ rows) ≡ true
first-before r [] h all = refl
first-before r (s ∷ rows) h all = rw (is-less (order r.0 s.0) h.0) all

pub kept-before : (p : List ℕ × ℕ → Bool) (k : List ℕ) (rows : List (List ℕ × ℕ)) → Before k rows → Before k (filter p rows)
kept-before p k [] h = tt
kept-before p k (r ∷ rows) h = by (p r) (kept-before p k rows h.1)
  where
    by : (b : Bool) → Before k (filter p rows) → Before k (cond b (r ∷ filter p rows) (filter p rows))
    by true kept = (h.0, kept)
    by false kept = kept

pub filter-ascends : (p : List ℕ × ℕ → Bool) (rows : List (List ℕ × ℕ)) → keys_ascend rows ≡ true → keys_ascend (filter p rows) ≡ true
filter-ascends p [] h = refl
filter-ascends p (r ∷ rows) h = by (p r) (filter-ascends p rows (behind r rows h))
  where
    by : (b : Bool) → keys_ascend (filter p rows) ≡ true → keys_ascend (cond b (r ∷ filter p rows) (filter p rows)) ≡ true
    by true kept = first-before r (filter p rows) (kept-before p r.0 rows (before r rows h)) kept
    by false kept = kept

-- no row behind a key has it
pub none-has : (k : List ℕ) (rows : List (List ℕ × ℕ)) → Before k rows → list_any (bytes_eq k) (keys_of rows) ≡ false
none-has k [] h = refl
none-has k (r ∷ rows) h = rw (less-differs k r.0 h.0) (none-has k rows h.1)

-- what holds of the rows of each table, and of none, holds of a table's
pub rows-each : (p : List (List ℕ × ℕ) → Bool) (name : List ℕ) (tables : List TableRows) → p [] ≡ true → list_all (λ (t : TableRows). p t.rows) tables ≡ true → p (rows_shown name tables) ≡ true
rows-each p name [] none h = none
rows-each p name (t ∷ tables) none h =
    let both = and_parts (p t.rows) (list_all (λ (x : TableRows). p x.rows) tables) h in
    by (bytes_eq t.name name) both.0 (rows-each p name tables none both.1)
  where
    by : (b : Bool) → p t.rows ≡ true → p (rows_shown name tables) ≡ true
        → p (option_map_or (λ (x : TableRows). x.rows) (cond b (Some t) (find (λ (x : TableRows). bytes_eq x.name name) tables)) []) ≡ true
    by true first more = first
    by false first more = more
