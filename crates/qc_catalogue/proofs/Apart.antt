-- The names of a table are apart, since the keys of each table ascend.
use Rattle.std.proofs.Common.{◌≡◌, ◌∙◌, List, ℕ, map, Bool, true, false, ◌&&◌, Option, Some, None, refl, sym, subst, ap, Ordering, Less, Equal, Greater, nat_cmp, is_eq}
use Rattle.std.specs.Prelude.{unwrap_or, option_and_then}
use Rattle.std.specs.List.{list_all, list_any}
use Rattle.std.specs.Str.{bytes_eq}
use Rattle.std.specs.Cmp.Lexicographic.{slice_cmp}
use Rattle.std.specs.Ordering.{match_ordering}
use Rattle.std.proofs.lemmas.Bool.{and_parts}
use Rattle.std.proofs.lemmas.Cmp.{nat_list_cmp_total}
use Rattle.std.proofs.lemmas.Map.Text.{is_eq-slice_cmp}
use Rattle.std.proofs.lemmas.Option.{none-some, same_Some}
use Rattle.toml.specs.Data.{Data, string, integer, float, boolean, datetime, array, table, Members, no_members, member, get_member, as_table, is_before, is_sorted, members_are_sorted}
use Rattle.toml.proofs.Blanks.{below, below_from}
use Rattle.qc_catalogue.specs.declared.field.Field.{Field}
use Rattle.qc_catalogue.specs.Fields.{field_text, value_at, table_at}
use Rattle.qc_catalogue.specs.Findings.{each}
use Rattle.qc_catalogue.specs.Laws.{ascend}
use Rattle.qc_catalogue.specs.Orderly.{are_apart}
use Rattle.qc_catalogue.specs.Rows.{members_of}

parts : (a b c : Bool) → (a && b) && c ≡ true → (a ≡ true) × (b ≡ true) × (c ≡ true)
parts a b c h =
    let (front, last) = and_parts (a && b) c h in
    let (first, second) = and_parts a b front in
    (first, second, last)

-- each key comes after k
abbrev Above : List ℕ → Members → Type 0
Above k no_members = Unit {0}
Above k (member l d ms) = below k l × Above k ms

above-earlier : (ms : Members) (j k : List ℕ) → below j k → Above k ms → Above j ms
above-earlier no_members j k order h = tt
above-earlier (member l d ms) j k order h = (nat_list_cmp_total.trans j k l order h.0, above-earlier ms j k order h.1)

above : (ms : Members) (k : List ℕ) → is_before k ms ≡ true → members_are_sorted ms ≡ true → Above k ms
above no_members k order sorted = tt
above (member l d ms) k order sorted =
    let (next, here, more) = parts (is_before l ms) (is_sorted d) (members_are_sorted ms) sorted in
    let first = below_from k l order in
    (first, above-earlier ms k l first (above ms l next more))

apart-below : (k l : List ℕ) → below k l → bytes_eq k l ≡ false
apart-below k l h = sym (is_eq-slice_cmp k l) ∙ ap is_eq h

-- of what has its key for a name

none_equal : {A : Type 0} (of : List ℕ → Data → A) (name : A → List ℕ) → ((k : List ℕ) (d : Data) → name (of k d) ≡ k) → (k : List ℕ) (ms : Members) → Above k ms → list_any (bytes_eq k) (map name (each of ms)) ≡ false
none_equal of name is k no_members h = refl
none_equal of name is k (member l d ms) h = rw (is l d, apart-below k l h.0) (none_equal of name is k ms h.1)

pub apart : {A : Type 0} (of : List ℕ → Data → A) (name : A → List ℕ) → ((k : List ℕ) (d : Data) → name (of k d) ≡ k) → (ms : Members) → members_are_sorted ms ≡ true → are_apart (map name (each of ms)) ≡ true
apart of name is no_members sorted = refl
apart of name is (member k d ms) sorted =
    let (next, here, more) = parts (is_before k ms) (is_sorted d) (members_are_sorted ms) sorted in
    rw (is k d, none_equal of name is k ms (above ms k next more)) (apart of name is ms more)

-- and they stand in their order

pub ascending : {A : Type 0} (of : List ℕ → Data → A) (name : A → List ℕ) → ((k : List ℕ) (d : Data) → name (of k d) ≡ k) → (ms : Members) → members_are_sorted ms ≡ true → ascend (map name (each of ms)) ≡ true
ascending of name is no_members sorted = refl
ascending of name is (member k d no_members) sorted = refl
ascending of name is (member k d (member l e ms)) sorted =
    let (next, here, more) = parts (is_before k (member l e ms)) (is_sorted d) (members_are_sorted (member l e ms)) sorted in
    rw (is k d, is l e, next) (ascending of name is (member l e ms) more)

-- what stands at a key, and the tables inside

sorted_by : (o : Ordering) (ms : Members) (e d : Data) (rest : Option Data) → is_sorted e ≡ true → (rest ≡ Some d → is_sorted d ≡ true) → match_ordering o rest (Some e) rest ≡ Some d → is_sorted d ≡ true
sorted_by Less ms e d rest here later found = later found
sorted_by Equal ms e d rest here later found = subst (λ x. is_sorted x ≡ true) (same_Some e d found) here
sorted_by Greater ms e d rest here later found = later found

sorted-member : (k : List ℕ) (ms : Members) (d : Data) → members_are_sorted ms ≡ true → get_member k ms ≡ Some d → is_sorted d ≡ true
sorted-member k no_members d sorted found = absurd (none-some d found)
sorted-member k (member l e ms) d sorted found =
    let (next, here, more) = parts (is_before l ms) (is_sorted e) (members_are_sorted ms) sorted in
    sorted_by (slice_cmp nat_cmp k l) ms e d (get_member k ms) here (λ later. sorted-member k ms d more later) found

pub sorted-inside : (d : Data) → is_sorted d ≡ true → members_are_sorted (members_of d) ≡ true
sorted-inside (string s) h = refl
sorted-inside (integer z) h = refl
sorted-inside (float x) h = refl
sorted-inside (boolean b) h = refl
sorted-inside (datetime dt) h = refl
sorted-inside (array ds) h = refl
sorted-inside (table ms) h = h

sorted_or : (o : Option Data) → ((d : Data) → o ≡ Some d → is_sorted d ≡ true) → members_are_sorted (unwrap_or (option_and_then as_table o) no_members) ≡ true
sorted_or None h = refl
sorted_or (Some d) h = sorted-inside d (h d refl)

pub sorted-at : (f : Field) (ms : Members) → members_are_sorted ms ≡ true → members_are_sorted (table_at f ms) ≡ true
sorted-at f ms h = sorted_or (value_at f ms) (λ d found. sorted-member (field_text f) ms d h found)

-- what holds of each entry that is sorted inside
pub every_sorted : {A : Type 0} (of : List ℕ → Data → A) (good : A → Bool) → ((k : List ℕ) (d : Data) → is_sorted d ≡ true → good (of k d) ≡ true) → (ms : Members) → members_are_sorted ms ≡ true → list_all good (each of ms) ≡ true
every_sorted of good holds no_members sorted = refl
every_sorted of good holds (member k d ms) sorted =
    let (next, here, more) = parts (is_before k ms) (is_sorted d) (members_are_sorted ms) sorted in
    rw (holds k d here) (every_sorted of good holds ms more)
