-- The keys of each table in a text of TOML ascend, and so none comes twice.
use Rattle.std.proofs.Common.{◌≡◌, ℕ, zero, suc, Bool, true, false, cond, ◌==◌, ◌&&◌, List, [], length, drop, slice_index, Option, Some, None, option_map, option_and_then, refl, subst, inl, inr, ◌⊎◌}
use Rattle.std.proofs.lemmas.Option.{none-some, same_Some}
use Rattle.toml_parser.specs.Lexical.{Read, right_bracket, right_brace, left_bracket, left_brace, first, skip_blank}
use Rattle.toml_parser.specs.Strings.{Key, quoted, starts_string, recursion_limit}
use Rattle.toml_parser.specs.Numbers.{unquoted}
use Rattle.toml_parser.specs.declared.scalar.Scalar.{Scalar}
use Rattle.toml_parser.specs.declared.scalar.Scalar.TheVariants.{Boolean, Integer, Float, Datetime}
use Rattle.toml.specs.Data.{Data, string, array, table, Items, no_items, Members, push_item, is_sorted, items_are_sorted, members_are_sorted}
use Rattle.toml.specs.Tables.{Nodes, no_nodes, close, Expression, key_value, std_table, array_table, Document, put, define, new_node}
use Rattle.toml.specs.Parse.{read_map, after_byte, after_element, key_equals, keyval, items, members, scalar_data, atom, val, header_key, expression, line, lines, skip_bom, parse_document}
use Rattle.qc_catalogue.proofs.Ascending.{Ascend, Ascends, pushed, put-keeps, define-ascends}

-- what a reading was made of

then : {A B : Type 0} (o : Option A) (f : A → Option B) (r : B) → option_and_then f o ≡ Some r → (x : A) × (o ≡ Some x) × (f x ≡ Some r)
then None f r h = absurd (none-some r h)
then (Some x) f r h = (x, refl, h)

mapped : {A B : Type 0} (f : A → B) (o : Option A) (y : B) → option_map f o ≡ Some y → (x : A) × (o ≡ Some x) × (f x ≡ y)
mapped f None y h = absurd (none-some y h)
mapped f (Some x) y h = (x, refl, same_Some (f x) y h)

chosen : {A : Type 0} (b : Bool) (x y : Option A) (r : A) → cond b x y ≡ Some r → (x ≡ Some r) ⊎ (y ≡ Some r)
chosen true x y r h = inl h
chosen false x y r h = inr h

-- a reader of values, in each of which keys ascend
abbrev pub Sorted : (List ℕ → Read Data) → Type 0
Sorted v = (text : List ℕ) (r : Data × List ℕ) → v text ≡ Some r → is_sorted r.0 ≡ true

keyval-sorted : (v : List ℕ → Read Data) → Sorted v → (text : List ℕ) (r : (Key × Data) × List ℕ) → keyval v text ≡ Some r → is_sorted r.0.1 ≡ true
keyval-sorted v sorted text r h =
    let (k, at_key, more) = then (key_equals text) (λ k. read_map (λ d. (k.0, d)) (v k.1)) r h in
    let (d, read, same) = mapped (λ (p : Data × List ℕ). ((k.0, p.0), p.1)) (v k.1) r more in
    subst (λ (x : (Key × Data) × List ℕ). is_sorted x.0.1 ≡ true) same (sorted k.1 d read)

items-sorted : (v : List ℕ → Read Data) → Sorted v → (n : ℕ) (found : Items) (text : List ℕ) (r : Items × List ℕ) → items_are_sorted found ≡ true → items v n found text ≡ Some r → items_are_sorted r.0 ≡ true
unfolding items
items-sorted v sorted zero found text r h is = absurd (none-some r is)
items-sorted v sorted (suc n) found text r h is =
    elim (chosen (first (skip_blank text) == right_bracket) _ _ r is) [
      | inl over ↦ subst (λ (x : Items × List ℕ). items_are_sorted x.0 ≡ true) (same_Some (found, drop 1 (skip_blank text)) r over) h
      | inr more ↦
          let (d, read, next) = then (v (skip_blank text)) _ r more in
          let (rest, passed, last) = then (after_element right_bracket d.1) _ r next in
          items-sorted v sorted n (push_item found d.0) rest r (pushed found d.0 h (sorted (skip_blank text) d read)) last
    ]

members-sorted : (v : List ℕ → Read Data) → Sorted v → (n : ℕ) (found : Nodes) (text : List ℕ) (r : Members × List ℕ) → Ascend found → members v n found text ≡ Some r → members_are_sorted r.0 ≡ true
unfolding members
members-sorted v sorted zero found text r h is = absurd (none-some r is)
members-sorted v sorted (suc n) found text r h is =
    elim (chosen (first (skip_blank text) == right_brace) _ _ r is) [
      | inl over ↦ subst (λ (x : Members × List ℕ). members_are_sorted x.0 ≡ true) (same_Some (close found, drop 1 (skip_blank text)) r over) h
      | inr more ↦
          let (e, read, next) = then (keyval v (skip_blank text)) _ r more in
          let (made, edited, behind) = then (put e.0.0 e.0.1 found) _ r next in
          let (rest, passed, last) = then (after_element right_brace e.1) _ r behind in
          members-sorted v sorted n made rest r (put-keeps e.0.0.0 e.0.0.1 e.0.1 (keyval-sorted v sorted (skip_blank text) e read) found made h edited) last
    ]

scalar-sorted : (s : Scalar) → is_sorted (scalar_data s) ≡ true
scalar-sorted (Boolean b) = refl
scalar-sorted (Integer z) = refl
scalar-sorted (Float x) = refl
scalar-sorted (Datetime dt) = refl

atom-sorted : Sorted atom
unfolding atom
atom-sorted text r is =
    elim (chosen (starts_string text) _ _ r is) [
      | inl quote ↦
          let (s, read, same) = mapped (λ (p : List ℕ × List ℕ). (string p.0, p.1)) (quoted text) r quote in
          subst (λ (x : Data × List ℕ). is_sorted x.0 ≡ true) same refl
      | inr plain ↦
          let (s, read, same) = mapped (λ (p : Scalar × List ℕ). (scalar_data p.0, p.1)) (unquoted text) r plain in
          subst (λ (x : Data × List ℕ). is_sorted x.0 ≡ true) same (scalar-sorted s.0)
    ]

val-sorted : (depth : ℕ) → Sorted (val depth)
unfolding val
val-sorted zero text r is = atom-sorted text r is
val-sorted (suc depth) text r is =
    elim (chosen (first text == left_bracket) _ _ r is) [
      | inl list ↦
          let (p, read, same) = mapped (λ (p : Items × List ℕ). (array p.0, p.1)) (items (val depth) (length text) no_items (drop 1 text)) r list in
          subst (λ (x : Data × List ℕ). is_sorted x.0 ≡ true) same (items-sorted (val depth) (val-sorted depth) (length text) no_items (drop 1 text) p refl read)
      | inr other ↦ elim (chosen (first text == left_brace) _ _ r other) [
        | inl inline ↦
            let (p, read, same) = mapped (λ (p : Members × List ℕ). (table p.0, p.1)) (members (val depth) (length text) no_nodes (drop 1 text)) r inline in
            subst (λ (x : Data × List ℕ). is_sorted x.0 ≡ true) same (members-sorted (val depth) (val-sorted depth) (length text) no_nodes (drop 1 text) p refl read)
        | inr plain ↦ atom-sorted text r plain
      ]
    ]

-- what an expression defines
abbrev pub Defines : Expression × List ℕ → Type 0
Defines e = Ascends (new_node e.0.1)

expression-sorted : (text : List ℕ) (r : Expression × List ℕ) → expression text ≡ Some r → Defines r
unfolding expression
expression-sorted text r is =
    elim (chosen (first text == left_bracket && slice_index text 1 == left_bracket) _ _ r is) [
      | inl double ↦
          let (k, read, next) = then (header_key (drop 2 text)) _ r double in
          let (rest, passed, same) = mapped (λ (rest : List ℕ). ((k.0, array_table), rest)) (after_byte right_bracket k.1) r next in
          subst Defines same refl
      | inr other ↦ elim (chosen (first text == left_bracket) _ _ r other) [
        | inl single ↦
            let (k, read, same) = mapped (λ (p : Key × List ℕ). ((p.0, std_table), p.1)) (header_key (drop 1 text)) r single in
            subst Defines same refl
        | inr pair ↦
            let (p, read, same) = mapped (λ (p : (Key × Data) × List ℕ). ((p.0.0, key_value p.0.1), p.1)) (keyval (val recursion_limit) text) r pair in
            subst Defines same (keyval-sorted (val recursion_limit) (val-sorted recursion_limit) text p read)
      ]
    ]

line-sorted : (text : List ℕ) (r : Expression × List ℕ) → line text ≡ Some r → Defines r
unfolding line
line-sorted text r is =
    let (e, read, ends) = then (expression text) _ r is in
    elim (chosen _ _ _ r ends) [
      | inl same ↦ subst Defines (same_Some e r same) (expression-sorted text e read)
      | inr none ↦ absurd (none-some r none)
    ]

lines-sorted : (n : ℕ) (doc : Document) (text : List ℕ) (r : Document) → Ascend doc.0 → lines n doc text ≡ Some r → Ascend r.0
unfolding lines
lines-sorted zero doc text r h is = absurd (none-some r is)
lines-sorted (suc n) doc text r h is =
    elim (chosen (length (skip_blank text) == 0) _ _ r is) [
      | inl over ↦ subst (λ (x : Document). Ascend x.0) (same_Some doc r over) h
      | inr more ↦
          let (e, read, next) = then (line (skip_blank text)) _ r more in
          let (made, defined, last) = then (define doc e.0) _ r next in
          lines-sorted n made e.1 r (define-ascends doc made e.0 (line-sorted (skip_blank text) e read) h defined) last
    ]

-- the keys of each table of a text ascend
pub document-sorted : (text : List ℕ) (ms : Members) → parse_document text ≡ Some ms → members_are_sorted ms ≡ true
unfolding parse_document
document-sorted text ms is =
    let (doc, read, same) = mapped (λ (doc : Document). close doc.0) (lines (suc (length text)) (no_nodes, []) (skip_bom text)) ms is in
    subst (λ x. members_are_sorted x ≡ true) same (lines-sorted (suc (length text)) (no_nodes, []) (skip_bom text) doc refl read)
