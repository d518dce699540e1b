-- The keys of each table that TOML's rules for tables make ascend, whatever defines them.
use Rattle.std.proofs.Common.{◌≡◌, ◌∙◌, ℕ, Ordering, Less, Equal, Greater, nat_cmp, is_lt, Bool, true, ◌&&◌, List, [], ◌∷◌, Option, Some, None, option_map, refl, subst, ap, inl, inr}
use Rattle.std.proofs.lemmas.Bool.{and_parts, cases_Bool}
use Rattle.std.proofs.lemmas.Cmp.{nat_list_cmp_total}
use Rattle.std.proofs.lemmas.Option.{none-some, same_Some}
use Rattle.std.specs.Cmp.Lexicographic.{slice_cmp}
use Rattle.std.specs.Ordering.{match_ordering, ordering_reverse}
use Rattle.toml.specs.Data.{Data, table, Items, item, no_items, push_item, no_members, same_key, is_before, is_sorted, items_are_sorted, members_are_sorted}
use Rattle.toml.specs.Tables.{implicit, dotted, header, Node, Nodes, no_nodes, node, value, open_table, open_array, get_node, insert, replace, close, close_node, Edit, header_node, dot_node, by_header, by_dot, along_header, along_dots, Definition, key_value, std_table, array_table, Expression, new_node, redefine, at_found, at_key, put, Document, define_as, define}

-- the keys of what these nodes, or this one, stand for

abbrev pub Ascend : Nodes → Type 0
Ascend ns = members_are_sorted (close ns) ≡ true

abbrev pub Ascends : Node → Type 0
Ascends x = is_sorted (close_node x) ≡ true

-- three tests and their parts

both : (a b c : Bool) → a ≡ true → b ≡ true → c ≡ true → (a && b) && c ≡ true
both a b c ha hb hc = rw (ha, hb) hc

parts : (a b c : Bool) → (a && b) && c ≡ true → (a ≡ true) × (b ≡ true) × (c ≡ true)
parts a b c h =
    let (front, last) = and_parts (a && b) c h in
    let (first, second) = and_parts a b front in
    (first, second, last)

-- what a change of an optional value was made of
mapped : {A B : Type 0} (f : A → B) (o : Option A) (y : B) → option_map f o ≡ Some y → (x : A) × (o ≡ Some x) × (f x ≡ y)
mapped f None y h = absurd (none-some y h)
mapped f (Some x) y h = (x, refl, same_Some (f x) y h)

-- items, and one more at the end

items-pushed : (ds : Items) (d : Data) → items_are_sorted ds ≡ true → is_sorted d ≡ true → items_are_sorted (push_item ds d) ≡ true
items-pushed no_items d h hd = rw hd refl
items-pushed (item e ds) d h hd =
    let (first, more) = and_parts (is_sorted e) (items_are_sorted ds) h in
    rw first (items-pushed ds d more hd)

pushed-items : (ds : Items) (d : Data) → items_are_sorted (push_item ds d) ≡ true → (items_are_sorted ds ≡ true) × (is_sorted d ≡ true)
pushed-items no_items d h = (refl, (and_parts (is_sorted d) true h).0)
pushed-items (item e ds) d h =
    let (first, more) = and_parts (is_sorted e) (items_are_sorted (push_item ds d)) h in
    let (here, last) = pushed-items ds d more in
    (rw first here, last)

pub pushed : (ds : Items) (d : Data) → items_are_sorted ds ≡ true → is_sorted d ≡ true → items_are_sorted (push_item ds d) ≡ true
pushed = items-pushed

-- a node at a new key

before_step : (o : Ordering) (j k l : List ℕ) (x y : Node) (ns more : Nodes) → is_lt (slice_cmp nat_cmp j k) ≡ true → is_lt (slice_cmp nat_cmp j l) ≡ true
    → is_before j (close (match_ordering o (node k x (node l y ns)) (node l x ns) (node l y more))) ≡ true
before_step Less j k l x y ns more new old = new
before_step Equal j k l x y ns more new old = old
before_step Greater j k l x y ns more new old = old

before-insert : (ns : Nodes) (j k : List ℕ) (x : Node) → is_lt (slice_cmp nat_cmp j k) ≡ true → is_before j (close ns) ≡ true → is_before j (close (insert k x ns)) ≡ true
before-insert no_nodes j k x new old = new
before-insert (node l y ns) j k x new old = before_step (slice_cmp nat_cmp k l) j k l x y ns (insert k x ns) new old

behind : (k l : List ℕ) → slice_cmp nat_cmp k l ≡ Greater → is_lt (slice_cmp nat_cmp l k) ≡ true
behind k l h = ap is_lt (nat_list_cmp_total.antisymm l k ∙ ap ordering_reverse h)

insert_step : (o : Ordering) (k l : List ℕ) (x y : Node) (ns more : Nodes) → slice_cmp nat_cmp k l ≡ o → Ascends x → Ascend (node l y ns) → Ascend more → (is_before l (close ns) ≡ true → slice_cmp nat_cmp k l ≡ Greater → is_before l (close more) ≡ true)
    → Ascend (match_ordering o (node k x (node l y ns)) (node l x ns) (node l y more))
insert_step Less k l x y ns more is hx h hm before = both _ _ _ (ap is_lt is) hx h
insert_step Equal k l x y ns more is hx h hm before =
    let (next, old, rest) = parts (is_before l (close ns)) (is_sorted (close_node y)) (members_are_sorted (close ns)) h in
    both _ _ _ next hx rest
insert_step Greater k l x y ns more is hx h hm before =
    let (next, old, rest) = parts (is_before l (close ns)) (is_sorted (close_node y)) (members_are_sorted (close ns)) h in
    both _ _ _ (before next is) old hm

ascend-insert : (ns : Nodes) (k : List ℕ) (x : Node) → Ascends x → Ascend ns → Ascend (insert k x ns)
ascend-insert no_nodes k x hx h = rw hx refl
ascend-insert (node l y ns) k x hx h =
    let (next, old, rest) = parts (is_before l (close ns)) (is_sorted (close_node y)) (members_are_sorted (close ns)) h in
    insert_step (slice_cmp nat_cmp k l) k l x y ns (insert k x ns) refl hx h (ascend-insert ns k x hx rest)
    (λ first greater. before-insert ns l k x (behind k l greater) first)

-- another node at a key

before-replace : (ns : Nodes) (j k : List ℕ) (x : Node) → is_before j (close (replace k x ns)) ≡ is_before j (close ns)
before-replace no_nodes j k x = refl
before-replace (node l y ns) j k x =
    elim (cases_Bool (same_key k l)) [
      | inl same ↦ rw same refl
      | inr other ↦ rw other refl
    ]

ascend-replace : (ns : Nodes) (k : List ℕ) (x : Node) → Ascends x → Ascend ns → Ascend (replace k x ns)
ascend-replace no_nodes k x hx h = refl
ascend-replace (node l y ns) k x hx h =
    let (next, old, rest) = parts (is_before l (close ns)) (is_sorted (close_node y)) (members_are_sorted (close ns)) h in
    elim (cases_Bool (same_key k l)) [
      | inl same ↦ rw same (both _ _ _ next hx rest)
      | inr other ↦ rw other (both _ _ _ (before-replace ns l k x ∙ next) old (ascend-replace ns k x hx rest))
    ]

ascends-get : (ns : Nodes) (k : List ℕ) (x : Node) → Ascend ns → get_node k ns ≡ Some x → Ascends x
ascends-get no_nodes k x h found = absurd (none-some x found)
ascends-get (node l y ns) k x h found =
    let (next, old, rest) = parts (is_before l (close ns)) (is_sorted (close_node y)) (members_are_sorted (close ns)) h in
    elim (cases_Bool (same_key k l)) [
      | inl same ↦ subst Ascends (same_Some y x (rw same at found)) old
      | inr other ↦ ascends-get ns k x rest (rw other at found)
    ]

-- edits that keep it

abbrev pub Keeps : Edit → Type 0
Keeps edit = (ns made : Nodes) → Ascend ns → edit ns ≡ Some made → Ascend made

header_node-keeps : (edit : Edit) → Keeps edit → (x y : Node) → Ascends x → header_node edit x ≡ Some y → Ascends y
header_node-keeps edit keeps (value d) y h made = absurd (none-some y made)
header_node-keeps edit keeps (open_table origin inner) y h made =
    let (new, is, same) = mapped (open_table origin) (edit inner) y made in
    subst Ascends same (keeps inner new h is)
header_node-keeps edit keeps (open_array done last) y h made =
    let (new, is, same) = mapped (open_array done) (edit last) y made in
    let (front, end) = pushed-items done (table (close last)) h in
    subst Ascends same (items-pushed done (table (close new)) front (keeps last new end is))

dot_node-keeps : (edit : Edit) → Keeps edit → (x y : Node) → Ascends x → dot_node edit x ≡ Some y → Ascends y
dot_node-keeps edit keeps (value d) y h made = absurd (none-some y made)
dot_node-keeps edit keeps (open_table header inner) y h made = absurd (none-some y made)
dot_node-keeps edit keeps (open_table implicit inner) y h made =
    let (new, is, same) = mapped (open_table dotted) (edit inner) y made in
    subst Ascends same (keeps inner new h is)
dot_node-keeps edit keeps (open_table dotted inner) y h made =
    let (new, is, same) = mapped (open_table dotted) (edit inner) y made in
    subst Ascends same (keeps inner new h is)
dot_node-keeps edit keeps (open_array done last) y h made = absurd (none-some y made)

by_header-keeps : (k : List ℕ) (edit : Edit) → Keeps edit → (ns made : Nodes) (o : Option Node) → Ascend ns → ((x : Node) → o ≡ Some x → Ascends x) → by_header k edit ns o ≡ Some made → Ascend made
by_header-keeps k edit keeps ns made None h found is =
    let (new, edited, same) = mapped (λ new. insert k (open_table implicit new) ns) (edit no_nodes) made is in
    subst Ascend same (ascend-insert ns k (open_table implicit new) (keeps no_nodes new refl edited) h)
by_header-keeps k edit keeps ns made (Some x) h found is =
    let (new, edited, same) = mapped (λ new. replace k new ns) (header_node edit x) made is in
    subst Ascend same (ascend-replace ns k new (header_node-keeps edit keeps x new (found x refl) edited) h)

by_dot-keeps : (k : List ℕ) (edit : Edit) → Keeps edit → (ns made : Nodes) (o : Option Node) → Ascend ns → ((x : Node) → o ≡ Some x → Ascends x) → by_dot k edit ns o ≡ Some made → Ascend made
by_dot-keeps k edit keeps ns made None h found is =
    let (new, edited, same) = mapped (λ new. insert k (open_table dotted new) ns) (edit no_nodes) made is in
    subst Ascend same (ascend-insert ns k (open_table dotted new) (keeps no_nodes new refl edited) h)
by_dot-keeps k edit keeps ns made (Some x) h found is =
    let (new, edited, same) = mapped (λ new. replace k new ns) (dot_node edit x) made is in
    subst Ascend same (ascend-replace ns k new (dot_node-keeps edit keeps x new (found x refl) edited) h)

along_header-keeps : (path : List (List ℕ)) (edit : Edit) → Keeps edit → Keeps (along_header path edit)
unfolding along_header
along_header-keeps [] edit keeps ns made h is = keeps ns made h is
along_header-keeps (k ∷ path) edit keeps ns made h is =
    by_header-keeps k (along_header path edit) (along_header-keeps path edit keeps) ns made (get_node k ns) h (λ x found. ascends-get ns k x h found) is

along_dots-keeps : (path : List (List ℕ)) (edit : Edit) → Keeps edit → Keeps (along_dots path edit)
unfolding along_dots
along_dots-keeps [] edit keeps ns made h is = keeps ns made h is
along_dots-keeps (k ∷ path) edit keeps ns made h is =
    by_dot-keeps k (along_dots path edit) (along_dots-keeps path edit keeps) ns made (get_node k ns) h (λ x found. ascends-get ns k x h found) is

-- a definition at a key

redefine-keeps : (what : Definition) (x y : Node) → Ascends x → redefine what x ≡ Some y → Ascends y
redefine-keeps (key_value d) x y h made = absurd (none-some y made)
redefine-keeps std_table (value d) y h made = absurd (none-some y made)
redefine-keeps std_table (open_table implicit inner) y h made = subst Ascends (same_Some (open_table header inner) y made) h
redefine-keeps std_table (open_table dotted inner) y h made = absurd (none-some y made)
redefine-keeps std_table (open_table header inner) y h made = absurd (none-some y made)
redefine-keeps std_table (open_array done last) y h made = absurd (none-some y made)
redefine-keeps array_table (value d) y h made = absurd (none-some y made)
redefine-keeps array_table (open_table origin inner) y h made = absurd (none-some y made)
redefine-keeps array_table (open_array done last) y h made =
    subst Ascends (same_Some (open_array (push_item done (table (close last))) no_nodes) y made) (items-pushed (push_item done (table (close last))) (table no_members) h refl)

at_found-keeps : (k : List ℕ) (what : Definition) → Ascends (new_node what) → (ns made : Nodes) (o : Option Node) → Ascend ns → ((x : Node) → o ≡ Some x → Ascends x) → at_found k what ns o ≡ Some made → Ascend made
at_found-keeps k what hw ns made None h found is = subst Ascend (same_Some (insert k (new_node what) ns) made is) (ascend-insert ns k (new_node what) hw h)
at_found-keeps k what hw ns made (Some x) h found is =
    let (y, redefined, same) = mapped (λ y. replace k y ns) (redefine what x) made is in
    subst Ascend same (ascend-replace ns k y (redefine-keeps what x y (found x refl) redefined) h)

at_key-keeps : (k : List ℕ) (what : Definition) → Ascends (new_node what) → Keeps (at_key k what)
unfolding at_key
at_key-keeps k what hw ns made h is = at_found-keeps k what hw ns made (get_node k ns) h (λ x found. ascends-get ns k x h found) is

pub put-keeps : (path : List (List ℕ)) (k : List ℕ) (d : Data) → is_sorted d ≡ true → Keeps (put (path, k) d)
put-keeps path k d h = along_dots-keeps path (at_key k (key_value d)) (at_key-keeps k (key_value d) h)

-- a document and one expression more

define_as-ascends : (doc made : Document) (path : List (List ℕ)) (k : List ℕ) (what : Definition) → Ascends (new_node what) → Ascend doc.0 → define_as doc (path, k) what ≡ Some made → Ascend made.0
define_as-ascends doc made path k (key_value d) hw h is =
    let (root, edited, same) = mapped (λ root. (root, doc.1)) (along_header doc.1 (put (path, k) d) doc.0) made is in
    subst (λ (x : Document). Ascend x.0) same (along_header-keeps doc.1 (put (path, k) d) (put-keeps path k d hw) doc.0 root h edited)
define_as-ascends doc made path k std_table hw h is =
    let (root, edited, same) = mapped (λ root. (root, _)) (along_header path (at_key k std_table) doc.0) made is in
    subst (λ (x : Document). Ascend x.0) same (along_header-keeps path (at_key k std_table) (at_key-keeps k std_table hw) doc.0 root h edited)
define_as-ascends doc made path k array_table hw h is =
    let (root, edited, same) = mapped (λ root. (root, _)) (along_header path (at_key k array_table) doc.0) made is in
    subst (λ (x : Document). Ascend x.0) same (along_header-keeps path (at_key k array_table) (at_key-keeps k array_table hw) doc.0 root h edited)

pub define-ascends : (doc made : Document) (e : Expression) → Ascends (new_node e.1) → Ascend doc.0 → define doc e ≡ Some made → Ascend made.0
unfolding define
define-ascends doc made e hw h is = define_as-ascends doc made e.0.0 e.0.1 e.1 hw h is
