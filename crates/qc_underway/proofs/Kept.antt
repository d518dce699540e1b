-- Compensators found by the names of their resources.
use Rattle.std.proofs.Common.{◌≡◌, ◌∙◌, ◌≤◌, ◌<◌, ◌+◌, ◌*◌, ℕ, suc, List, [], ◌∷◌, ◌++◌, length, map, get_or, slice_set, Bool, true, false, cond, bytes_eq, Option, Some, None, option_map, refl, sym, ap, subst, arith, true≢false, take, Vec, Global, vec_capacity}
use Rattle.std.specs.Prelude.{find}
use Rattle.std.proofs.lemmas.Bool.{false_from_ne_true}
use Rattle.std.proofs.lemmas.List.{take_more}
use Rattle.std.specs.List.{cons_option}
use Rattle.std.specs.Option.{IfSome}
use Rattle.std.proofs.lemmas.Slice.Eq.{bytes_eq-Decides}
use Rattle.qc_base.specs.declared.log_line.LogRecord.{LogRecord}
use Rattle.qc_base.specs.declared.log_line.Heard.{Heard}
use Rattle.qc_catalogue.specs.declared.catalogue.Catalogue.{Catalogue}
use Rattle.qc_catalogue.specs.declared.catalogue.Resource.{Resource}
use Rattle.qc_catalogue.specs.Lookup.{resource_named}
use Rattle.crm_driver.specs.Compensators.{CompensatorState, hears}
use Rattle.qc_underway.specs.declared.compensators.Compensators.{Compensators}
use Rattle.qc_underway.specs.declared.compensators.Named.{Named}
use Rattle.qc_underway.specs.Compensators.{Kept, kept_of, is_kept_for, state_named, new_kept, kept_for, IsOf, place_from, hears_more, named, HearsAlone, Hears}

pub bytes-same : (a b : List ℕ) → bytes_eq a b ≡ true → a ≡ b
bytes-same a b is = (bytes_eq-Decides a b).0 is

pub bytes-own : (a : List ℕ) → bytes_eq a a ≡ true
bytes-own a = (bytes_eq-Decides a a).1 refl

pub bytes-flip : (a b : List ℕ) (t : Bool) → bytes_eq a b ≡ t → bytes_eq b a ≡ t
bytes-flip a b true e = (bytes_eq-Decides b a).1 (sym (bytes-same a b e))
bytes-flip a b false e = false_from_ne_true (bytes_eq b a) (λ t. true≢false (sym ((bytes_eq-Decides a b).1 (sym (bytes-same b a t))) ∙ e))

pub name-found : (name : List ℕ) (rs : List Resource) (r : Resource) → resource_named name rs ≡ Some r → r.name ≡ name
name-found name [] r is = absurd cc
name-found name (x ∷ rs) r is = by (bytes_eq x.name name) refl is (name-found name rs r)
  where
    by : (b : Bool) → bytes_eq x.name name ≡ b → cond b (Some x) (resource_named name rs) ≡ Some r → (resource_named name rs ≡ Some r → r.name ≡ name) → r.name ≡ name
    by true same here further = let one : x ≡ r = cc in subst (λ (y : Resource). y.name ≡ name) one (bytes-same x.name name same)
    by false other there further = further there

-- those made for these names are the catalogue's

pub made-by : (c : Catalogue) (names : List (List ℕ)) (records : ℕ) (name : List ℕ) → IfSome (state_named name (kept_for c names records)) (λ s. IsOf c name s)
made-by c [] records name = tt
made-by c (n ∷ names) records name = by (resource_named n c.resources) refl (made-by c names records name)
  where
    rest : List Kept
    rest = kept_for c names records

    calls : ℕ
    calls = 2 * (records + 2)

    by : (o : Option Resource) → resource_named n c.resources ≡ o → IfSome (state_named name rest) (λ s. IsOf c name s)
        → IfSome (state_named name (cons_option (option_map (new_kept calls) o) rest)) (λ s. IsOf c name s)
    by None none further = further
    by (Some r) is further = pick (bytes_eq r.name name) refl further
      where
        pick : (b : Bool) → bytes_eq r.name name ≡ b → IfSome (state_named name rest) (λ s. IsOf c name s)
            → IfSome (option_map (λ (k : Kept). k.state) (cond b (Some (new_kept calls r)) (find (is_kept_for name) rest))) (λ s. IsOf c name s)
        pick false other further = further
        pick true same further =
            let own : n ≡ name = sym (name-found n c.resources r is) ∙ bytes-same r.name name same in
            record { resource = r; is = ap (λ (x : List ℕ). resource_named x c.resources) (sym own) ∙ is; rules = refl }

-- one more name

pub kept-more : (c : Catalogue) (xs ys : List (List ℕ)) (records : ℕ) → kept_for c (xs ++ ys) records ≡ kept_for c xs records ++ kept_for c ys records
kept-more c [] ys records = refl
kept-more c (x ∷ xs) ys records = by (option_map (new_kept (2 * (records + 2))) (resource_named x c.resources)) (kept-more c xs ys records)
  where
    by : (o : Option Kept) → kept_for c (xs ++ ys) records ≡ kept_for c xs records ++ kept_for c ys records → cons_option o (kept_for c (xs ++ ys) records) ≡ cons_option o (kept_for c xs records) ++ kept_for c ys records
    by None rest = rest
    by (Some k) rest = ap (λ (l : List Kept). k ∷ l) rest

pub one-kept : (c : Catalogue) (names : List (List ℕ)) (records i : ℕ) (name : List ℕ) (o : Option Kept) (got : List Kept) → i < length names → name ≡ get_or names i name → option_map (new_kept (2 * (records + 2))) (resource_named name c.resources) ≡ o
    → got ≡ kept_for c (take i names) records → got ++ cons_option o [] ≡ kept_for c (take (i + 1) names) records
one-kept c names records i name o got lt is gives had =
    ap (λ (l : List Kept). l ++ cons_option o []) had
    ∙ ap (λ (x : Option Kept). kept_for c (take i names) records ++ cons_option x []) (sym gives)
    ∙ ap (λ (n : List ℕ). kept_for c (take i names) records ++ kept_for c (n ∷ []) records) is
    ∙ sym (kept-more c (take i names) (get_or names i name ∷ []) records)
    ∙ sym (ap (λ (l : List (List ℕ)). kept_for c l records) (take_more names i name lt))

-- the one at the place of a name is the first of it, and where it changes no other does

-- no name comes before
pub record StandsAt (name : List ℕ) (ns : List Named) (i : ℕ) : Type 0 where
  pub inside : i < length ns
  pub is : (d : Named) → state_named name (map kept_of ns) ≡ Some (kept_of (get_or ns i d)).state
  pub own : (d : Named) → (get_or ns i d).name ≡ name
  pub now : (n : Named) → n.name ≡ name → state_named name (map kept_of (slice_set ns i n)) ≡ Some (kept_of n).state
  pub others : (n : Named) → n.name ≡ name → (other : List ℕ) → bytes_eq name other ≡ false → state_named other (map kept_of (slice_set ns i n)) ≡ state_named other (map kept_of ns)

abbrev picked : List ℕ → Bool → Kept → List Kept → Option CompensatorState
picked name b k ks = option_map (λ (x : Kept). x.state) (cond b (Some k) (find (is_kept_for name) ks))

stands-first : (name : List ℕ) (n : Named) (ns : List Named) → bytes_eq n.name name ≡ true → StandsAt name (n ∷ ns) 0
stands-first name n ns same = record {
  inside = omega arith;
  is = λ d. ap (λ (b : Bool). picked name b (kept_of n) (map kept_of ns)) same;
  own = λ d. bytes-same n.name name same;
  now = λ m is. ap (λ (b : Bool). picked name b (kept_of m) (map kept_of ns)) (ap (λ (x : List ℕ). bytes_eq x name) is ∙ bytes-own name);
  others = λ m is other apart.
      ap (λ (b : Bool). picked other b (kept_of m) (map kept_of ns)) (ap (λ (x : List ℕ). bytes_eq x other) is ∙ apart)
      ∙ sym (ap (λ (b : Bool). picked other b (kept_of n) (map kept_of ns)) (ap (λ (x : List ℕ). bytes_eq x other) (bytes-same n.name name same) ∙ apart));
}

stands-behind : (name : List ℕ) (n : Named) (ns : List Named) (i : ℕ) → bytes_eq n.name name ≡ false → StandsAt name ns i → StandsAt name (n ∷ ns) (suc i)
stands-behind name n ns i apart at = record {
  inside = omega (arith, at.inside);
  is = λ d. ap (λ (b : Bool). picked name b (kept_of n) (map kept_of ns)) apart ∙ at.is d;
  own = λ d. at.own d;
  now = λ m is. ap (λ (b : Bool). picked name b (kept_of n) (map kept_of (slice_set ns i m))) apart ∙ at.now m is;
  others = λ m is other differs. by m is other differs (bytes_eq n.name other);
}
  where
    by : (m : Named) → m.name ≡ name → (other : List ℕ) → bytes_eq name other ≡ false → (b : Bool) → picked other b (kept_of n) (map kept_of (slice_set ns i m)) ≡ picked other b (kept_of n) (map kept_of ns)
    by m is other differs true = refl
    by m is other differs false = at.others m is other differs

pub stands-at : (name : List ℕ) (ns : List Named) (first place : ℕ) → place_from first name ns ≡ Some place → (i : ℕ) × (place ≡ first + i) × StandsAt name ns i
stands-at name [] first place is = absurd cc
stands-at name (n ∷ ns) first place is = by (bytes_eq n.name name) refl is (stands-at name ns (first + 1) place)
  where
    by : (b : Bool) → bytes_eq n.name name ≡ b → cond b (Some first) (place_from (first + 1) name ns) ≡ Some place
        → (place_from (first + 1) name ns ≡ Some place → (i : ℕ) × (place ≡ first + 1 + i) × StandsAt name ns i) → (i : ℕ) × (place ≡ first + i) × StandsAt name (n ∷ ns) i
    by true same here further = let one : first ≡ place = cc in (0, omega (arith, one), stands-first name n ns same)
    by false apart there further = let at = further there in (suc at.0, omega (arith, at.1), stands-behind name n ns at.0 apart at.2)

pub stands-there : (name : List ℕ) (ns : List Named) (place : ℕ) → place_from 0 name ns ≡ Some place → StandsAt name ns place
stands-there name ns place is = let at = stands-at name ns 0 place is in subst (λ i. StandsAt name ns i) (omega (arith, at.1)) at.2

-- nobody of the name
pub nobody-there : (name : List ℕ) (ns : List Named) (first : ℕ) → place_from first name ns ≡ None → state_named name (map kept_of ns) ≡ None
nobody-there name [] first is = refl
nobody-there name (n ∷ ns) first is = by (bytes_eq n.name name) is (nobody-there name ns (first + 1))
  where
    by : (b : Bool) → cond b (Some first) (place_from (first + 1) name ns) ≡ None → (place_from (first + 1) name ns ≡ None → state_named name (map kept_of ns) ≡ None) → picked name b (kept_of n) (map kept_of ns) ≡ None
    by true here further = absurd cc
    by false there further = further there

-- the one at the place of a name heard more
pub hears-alone : (name : List ℕ) (told : Compensators) (place : ℕ) (each : Vec Named Global) (forget : Vec ℕ Global) (was n : Named) (heard : List Heard) (rs : List LogRecord) → place_from 0 name told.each.items ≡ Some place → each.items ≡ slice_set told.each.items place n
    → was ≡ get_or told.each.items place was → kept_of n ≡ hears_more heard rs (kept_of was) → vec_capacity forget ≡ vec_capacity told.forget → HearsAlone name heard rs told (record { each = each; forget = forget })
hears-alone name told place each forget was n heard rs at items got kept room =
    let stands = stands-there name told.each.items place at in
    let own : n.name ≡ name = ap (λ (k : Kept). k.name) kept ∙ ap (λ (x : Named). x.name) got ∙ stands.own was in
    let state : (kept_of n).state ≡ hears heard rs (kept_of was).state = ap (λ (k : Kept). k.state) kept in
    let found : named told name ≡ Some (kept_of was).state = stands.is was ∙ sym (ap (λ (x : Named). Some (kept_of x).state) got) in
    record {
      own = ap (λ (l : List Named). state_named name (map kept_of l)) items ∙ stands.now n own ∙ ap Some state ∙ sym (ap (option_map (hears heard rs)) found);
      others = λ other apart. ap (λ (l : List Named). state_named other (map kept_of l)) items ∙ stands.others n own other apart;
      forget = room;
    }

-- what a resource's compensator at its place has room for
pub spare-at : (phases records : ℕ) (name : List ℕ) (told : Compensators) (place : ℕ) (was : Named) → place_from 0 name told.each.items ≡ Some place → was ≡ get_or told.each.items place was → (h : Hears phases records name told)
    → (phases * (records + 2) ≤ (kept_of was).state.spare) × (named told name ≡ Some (kept_of was).state)
spare-at phases records name told place was at got h =
    let stands = stands-there name told.each.items place at in
    let found : named told name ≡ Some (kept_of was).state = stands.is was ∙ sym (ap (λ (x : Named). Some (kept_of x).state) got) in
    let one : h.state ≡ (kept_of was).state = same-some h.state (kept_of was).state (sym h.is ∙ found) in
    (subst (λ (s : CompensatorState). phases * (records + 2) ≤ s.spare) one h.calls, found)
  where
    same-some : (a b : CompensatorState) → Some a ≡ Some b → a ≡ b
    same-some a b e = cc

-- there is one where it can hear
pub not-nobody : (phases records : ℕ) (name : List ℕ) (told : Compensators) → Hears phases records name told → place_from 0 name told.each.items ≡ None → ⊥
not-nobody phases records name told h none = differs (sym (nobody-there name told.each.items 0 none) ∙ h.is)
  where
    differs : None ≡ Some h.state → ⊥
    differs e = absurd cc
