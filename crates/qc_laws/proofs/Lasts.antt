-- The records of a resource, by the lines, and the last of them.
use Rattle.std.proofs.Common.{◌≡◌, ◌∙◌, ℕ, ◌+◌, ◌≤◌, ◌<◌, List, [], ◌∷◌, ◌++◌, All, Bool, true, false, cond, length, map, filter, reverse, count_by, refl, sym, ap, subst, arith, Option, Some, None}
use Rattle.std.specs.Str.{bytes_eq}
use Rattle.std.proofs.lemmas.List.{length-map, reverse-append}
use Rattle.std.proofs.lemmas.List.Elements.{All-head, All-tail}
use Rattle.std.proofs.lemmas.List.Sums.{length-filter}
use Rattle.qc_base.specs.declared.log_line.LogLine.{LogLine}
use Rattle.qc_base.specs.declared.log_line.LogRecord.{LogRecord}
use Rattle.qc_base.specs.LogLines.{Entry, is_forgotten, of_resource}
use Rattle.qc_catalogue.specs.declared.catalogue.Catalogue.{Catalogue}
use Rattle.qc_store.proofs.Listings.{count-cons}
use Rattle.qc_store.proofs.Tallying.{one_if}
use Rattle.qc_play.specs.declared.record.PlayRecord.{PlayRecord}
use Rattle.qc_play.specs.Play.{is_of, last_of, kept_last}
use Rattle.qc_play.specs.Effects.{AreNumbers, numbers_of}
use Rattle.qc_play.proofs.OuterLaws.{bytes-same, kept-is}
use Rattle.crm_clerk.specs.Clerk.{last_kept, records_in, unless_forgotten}
use Rattle.qc_laws.specs.Logged.{entry_of, IsLogged}

none-is : {A : Type 0} (x : A) → None ≡ Some x → ⊥
none-is x e = cc

some-is : {A : Type 0} (x : A) → Some x ≡ None → ⊥
some-is x e = cc

own-records : (resource : List ℕ) (rs : List PlayRecord) → of_resource resource (map entry_of rs) ≡ map (λ (r : PlayRecord). r.entry) (filter (is_of resource) rs)
own-records resource [] = refl
own-records resource (r ∷ rs) = by (bytes_eq r.resource resource) (own-records resource rs)
  where
    by : (b : Bool) → of_resource resource (map entry_of rs) ≡ map (λ (r : PlayRecord). r.entry) (filter (is_of resource) rs)
        → map (λ (e : Entry). e.entry) (cond b (entry_of r ∷ filter (λ (e : Entry). bytes_eq e.resource resource) (map entry_of rs)) (filter (λ (e : Entry). bytes_eq e.resource resource) (map entry_of rs)))
        ≡ map (λ (r : PlayRecord). r.entry) (cond b (r ∷ filter (is_of resource) rs) (filter (is_of resource) rs))
    by true rest = ap (λ l. r.entry ∷ l) rest
    by false rest = rest

-- how many there are, forgotten ones among them
pub own-count : (c : Catalogue) (lines : List LogLine) (n id : ℕ) (rs : List PlayRecord) → IsLogged c lines n id rs → (resource : List ℕ) → length (records_in lines n resource) ≡ count_by (is_of resource) rs
own-count c lines n id rs is resource =
    ap (λ es. length (of_resource resource es)) is.entries
    ∙ ap length (own-records resource rs) ∙ length-map (filter (is_of resource) rs) (λ (r : PlayRecord). r.entry) ∙ length-filter (is_of resource) rs

none-own : (resource : List ℕ) (rs : List PlayRecord) → last_of resource rs ≡ None → filter (is_of resource) rs ≡ []
none-own resource [] e = refl
none-own resource (r ∷ rs) e = by (bytes_eq r.resource resource) (last_of resource rs) refl e (none-own resource rs)
  where
    by : (b : Bool) → (o : Option PlayRecord) → last_of resource rs ≡ o → (elim o as (λ x. Option PlayRecord) [ Some s ↦ Some s | None ↦ cond b (Some r) None ]) ≡ None
        → (last_of resource rs ≡ None → filter (is_of resource) rs ≡ []) → cond b (r ∷ filter (is_of resource) rs) (filter (is_of resource) rs) ≡ []
    by b (Some s) f e on = absurd (some-is s e)
    by true None f e on = absurd (some-is r e)
    by false None f e on = on f

own-last : (resource : List ℕ) (rs : List PlayRecord) (p : PlayRecord) → last_of resource rs ≡ Some p
    → (front : List LogRecord) × (map (λ (r : PlayRecord). r.entry) (filter (is_of resource) rs) ≡ front ++ p.entry ∷ [])
own-last resource [] p e = absurd (none-is p e)
own-last resource (r ∷ rs) p e = by (bytes_eq r.resource resource) (last_of resource rs) refl e (own-last resource rs p)
  where
    by : (b : Bool) → (o : Option PlayRecord) → last_of resource rs ≡ o → (elim o as (λ x. Option PlayRecord) [ Some s ↦ Some s | None ↦ cond b (Some r) None ]) ≡ Some p
        → (last_of resource rs ≡ Some p → (front : List LogRecord) × (map (λ (r : PlayRecord). r.entry) (filter (is_of resource) rs) ≡ front ++ p.entry ∷ []))
        → (front : List LogRecord) × (map (λ (r : PlayRecord). r.entry) (cond b (r ∷ filter (is_of resource) rs) (filter (is_of resource) rs)) ≡ front ++ p.entry ∷ [])
    by true (Some s) f e on = let rest = on (f ∙ e) in (r.entry ∷ rest.0, ap (λ l. r.entry ∷ l) rest.1)
    by false (Some s) f e on = on (f ∙ e)
    by true None f e on =
        let same : r ≡ p = cc in
        ([], (λ i. r.entry ∷ map (λ (x : PlayRecord). x.entry) (none-own resource rs f i)) ∙ ap (λ (x : PlayRecord). x.entry ∷ []) same)
    by false None f e on = absurd (none-is p e)

-- the last of a resource has what each record has, and is of the resource
last-has : (P : PlayRecord → Type 0) (resource : List ℕ) (rs : List PlayRecord) (p : PlayRecord) → All P rs → last_of resource rs ≡ Some p → P p × (p.resource ≡ resource)
last-has P resource [] p all e = absurd (none-is p e)
last-has P resource (r ∷ rs) p all e = by (bytes_eq r.resource resource) refl (last_of resource rs) refl e (last-has P resource rs p (All-tail P r rs all))
  where
    by : (b : Bool) → bytes_eq r.resource resource ≡ b → (o : Option PlayRecord) → last_of resource rs ≡ o
        → (elim o as (λ x. Option PlayRecord) [ Some s ↦ Some s | None ↦ cond b (Some r) None ]) ≡ Some p
        → (last_of resource rs ≡ Some p → P p × (p.resource ≡ resource)) → P p × (p.resource ≡ resource)
    by b g (Some s) f e on = on (f ∙ e)
    by true g None f e on =
        let same : r ≡ p = cc in
        (subst P same (All-head P r rs all), ap (λ (x : PlayRecord). x.resource) (sym same) ∙ bytes-same r.resource resource g)
    by false g None f e on = absurd (none-is p e)

-- the last record by the lines, where it isn't forgotten, is the last of the play state
pub last-kept-is : (c : Catalogue) (lines : List LogLine) (n id : ℕ) (rs : List PlayRecord) → IsLogged c lines n id rs → (resource : List ℕ) (e : LogRecord) → kept_last resource rs ≡ Some e → last_kept lines n resource ≡ Some e
last-kept-is c lines n id rs is resource e h =
    ap (λ l. unless_forgotten lines n resource l) top
    ∙ ap (λ b. cond b None (Some p.entry)) (ap (λ w. is_forgotten lines n (record { resource = w; entry = p.entry })) (sym has.1) ∙ has.0 ∙ kept.2)
    ∙ ap (λ x. Some x) kept.3
  where
    kept : (p : PlayRecord) × (last_of resource rs ≡ Some p) × (p.forgotten ≡ false) × (p.entry ≡ e)
    kept = kept-is resource rs e h

    p : PlayRecord
    p = kept.0

    has : (is_forgotten lines n (entry_of p) ≡ p.forgotten) × (p.resource ≡ resource)
    has = last-has (λ (q : PlayRecord). is_forgotten lines n (entry_of q) ≡ q.forgotten) resource rs p is.forgotten kept.1

    front : (front : List LogRecord) × (map (λ (r : PlayRecord). r.entry) (filter (is_of resource) rs) ≡ front ++ p.entry ∷ [])
    front = own-last resource rs p kept.1

    top : reverse (records_in lines n resource) ≡ p.entry ∷ reverse front.0
    top = (λ i. reverse (of_resource resource (is.entries i))) ∙ ap reverse (own-records resource rs ∙ front.1) ∙ reverse-append front.0 (p.entry ∷ [])

last-within : (resource : List ℕ) (n : ℕ) (rs : List PlayRecord) (p : PlayRecord) → AreNumbers n (numbers_of resource rs) → last_of resource rs ≡ Some p → p.entry.seq < n + count_by (is_of resource) rs
last-within resource n [] p all e = absurd (none-is p e)
last-within resource n (r ∷ rs) p all e = by (bytes_eq r.resource resource) refl all (last_of resource rs) refl e (λ m all f. last-within resource m rs p all f)
  where
    by : (b : Bool) → bytes_eq r.resource resource ≡ b → AreNumbers n (map (λ (r : PlayRecord). r.entry.seq) (cond b (r ∷ filter (is_of resource) rs) (filter (is_of resource) rs))) → (o : Option PlayRecord) → last_of resource rs ≡ o
        → (elim o as (λ x. Option PlayRecord) [ Some s ↦ Some s | None ↦ cond b (Some r) None ]) ≡ Some p
        → ((m : ℕ) → AreNumbers m (numbers_of resource rs) → last_of resource rs ≡ Some p → p.entry.seq < m + count_by (is_of resource) rs) → p.entry.seq < n + count_by (is_of resource) (r ∷ rs)
    by true g all (Some s) f e on = omega (arith, on (n + 1) all.1 (f ∙ e), count-cons (is_of resource) r rs, ap one_if g)
    by true g all None f e on = let same : r ≡ p = cc in omega (arith, all.0, ap (λ (x : PlayRecord). x.entry.seq) same, count-cons (is_of resource) r rs, ap one_if g)
    by false g all (Some s) f e on = omega (arith, on n all (f ∙ e), count-cons (is_of resource) r rs, ap one_if g)
    by false g all None f e on = absurd (none-is p e)

-- the last record's number is at most how many there are
pub last-few : (resource : List ℕ) (rs : List PlayRecord) (e : LogRecord) → AreNumbers 1 (numbers_of resource rs) → kept_last resource rs ≡ Some e → e.seq ≤ count_by (is_of resource) rs
last-few resource rs e all h =
    let kept = kept-is resource rs e h in
    omega (arith, last-within resource 1 rs kept.0 all kept.1, ap (λ (x : LogRecord). x.seq) kept.3)
