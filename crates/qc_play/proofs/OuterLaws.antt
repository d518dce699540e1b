-- Effects keep the order of records and the way from the first amounts to these.
use Rattle.std.proofs.Common.{◌≡◌, ◌∙◌, ℕ, ◌+◌, ◌≤◌, ◌==◌, List, [], ◌∷◌, ◌++◌, Bool, true, false, not, cond, ◌&&◌, length, map, filter, reverse, count_by, refl, sym, ap, subst, arith, true≢false, Option, Some, None, is_some, option_and_then, eq-eqb, ne_eqb, append-nil}
use Rattle.std.specs.Str.{bytes_eq}
use Rattle.std.proofs.lemmas.Bool.{and_parts, and_from, and_left, and_right, false_from_ne_true}
use Rattle.std.proofs.lemmas.List.{reverse-append, map-append, length-map}
use Rattle.std.proofs.lemmas.List.Elements.{filter-append}
use Rattle.std.proofs.lemmas.List.Sums.{length-filter}
use Rattle.std.proofs.lemmas.Slice.Eq.{bytes_eq-Decides}
use Rattle.qc_base.specs.declared.log_line.LogRecord.{LogRecord}
use Rattle.qc_base.specs.Rows.{OutsideRows}
use Rattle.qc_play.specs.declared.effect.Effect.{Effect}
use Rattle.qc_play.specs.declared.effect.Effect.TheVariants.{Change, Retract}
use Rattle.qc_play.specs.declared.record.PlayRecord.{PlayRecord}
use Rattle.qc_play.specs.Play.{outside_row, is_of, new_record, last_of, kept_last, forget}
use Rattle.qc_play.specs.Effects.{records_of, Outer, IsSame, IsChange, IsRetract, IsEffect, LeadsTo, AreNumbers, numbers_of, stack_of, IsChain, IsOuter}

pub bytes-same : (a b : List ℕ) → bytes_eq a b ≡ true → a ≡ b
bytes-same a b e = (bytes_eq-Decides a b).0 e

pub bytes-itself : (a : List ℕ) → bytes_eq a a ≡ true
bytes-itself a = (bytes_eq-Decides a a).1 refl

pub bytes-flip : (a b : List ℕ) (t : Bool) → bytes_eq a b ≡ t → bytes_eq b a ≡ t
bytes-flip a b true e = (bytes_eq-Decides b a).1 (sym (bytes-same a b e))
bytes-flip a b false e = false_from_ne_true (bytes_eq b a) (λ t. true≢false (sym ((bytes_eq-Decides a b).1 (sym (bytes-same b a t))) ∙ e))

-- chains

pub chain-same : (first : List ℕ → Option ℕ) (rs : List LogRecord) (now next : List ℕ → Option ℕ) → ((k : List ℕ) → next k ≡ now k) → IsChain first rs now → IsChain first rs next
chain-same first [] now next h c = λ k. h k ∙ c k
chain-same first (r ∷ rs) now next h c =
    (h r.key ∙ c.0, chain-same first rs (λ k. cond (bytes_eq k r.key) (Some r.old) (now k)) (λ k. cond (bytes_eq k r.key) (Some r.old) (next k)) (λ k. ap (λ o. cond (bytes_eq k r.key) (Some r.old) o) (h k)) c.1)

-- numbers

numbers-push : (n k : ℕ) (ks : List ℕ) → AreNumbers n ks → k ≡ n + length ks → AreNumbers n (ks ++ k ∷ [])
numbers-push n k [] all e = (omega (arith, e), tt)
numbers-push n k (x ∷ ks) all e = (all.0, numbers-push (n + 1) k ks all.1 (omega (arith, e)))

numbers-more : (resource : List ℕ) (rs : List PlayRecord) (p : PlayRecord) → AreNumbers 1 (numbers_of resource rs) → (bytes_eq p.resource resource ≡ true → p.entry.seq ≡ count_by (is_of resource) rs + 1) → AreNumbers 1 (numbers_of resource (rs ++ p ∷ []))
numbers-more resource rs p all e =
    subst (AreNumbers 1) (sym (ap (map (λ (r : PlayRecord). r.entry.seq)) (filter-append (is_of resource) rs (p ∷ [])) ∙ map-append (λ (r : PlayRecord). r.entry.seq) (filter (is_of resource) rs) (filter (is_of resource) (p ∷ [])))) (by (bytes_eq p.resource resource) refl)
  where
    by : (b : Bool) → bytes_eq p.resource resource ≡ b → AreNumbers 1 (numbers_of resource rs ++ map (λ (r : PlayRecord). r.entry.seq) (cond b (p ∷ []) []))
    by true f = numbers-push 1 p.entry.seq (numbers_of resource rs) all (omega (arith, e f, length-map (filter (is_of resource) rs) (λ (r : PlayRecord). r.entry.seq), length-filter (is_of resource) rs))
    by false f = subst (AreNumbers 1) (sym (append-nil (numbers_of resource rs))) all

abbrev pub marked : List ℕ → ℕ → PlayRecord → PlayRecord
marked resource seq r = cond (is_of resource r && (r.entry.seq == seq)) (record r { forgotten = true }) r

pub marked-keeps : (resource : List ℕ) (seq : ℕ) (r : PlayRecord) → ((marked resource seq r).resource ≡ r.resource) × ((marked resource seq r).entry ≡ r.entry)
marked-keeps resource seq r = by (is_of resource r && (r.entry.seq == seq))
  where
    by : (b : Bool) → ((cond b (record r { forgotten = true }) r).resource ≡ r.resource) × ((cond b (record r { forgotten = true }) r).entry ≡ r.entry)
    by true = (refl, refl)
    by false = (refl, refl)

numbers-forget : (other resource : List ℕ) (seq : ℕ) (rs : List PlayRecord) → numbers_of other (forget resource seq rs) ≡ numbers_of other rs
numbers-forget other resource seq [] = refl
numbers-forget other resource seq (r ∷ rs) =
    let k = marked-keeps resource seq r in
    ap (λ (b : Bool). map (λ (r : PlayRecord). r.entry.seq) (cond b (marked resource seq r ∷ filter (is_of other) (forget resource seq rs)) (filter (is_of other) (forget resource seq rs)))) (ap (λ w. bytes_eq w other) k.0)
    ∙ by (bytes_eq r.resource other) (numbers-forget other resource seq rs)
  where
    by : (b : Bool) → numbers_of other (forget resource seq rs) ≡ numbers_of other rs
        → map (λ (r : PlayRecord). r.entry.seq) (cond b (marked resource seq r ∷ filter (is_of other) (forget resource seq rs)) (filter (is_of other) (forget resource seq rs))) ≡ map (λ (r : PlayRecord). r.entry.seq) (cond b (r ∷ filter (is_of other) rs) (filter (is_of other) rs))
    by true rest = λ i. ((marked-keeps resource seq r).1 i).seq ∷ rest i
    by false rest = rest

-- records behind a change

pub records-append : (resource : List ℕ) (rs more : List PlayRecord) → records_of resource (rs ++ more) ≡ records_of resource rs ++ records_of resource more
records-append resource [] more = refl
records-append resource (r ∷ rs) more = by (bytes_eq r.resource resource && not r.forgotten) (records-append resource rs more)
  where
    by : (b : Bool) → records_of resource (rs ++ more) ≡ records_of resource rs ++ records_of resource more → cond b (r.entry ∷ records_of resource (rs ++ more)) (records_of resource (rs ++ more)) ≡ cond b (r.entry ∷ records_of resource rs) (records_of resource rs) ++ records_of resource more
    by true rest = ap (λ l. r.entry ∷ l) rest
    by false rest = rest

-- and behind a retract

other-forgets : (other resource : List ℕ) (seq : ℕ) (rs : List PlayRecord) → bytes_eq resource other ≡ false → records_of other (forget resource seq rs) ≡ records_of other rs
other-forgets other resource seq [] e = refl
other-forgets other resource seq (r ∷ rs) e = by (bytes_eq r.resource resource) refl (r.entry.seq == seq) (other-forgets other resource seq rs e)
  where
    by : (b : Bool) → bytes_eq r.resource resource ≡ b → (d : Bool) → records_of other (forget resource seq rs) ≡ records_of other rs
        → records_of other (cond (b && d) (record r { forgotten = true }) r ∷ forget resource seq rs) ≡ records_of other (r ∷ rs)
    by true f true rest =
        let not_other : bytes_eq r.resource other ≡ false = ap (λ w. bytes_eq w other) (bytes-same r.resource resource f) ∙ e in
        ap (λ b. cond (b && false) (r.entry ∷ records_of other (forget resource seq rs)) (records_of other (forget resource seq rs))) not_other ∙ rest ∙ sym (ap (λ b. cond (b && not r.forgotten) (r.entry ∷ records_of other rs) (records_of other rs)) not_other)
    by true f false rest = ap (λ l. cond (bytes_eq r.resource other && not r.forgotten) (r.entry ∷ l) l) rest
    by false f d rest = ap (λ l. cond (bytes_eq r.resource other && not r.forgotten) (r.entry ∷ l) l) rest

last-above : (resource : List ℕ) (n : ℕ) (rs : List PlayRecord) (p : PlayRecord) → AreNumbers n (numbers_of resource rs) → last_of resource rs ≡ Some p → n ≤ p.entry.seq
last-above resource n [] p all e = absurd (none e)
  where
    none : None ≡ Some p → ⊥
    none e = cc
last-above resource n (r ∷ rs) p all e = by (bytes_eq r.resource resource) all (last_of resource rs) refl e (λ m all f. last-above resource m rs p all f)
  where
    by : (b : Bool) → AreNumbers n (map (λ (r : PlayRecord). r.entry.seq) (cond b (r ∷ filter (is_of resource) rs) (filter (is_of resource) rs))) → (o : Option PlayRecord) → last_of resource rs ≡ o
        → (elim o [ Some s ↦ Some s | None ↦ cond b (Some r) None ]) ≡ Some p → ((m : ℕ) → AreNumbers m (numbers_of resource rs) → last_of resource rs ≡ Some p → m ≤ p.entry.seq) → n ≤ p.entry.seq
    by true all (Some s) f e on = omega (arith, on (n + 1) all.1 (f ∙ e))
    by true all None f e on = let same : r ≡ p = cc in omega (arith, all.0, ap (λ (x : PlayRecord). x.entry.seq) same)
    by false all (Some s) f e on = on n all (f ∙ e)
    by false all None f e on = absurd (none e)
      where
        none : None ≡ Some p → ⊥
        none e = cc

no-last : (resource : List ℕ) (seq : ℕ) (rs : List PlayRecord) → last_of resource rs ≡ None → (records_of resource rs ≡ []) × (records_of resource (forget resource seq rs) ≡ [])
no-last resource seq [] e = (refl, refl)
no-last resource seq (r ∷ rs) e = by (bytes_eq r.resource resource) refl (last_of resource rs) refl e (no-last resource seq rs)
  where
    by : (b : Bool) → bytes_eq r.resource resource ≡ b → (o : Option PlayRecord) → last_of resource rs ≡ o → (elim o as (λ x. Option PlayRecord) [ Some s ↦ Some s | None ↦ cond b (Some r) None ]) ≡ None
        → (last_of resource rs ≡ None → (records_of resource rs ≡ []) × (records_of resource (forget resource seq rs) ≡ []))
        → (records_of resource (r ∷ rs) ≡ []) × (records_of resource (cond (b && (r.entry.seq == seq)) (record r { forgotten = true }) r ∷ forget resource seq rs) ≡ [])
    by b g (Some s) f e on = absurd (some e)
      where
        some : Some s ≡ None → ⊥
        some e = cc
    by true g None f e on = absurd (some e)
      where
        some : Some r ≡ None → ⊥
        some e = cc
    by false g None f e on =
        let rest = on f in (
          ap (λ b. cond (b && not r.forgotten) (r.entry ∷ records_of resource rs) (records_of resource rs)) g ∙ rest.0,
          ap (λ b. cond (b && not r.forgotten) (r.entry ∷ records_of resource (forget resource seq rs)) (records_of resource (forget resource seq rs))) g ∙ rest.1,
        )

pub last-split : (resource : List ℕ) (n : ℕ) (rs : List PlayRecord) (p : PlayRecord) → AreNumbers n (numbers_of resource rs) → last_of resource rs ≡ Some p → p.forgotten ≡ false
    → records_of resource rs ≡ records_of resource (forget resource p.entry.seq rs) ++ p.entry ∷ []
last-split resource n [] p all e kept = absurd (none e)
  where
    none : None ≡ Some p → ⊥
    none e = cc
last-split resource n (r ∷ rs) p all e kept = by (bytes_eq r.resource resource) refl all (last_of resource rs) refl e (λ m all f. last-split resource m rs p all f kept)
  where
    by : (b : Bool) → bytes_eq r.resource resource ≡ b → AreNumbers n (map (λ (r : PlayRecord). r.entry.seq) (cond b (r ∷ filter (is_of resource) rs) (filter (is_of resource) rs))) → (o : Option PlayRecord) → last_of resource rs ≡ o
        → (elim o [ Some s ↦ Some s | None ↦ cond b (Some r) None ]) ≡ Some p
        → ((m : ℕ) → AreNumbers m (numbers_of resource rs) → last_of resource rs ≡ Some p → records_of resource rs ≡ records_of resource (forget resource p.entry.seq rs) ++ p.entry ∷ [])
        → records_of resource (r ∷ rs) ≡ records_of resource (cond (b && (r.entry.seq == p.entry.seq)) (record r { forgotten = true }) r ∷ forget resource p.entry.seq rs) ++ p.entry ∷ []
    by true g all (Some s) f e on =
        let above = last-above resource (n + 1) rs p all.1 (f ∙ e) in
        let differ : (r.entry.seq == p.entry.seq) ≡ false = ne_eqb _ _ (omega (arith, above, all.0)) in
        front (not r.forgotten) (on (n + 1) all.1 (f ∙ e)) differ
      where
        front : (kept : Bool) → records_of resource rs ≡ records_of resource (forget resource p.entry.seq rs) ++ p.entry ∷ [] → (r.entry.seq == p.entry.seq) ≡ false
            → cond (bytes_eq r.resource resource && not r.forgotten) (r.entry ∷ records_of resource rs) (records_of resource rs) ≡ records_of resource (cond (true && (r.entry.seq == p.entry.seq)) (record r { forgotten = true }) r ∷ forget resource p.entry.seq rs) ++ p.entry ∷ []
        front kept rest differ =
            (ap (λ l. cond (bytes_eq r.resource resource && not r.forgotten) (r.entry ∷ l) l) rest ∙ pull (bytes_eq r.resource resource && not r.forgotten))
            ∙ sym (ap (λ d. records_of resource (cond (true && d) (record r { forgotten = true }) r ∷ forget resource p.entry.seq rs) ++ p.entry ∷ []) differ)
          where
            pull : (b : Bool) → cond b (r.entry ∷ (records_of resource (forget resource p.entry.seq rs) ++ p.entry ∷ [])) (records_of resource (forget resource p.entry.seq rs) ++ p.entry ∷ []) ≡ cond b (r.entry ∷ records_of resource (forget resource p.entry.seq rs)) (records_of resource (forget resource p.entry.seq rs)) ++ p.entry ∷ []
            pull true = refl
            pull false = refl
    by true g all None f e on =
        let same : r ≡ p = cc in
        let none = no-last resource p.entry.seq rs f in
        let here : (r.entry.seq == p.entry.seq) ≡ true = eq-eqb _ _ (ap (λ (x : PlayRecord). x.entry.seq) same) in
        let unforgotten : r.forgotten ≡ false = ap (λ (x : PlayRecord). x.forgotten) same ∙ kept in
        (ap (λ b. cond (b && not r.forgotten) (r.entry ∷ records_of resource rs) (records_of resource rs)) g ∙ ap (λ b. cond (not b) (r.entry ∷ records_of resource rs) (records_of resource rs)) unforgotten ∙ ap (λ l. r.entry ∷ l) none.0 ∙ ap (λ (x : PlayRecord). x.entry ∷ []) same)
        ∙ sym (ap (λ d. records_of resource (cond (true && d) (record r { forgotten = true }) r ∷ forget resource p.entry.seq rs) ++ p.entry ∷ []) here
        ∙ ap (λ b. cond (b && false) (r.entry ∷ records_of resource (forget resource p.entry.seq rs)) (records_of resource (forget resource p.entry.seq rs)) ++ p.entry ∷ []) g
        ∙ ap (λ l. l ++ p.entry ∷ []) none.1)
    by false g all (Some s) f e on =
        (ap (λ b. cond (b && not r.forgotten) (r.entry ∷ records_of resource rs) (records_of resource rs)) g ∙ on n all (f ∙ e))
        ∙ sym (ap (λ b. cond (b && not r.forgotten) (r.entry ∷ records_of resource (forget resource p.entry.seq rs)) (records_of resource (forget resource p.entry.seq rs)) ++ p.entry ∷ []) g)
    by false g all None f e on = absurd (none e)
      where
        none : None ≡ Some p → ⊥
        none e = cc

pub kept-is : (resource : List ℕ) (rs : List PlayRecord) (e : LogRecord) → kept_last resource rs ≡ Some e → (p : PlayRecord) × (last_of resource rs ≡ Some p) × (p.forgotten ≡ false) × (p.entry ≡ e)
kept-is resource rs e h = by (last_of resource rs) refl h
  where
    by : (o : Option PlayRecord) → last_of resource rs ≡ o → option_and_then (λ (r : PlayRecord). cond r.forgotten None (Some r.entry)) o ≡ Some e → (p : PlayRecord) × (last_of resource rs ≡ Some p) × (p.forgotten ≡ false) × (p.entry ≡ e)
    by None f h = absurd (none h)
      where
        none : None ≡ Some e → ⊥
        none e = cc
    by (Some p) f h = mark p.forgotten refl h
      where
        mark : (b : Bool) → p.forgotten ≡ b → cond b None (Some p.entry) ≡ Some e → (p : PlayRecord) × (last_of resource rs ≡ Some p) × (p.forgotten ≡ false) × (p.entry ≡ e)
        mark true g h = absurd (none h)
          where
            none : None ≡ Some e → ⊥
            none e = cc
        mark false g h = let same : p.entry ≡ e = cc in (p, f, g, same)

-- a change

module _ (first : OutsideRows) (resource key : List ℕ) (old new : ℕ) (a b : Outer) (is : IsOuter first a) (c : IsChange resource key old new a b) where
  set-is : (r k : List ℕ) (t : Bool) → (bytes_eq r resource && bytes_eq k key) ≡ t → b.amounts r k ≡ cond t (Some new) (a.amounts r k)
  set-is r k t e = c.amounts r k ∙ ap (λ t. cond t (Some new) (a.amounts r k)) e

  change-records : (r : List ℕ) → records_of r b.records ≡ records_of r a.records ++ cond (bytes_eq resource r && true) ((new_record (outside_row resource key) old new a.records).entry ∷ []) []
  change-records r = ap (records_of r) c.records ∙ records-append r a.records (new_record (outside_row resource key) old new a.records ∷ [])

  change-chain : (r : List ℕ) → IsChain (first r) (stack_of r b.records) (b.amounts r)
  change-chain r = by (bytes_eq resource r) refl
    where
      by : (t : Bool) → bytes_eq resource r ≡ t → IsChain (first r) (stack_of r b.records) (b.amounts r)
      by true e =
          let same : r ≡ resource = sym (bytes-same resource r e) in
          let stack : stack_of r b.records ≡ (new_record (outside_row resource key) old new a.records).entry ∷ stack_of r a.records =
          ap reverse (change-records r ∙ ap (λ t. records_of r a.records ++ cond (t && true) ((new_record (outside_row resource key) old new a.records).entry ∷ []) []) e) ∙ reverse-append (records_of r a.records) ((new_record (outside_row resource key) old new a.records).entry ∷ []) in
          let here : bytes_eq r resource ≡ true = bytes-flip resource r true e in
          subst (λ rs. IsChain (first r) rs (b.amounts r)) (sym stack) (
            set-is r key true (and_from (bytes_eq r resource) _ here (bytes-itself key)),
            chain-same (first r) (stack_of r a.records) (a.amounts r) (λ k. cond (bytes_eq k key) (Some old) (b.amounts r k)) (λ k. back k (bytes_eq k key) refl here same) (is.chain r),
          )
        where
          back : (k : List ℕ) (t : Bool) → bytes_eq k key ≡ t → bytes_eq r resource ≡ true → r ≡ resource → cond (bytes_eq k key) (Some old) (b.amounts r k) ≡ a.amounts r k
          back k true f here same = ap (λ t. cond t (Some old) (b.amounts r k)) f ∙ sym ((λ i. a.amounts (same i) (bytes-same k key f i)) ∙ c.there)
          back k false f here same = ap (λ t. cond t (Some old) (b.amounts r k)) f ∙ set-is r k false (and_right (bytes_eq r resource) _ f)
      by false e =
          let stack : stack_of r b.records ≡ stack_of r a.records = ap reverse (change-records r ∙ ap (λ t. records_of r a.records ++ cond (t && true) ((new_record (outside_row resource key) old new a.records).entry ∷ []) []) e ∙ append-nil (records_of r a.records)) in
          subst (λ rs. IsChain (first r) rs (b.amounts r)) (sym stack) (chain-same (first r) (stack_of r a.records) (a.amounts r) (b.amounts r) (λ k. set-is r k false (and_left (bytes_eq r resource) _ (bytes-flip resource r false e))) (is.chain r))

  pub change-outer : IsOuter first b
  change-outer = record {
    numbers = λ r. subst (λ rs. AreNumbers 1 (numbers_of r rs)) (sym c.records) (numbers-more r a.records (new_record (outside_row resource key) old new a.records) (is.numbers r) (λ e. ap (λ w. count_by (is_of w) a.records + 1) (bytes-same resource r e)));
    chain = change-chain;
    there = λ r k. there r k (bytes_eq r resource && bytes_eq k key) refl;
  }
    where
      there : (r k : List ℕ) (t : Bool) → (bytes_eq r resource && bytes_eq k key) ≡ t → is_some (b.amounts r k) ≡ is_some (first r k)
      there r k true e =
          let parts = and_parts (bytes_eq r resource) _ e in
          ap is_some (set-is r k true e) ∙ sym (ap is_some ((λ i. a.amounts (bytes-same r resource parts.0 i) (bytes-same k key parts.1 i)) ∙ c.there)) ∙ is.there r k
      there r k false e = ap is_some (set-is r k false e) ∙ is.there r k

-- a retract

module _ (first : OutsideRows) (resource : List ℕ) (a b : Outer) (is : IsOuter first a) (c : IsRetract resource a b) where
  put-is : (r k : List ℕ) (t : Bool) → (bytes_eq r resource && bytes_eq k c.entry.key) ≡ t → b.amounts r k ≡ cond t (Some (c.entry.old)) (a.amounts r k)
  put-is r k t e = c.amounts r k ∙ ap (λ t. cond t (Some (c.entry.old)) (a.amounts r k)) e

  retract-split : records_of resource a.records ≡ records_of resource b.records ++ c.entry ∷ []
  retract-split =
      let kept = kept-is resource a.records c.entry c.last in
      last-split resource 1 a.records kept.0 (is.numbers resource) kept.1 kept.2
      ∙ (λ i. records_of resource (forget resource (kept.3 i).seq a.records) ++ kept.3 i ∷ [])
      ∙ ap (λ l. records_of resource l ++ c.entry ∷ []) (sym c.records)

  retract-chain : (r : List ℕ) → IsChain (first r) (stack_of r b.records) (b.amounts r)
  retract-chain r = by (bytes_eq resource r) refl
    where
      by : (t : Bool) → bytes_eq resource r ≡ t → IsChain (first r) (stack_of r b.records) (b.amounts r)
      by true e =
          let same : resource ≡ r = bytes-same resource r e in
          let stack : stack_of resource a.records ≡ c.entry ∷ stack_of resource b.records = ap reverse retract-split ∙ reverse-append (records_of resource b.records) (c.entry ∷ []) in
          let whole : IsChain (first resource) (c.entry ∷ stack_of resource b.records) (a.amounts resource) = subst (λ rs. IsChain (first resource) rs (a.amounts resource)) stack (is.chain resource) in
          subst (λ w. IsChain (first w) (stack_of w b.records) (b.amounts w)) same
          (chain-same (first resource) (stack_of resource b.records) (λ k. cond (bytes_eq k c.entry.key) (Some (c.entry.old)) (a.amounts resource k)) (b.amounts resource) (λ k. put-is resource k (bytes_eq k c.entry.key) (ap (λ t. t && bytes_eq k c.entry.key) (bytes-itself resource))) whole.1)
      by false e =
          let stack : stack_of r b.records ≡ stack_of r a.records = ap reverse (ap (records_of r) c.records ∙ other-forgets r resource c.entry.seq a.records e) in
          subst (λ rs. IsChain (first r) rs (b.amounts r)) (sym stack) (chain-same (first r) (stack_of r a.records) (a.amounts r) (b.amounts r) (λ k. put-is r k false (and_left (bytes_eq r resource) _ (bytes-flip resource r false e))) (is.chain r))

  pub retract-outer : IsOuter first b
  retract-outer = record {
    numbers = λ r. subst (λ rs. AreNumbers 1 (numbers_of r rs)) (sym c.records) (subst (AreNumbers 1) (sym (numbers-forget r resource c.entry.seq a.records)) (is.numbers r));
    chain = retract-chain;
    there = λ r k. there r k (bytes_eq r resource && bytes_eq k c.entry.key) refl;
  }
    where
      there : (r k : List ℕ) (t : Bool) → (bytes_eq r resource && bytes_eq k c.entry.key) ≡ t → is_some (b.amounts r k) ≡ is_some (first r k)
      there r k true e =
          let parts = and_parts (bytes_eq r resource) _ e in
          ap is_some (put-is r k true e) ∙ sym ((λ i. is_some (a.amounts (bytes-same r resource parts.0 i) (bytes-same k c.entry.key parts.1 i))) ∙ c.there) ∙ is.there r k
      there r k false e = ap is_some (put-is r k false e) ∙ is.there r k

pub effect-outer : (first : OutsideRows) (e : Effect) (a b : Outer) → IsOuter first a → IsEffect e a b → IsOuter first b
effect-outer first (Change resource key old new) a b is c = change-outer first resource key old new a b is c
effect-outer first (Retract resource) a b is c = retract-outer first resource a b is c

pub same-outer : (first : OutsideRows) (a b : Outer) → IsSame a b → IsOuter first a → IsOuter first b
same-outer first a b s is = record {
  numbers = λ r. subst (λ rs. AreNumbers 1 (numbers_of r rs)) (sym s.records) (is.numbers r);
  chain = λ r. subst (λ rs. IsChain (first r) (stack_of r rs) (b.amounts r)) (sym s.records) (chain-same (first r) (stack_of r a.records) (a.amounts r) (b.amounts r) (λ k. s.amounts r k) (is.chain r));
  there = λ r k. ap is_some (s.amounts r k) ∙ is.there r k;
}

pub leads-outer : (first : OutsideRows) (es : List Effect) (a b : Outer) → IsOuter first a → LeadsTo a es b → IsOuter first b
leads-outer first [] a b is leads = same-outer first a b leads is
leads-outer first (e ∷ es) a b is leads = leads-outer first es leads.0 b (effect-outer first e a leads.0 is leads.1) leads.2

-- effects joined

same-before : (e : Effect) (a b c : Outer) → IsSame a b → IsEffect e b c → IsEffect e a c
same-before (Change resource key old new) a b c s h = record {
  there = sym (s.amounts resource key) ∙ h.there;
  records = h.records ∙ (λ i. s.records i ++ new_record (outside_row resource key) old new (s.records i) ∷ []);
  amounts = λ r k. h.amounts r k ∙ ap (λ o. cond (bytes_eq r resource && bytes_eq k key) (Some new) o) (s.amounts r k);
}
same-before (Retract resource) a b c s h = record {
  entry = h.entry;
  last = ap (kept_last resource) (sym s.records) ∙ h.last;
  there = ap is_some (sym (s.amounts resource h.entry.key)) ∙ h.there;
  records = h.records ∙ ap (forget resource h.entry.seq) s.records;
  amounts = λ r k. h.amounts r k ∙ ap (λ o. cond (bytes_eq r resource && bytes_eq k h.entry.key) (Some (h.entry.old)) o) (s.amounts r k);
}

pub same-itself : (a : Outer) → IsSame a a
same-itself a = record { records = refl; amounts = λ r k. refl }

pub same-through : (a b c : Outer) → IsSame a b → IsSame b c → IsSame a c
same-through a b c s t = record { records = t.records ∙ s.records; amounts = λ r k. t.amounts r k ∙ s.amounts r k }

pub leads-same : (es : List Effect) (a b c : Outer) → LeadsTo a es b → IsSame b c → LeadsTo a es c
leads-same [] a b c leads s = same-through a b c leads s
leads-same (e ∷ es) a b c leads s = (leads.0, leads.1, leads-same es leads.0 b c leads.2 s)

pub leads-push : (es : List Effect) (e : Effect) (a b c : Outer) → LeadsTo a es b → IsEffect e b c → LeadsTo a (es ++ e ∷ []) c
leads-push [] e a b c leads h = (c, same-before e a b c leads h, same-itself c)
leads-push (x ∷ es) e a b c leads h = (leads.0, leads.1, leads-push es e leads.0 b c leads.2 h)
