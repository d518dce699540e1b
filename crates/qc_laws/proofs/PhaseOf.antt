-- The phase of an attempt leads its rows to the last amounts, or back to the first ones.
use Rattle.std.proofs.Common.{◌≡◌, ◌∙◌, inl, ℕ, ◌==◌, List, [], ◌∷◌, ◌++◌, All, Bool, true, false, not, cond, ◌&&◌, ◌||◌, map, filter, reverse, refl, sym, ap, subst, true≢false, Option, Some, None, is_some, append-nil}
use Rattle.std.proofs.Math.Logic.{⊎_elim}
use Rattle.std.specs.List.{list_any}
use Rattle.std.specs.Str.{bytes_eq}
use Rattle.std.proofs.lemmas.Bool.{and_left, and_right, or_left, or_parts, or_right}
use Rattle.std.proofs.lemmas.List.Elements.{All-head, All-tail}
use Rattle.std.proofs.lemmas.List.Folds.{list_any-append}
use Rattle.qc_base.specs.declared.log_line.LogLine.{LogLine}
use Rattle.qc_base.specs.declared.log_line.LogLine.TheVariants.{Done}
use Rattle.qc_base.specs.declared.log_line.LogRecord.{LogRecord}
use Rattle.qc_base.specs.declared.recording.Row.{Row}
use Rattle.qc_base.specs.Rows.{OutsideRows}
use Rattle.qc_base.specs.LogLines.{is_done, is_opened, is_unfinished, registrations, unforgotten}
use Rattle.qc_catalogue.specs.declared.catalogue.Catalogue.{Catalogue}
use Rattle.qc_catalogue.specs.declared.catalogue.Resource.{Resource}
use Rattle.qc_catalogue.specs.Lookup.{resource_named}
use Rattle.qc_script.specs.Naming.{names_with}
use Rattle.crm_recovery.specs.Settling.{phase_puts, rows_after}
use Rattle.qc_play.specs.declared.record.PlayRecord.{PlayRecord}
use Rattle.qc_play.specs.Play.{outside_row}
use Rattle.qc_play.specs.Effects.{Outer, amounts_in, outer_of, records_of, IsChain, IsOuter}
use Rattle.qc_play.proofs.OuterLaws.{bytes-same, bytes-flip}
use Rattle.qc_machine.specs.Finishable.{has_key, is_late, registration_in, IsFinishable}
use Rattle.qc_machine.specs.Holding.{has_row}
use Rattle.qc_machine.specs.LogAndRows.{LogAndRows, lines_of, with_lines, with_puts}
use Rattle.qc_machine.specs.Underway.{Underway, at_end, done_where, phased}
use Rattle.qc_machine.proofs.Finishing.{chain-none, finished, finished-beside}
use Rattle.qc_laws.specs.Logged.{names_of, AreKnown, IsCarriedSoFar}
use Rattle.qc_laws.proofs.Carried.{lines-forced, lines-with, rows-forced}
use Rattle.qc_laws.proofs.Forgetting.{end-forgets, says-of}
use Rattle.qc_laws.proofs.LineWords.{done-append, itself, or-false, registrations-append}
use Rattle.qc_laws.proofs.Thinning.{IsThin, changes_row, chain-thinned, end-thin, filter-reverse}
use Rattle.qc_laws.proofs.Votes.{names-apart, unforgotten-is}

-- the resources of records

pub some-known : (c : Catalogue) (r : List ℕ) (rs : List PlayRecord) → All (λ (p : PlayRecord). is_some (resource_named p.resource c.resources) ≡ true) rs → list_any (λ (p : PlayRecord). bytes_eq r p.resource) rs ≡ true → is_some (resource_named r c.resources) ≡ true
some-known c r [] all e = absurd (true≢false (sym e))
some-known c r (p ∷ rs) all e = by (bytes_eq r p.resource) refl e (some-known c r rs (All-tail (λ (p : PlayRecord). is_some (resource_named p.resource c.resources) ≡ true) p rs all))
  where
    by : (b : Bool) → bytes_eq r p.resource ≡ b → (b || list_any (λ (p : PlayRecord). bytes_eq r p.resource) rs) ≡ true → (list_any (λ (p : PlayRecord). bytes_eq r p.resource) rs ≡ true → is_some (resource_named r c.resources) ≡ true) → is_some (resource_named r c.resources) ≡ true
    by true f e on = ap (λ w. is_some (resource_named w c.resources)) (bytes-same r p.resource f) ∙ All-head (λ (p : PlayRecord). is_some (resource_named p.resource c.resources) ≡ true) p rs all
    by false f e on = on e

any-with : (r : List ℕ) (names more : List (List ℕ)) → list_any (bytes_eq r) (names_with names more) ≡ (list_any (bytes_eq r) names || list_any (bytes_eq r) more)
any-with r names [] = sym (or-false (list_any (bytes_eq r) names))
any-with r names (x ∷ more) = any-with r (cond (list_any (bytes_eq x) names) names (names ++ x ∷ [])) more ∙ by (list_any (bytes_eq x) names) refl
  where
    assoc : (a b c : Bool) → ((a || (b || false)) || c) ≡ (a || (b || c))
    assoc true b c = refl
    assoc false true c = refl
    assoc false false c = refl

    by : (b : Bool) → list_any (bytes_eq x) names ≡ b → (list_any (bytes_eq r) (cond b names (names ++ x ∷ [])) || list_any (bytes_eq r) more) ≡ (list_any (bytes_eq r) names || (bytes_eq r x || list_any (bytes_eq r) more))
    by true e = among (bytes_eq r x) refl
      where
        among : (d : Bool) → bytes_eq r x ≡ d → (list_any (bytes_eq r) names || list_any (bytes_eq r) more) ≡ (list_any (bytes_eq r) names || (bytes_eq r x || list_any (bytes_eq r) more))
        among true f =
            let there : list_any (bytes_eq r) names ≡ true = ap (λ w. list_any (bytes_eq w) names) (bytes-same r x f) ∙ e in
            ap (λ b. b || list_any (bytes_eq r) more) there ∙ sym (ap (λ b. b || (bytes_eq r x || list_any (bytes_eq r) more)) there)
        among false f = sym (ap (λ d. list_any (bytes_eq r) names || (d || list_any (bytes_eq r) more)) f)
    by false e = ap (λ b. b || list_any (bytes_eq r) more) (list_any-append (bytes_eq r) names (x ∷ [])) ∙ assoc (list_any (bytes_eq r) names) (bytes_eq r x) (list_any (bytes_eq r) more)

pub any-names : (r : List ℕ) (rs : List PlayRecord) → list_any (bytes_eq r) (names_of rs) ≡ list_any (λ (p : PlayRecord). bytes_eq r p.resource) rs
any-names r rs = any-with r [] (map (λ (p : PlayRecord). p.resource) rs) ∙ over rs
  where
    over : (rs : List PlayRecord) → list_any (bytes_eq r) (map (λ (p : PlayRecord). p.resource) rs) ≡ list_any (λ (p : PlayRecord). bytes_eq r p.resource) rs
    over [] = refl
    over (p ∷ rs) = ap (λ b. bytes_eq r p.resource || b) (over rs)

pub no-records : (r : List ℕ) (rs : List PlayRecord) → list_any (λ (p : PlayRecord). bytes_eq r p.resource) rs ≡ false → records_of r rs ≡ []
no-records r [] e = refl
no-records r (p ∷ rs) e =
    let parts = or_parts (bytes_eq r p.resource) _ e in
    ap (λ b. cond (b && not p.forgotten) (p.entry ∷ records_of r rs) (records_of r rs)) (bytes-flip r p.resource false parts.0) ∙ no-records r rs parts.1

-- a phase puts its rows, and behind it the attempt isn't unfinished

pub rows-phased : (c : Catalogue) (n : ℕ) (committed : Bool) (o : LogAndRows) → (phased c n committed o).rows ≡ rows_after (phase_puts c (lines_of o) n committed) o.rows
rows-phased c n committed o = by (is_opened (lines_of o) n)
  where
    by : (b : Bool) → (done_where b n (with_puts (phase_puts c (lines_of o) n committed) o)).rows ≡ rows_after (phase_puts c (lines_of o) n committed) o.rows
    by true = rows-forced (with_lines (Done n ∷ []) (with_puts (phase_puts c (lines_of o) n committed) o))
    by false = refl

pub phase-finishes : (c : Catalogue) (n : ℕ) (committed : Bool) (o : LogAndRows) → is_unfinished (lines_of (phased c n committed o)) n ≡ false
phase-finishes c n committed o = by (is_opened (lines_of o) n) refl
  where
    by : (b : Bool) → is_opened (lines_of o) n ≡ b → is_unfinished (lines_of (done_where b n (with_puts (phase_puts c (lines_of o) n committed) o))) n ≡ false
    by false e = and_left (is_opened (lines_of o) n) (not (is_done (lines_of o) n)) e
    by true e =
        let put : LogAndRows = with_puts (phase_puts c (lines_of o) n committed) o in
        ap (λ l. is_unfinished l n) (lines-forced (with_lines (Done n ∷ []) put) ∙ lines-with (Done n ∷ []) put)
        ∙ and_right (is_opened (lines_of o ++ Done n ∷ []) n) _ (ap not (done-append (lines_of o) (Done n ∷ []) n ∙ or_right (is_done (lines_of o) n) _ (or_left (n == n) false (itself n))))

-- a row with a record is there

chain-some : (first : List ℕ → Option ℕ) (rs : List LogRecord) (now : List ℕ → Option ℕ) (k : List ℕ) → IsChain first rs now → has_key rs k ≡ true → is_some (now k) ≡ true
chain-some first [] now k c e = absurd (true≢false (sym e))
chain-some first (r ∷ rs) now k c e = by (bytes_eq k r.key) refl e (chain-some first rs (λ k. cond (bytes_eq k r.key) (Some r.old) (now k)) k c.1)
  where
    by : (b : Bool) → bytes_eq k r.key ≡ b → (b || has_key rs k) ≡ true → (has_key rs k ≡ true → is_some (cond (bytes_eq k r.key) (Some r.old) (now k)) ≡ true) → is_some (now k) ≡ true
    by true f e on = ap (λ w. is_some (now w)) (bytes-same k r.key f) ∙ ap is_some c.0
    by false f e on = sym (ap (λ b. is_some (cond b (Some r.old) (now k))) f) ∙ on e

some-of : (o : Option Resource) → is_some o ≡ true → (x : Resource) × (o ≡ Some x)
some-of (Some x) e = (x, refl)
some-of None e = absurd (true≢false (sym e))

-- what is carried can be finished, also where the log has only those records that change a row

finishable-by : (c : Catalogue) (lines : List LogLine) (here : OutsideRows) (n : ℕ) (rows : List Row) (first : OutsideRows) (st : Outer) (committed : Bool) → AreKnown c rows first → IsOuter first st
    → registrations lines n ≡ map (registration_in c) (names_of st.records) → All (λ (p : PlayRecord). is_some (resource_named p.resource c.resources) ≡ true) st.records → IsThin n st.records lines
    → ((r k : List ℕ) → is_late c r ≡ false → has_row rows (outside_row r k) ≡ true → here r k ≡ st.amounts r k) → ((r k : List ℕ) → is_late c r ≡ true → has_row rows (outside_row r k) ≡ true → here r k ≡ first r k)
    → IsFinishable c lines here n rows first st.amounts committed
finishable-by c lines here n rows first st committed known outer registered all thin early late = record {
  names = names_of st.records;
  registered = registered;
  apart = names-apart st.records;
  known = λ r e. some-of (resource_named r c.resources) (some-known c r st.records all (sym (any-names r st.records) ∙ e));
  none = λ r e.
      let empty : records_of r st.records ≡ [] = no-records r st.records (sym (any-names r st.records) ∙ e) in
      ⊎_elim (λ (f : unforgotten lines n r ≡ records_of r st.records). f ∙ empty) (λ (f : unforgotten lines n r ≡ filter changes_row (records_of r st.records)). f ∙ ap (filter changes_row) empty) (thin r);
  chain = chain;
  inside = λ r k e. known.row r k (sym (outer.there r k) ∙ e);
  unwritten = λ r k m none. unwritten r k m none (is_late c r) refl;
  there = λ r k m key. there r k m key (is_late c r) refl;
  left = λ r k m e. left r k m committed e;
}
  where
    chain : (r : List ℕ) → IsChain (first r) (reverse (unforgotten lines n r)) (st.amounts r)
    chain r = ⊎_elim
        (λ (f : unforgotten lines n r ≡ records_of r st.records). subst (λ l. IsChain (first r) (reverse l) (st.amounts r)) (sym f) (outer.chain r))
        (λ (f : unforgotten lines n r ≡ filter changes_row (records_of r st.records)). subst (λ l. IsChain (first r) (reverse l) (st.amounts r)) (sym f)
        (subst (λ l. IsChain (first r) l (st.amounts r)) (filter-reverse changes_row (records_of r st.records)) (chain-thinned (first r) (st.amounts r) (reverse (records_of r st.records)) (outer.chain r))))
        (thin r)

    unwritten : (r k : List ℕ) → has_row rows (outside_row r k) ≡ true → has_key (reverse (unforgotten lines n r)) k ≡ false → (b : Bool) → is_late c r ≡ b → here r k ≡ first r k
    unwritten r k m none true e = late r k e m
    unwritten r k m none false e = early r k e m ∙ chain-none (first r) (reverse (unforgotten lines n r)) (st.amounts r) k (chain r) none

    there : (r k : List ℕ) → has_row rows (outside_row r k) ≡ true → has_key (reverse (unforgotten lines n r)) k ≡ true → (b : Bool) → is_late c r ≡ b → is_some (here r k) ≡ true
    there r k m key true e = ap is_some (late r k e m) ∙ sym (outer.there r k) ∙ chain-some (first r) (reverse (unforgotten lines n r)) (st.amounts r) k (chain r) key
    there r k m key false e = ap is_some (early r k e m) ∙ chain-some (first r) (reverse (unforgotten lines n r)) (st.amounts r) k (chain r) key

    left : (r k : List ℕ) → has_row rows (outside_row r k) ≡ true → (d : Bool) → is_late c r ≡ not d → here r k ≡ cond d (st.amounts r k) (first r k)
    left r k m true e = early r k e m
    left r k m false e = late r k e m

module _ (c : Catalogue) (rows : List Row) (first : OutsideRows) (x : Underway) (committed : Bool) (known : AreKnown c rows first) (is : IsCarriedSoFar c rows first x) where
  abbrev n : ℕ
  n = x.held.attempt

  -- as long as calls are left to run
  pub going-finishable : IsFinishable c (lines_of x.site) x.site.rows x.held.attempt rows first (amounts_in x.held.play.view) committed
  going-finishable = finishable-by c (lines_of x.site) x.site.rows x.held.attempt rows first (outer_of x.held.play) committed known is.outer is.carried.logged.registered is.carried.logged.known
      (λ r. inl (unforgotten-is c (lines_of x.site) x.held.attempt x.held.id x.held.play.records is.carried.logged r)) is.carried.early is.carried.late

  -- and once its resources were asked
  pub end-finishable : IsFinishable c (lines_of (at_end c x).left.site) (at_end c x).left.site.rows x.held.attempt rows first (amounts_in x.held.play.view) committed
  end-finishable =
      let forgets = end-forgets c x in
      let registered : registrations (lines_of (at_end c x).left.site) n ≡ map (registration_in c) (names_of x.held.play.records) =
      ap (λ l. registrations l n) forgets.lines ∙ registrations-append (lines_of x.site) forgets.more n ∙ ap (λ gs. registrations (lines_of x.site) n ++ gs) ((says-of n forgets.more forgets.only).registers n)
      ∙ append-nil (registrations (lines_of x.site) n) ∙ is.carried.logged.registered in
      finishable-by c (lines_of (at_end c x).left.site) (at_end c x).left.site.rows x.held.attempt rows first (outer_of x.held.play) committed known is.outer registered is.carried.logged.known
      (end-thin c x is.carried.logged is.outer.numbers)
      (λ r k e m. (λ i. forgets.same_rows i r k) ∙ is.carried.early r k e m) (λ r k e m. (λ i. forgets.same_rows i r k) ∙ is.carried.late r k e m)

  pub phase-own : (r k : List ℕ) → has_row rows (outside_row r k) ≡ true → (phased c x.held.attempt committed (at_end c x).left.site).rows r k ≡ cond committed (amounts_in x.held.play.view r k) (first r k)
  phase-own r k m = (λ i. rows-phased c x.held.attempt committed (at_end c x).left.site i r k)
      ∙ finished c (lines_of (at_end c x).left.site) x.held.attempt rows first (amounts_in x.held.play.view) committed (at_end c x).left.site.rows end-finishable r k m

  pub phase-others : (r k : List ℕ) → has_row rows (outside_row r k) ≡ false → (phased c x.held.attempt committed (at_end c x).left.site).rows r k ≡ x.site.rows r k
  phase-others r k none = (λ i. rows-phased c x.held.attempt committed (at_end c x).left.site i r k)
      ∙ finished-beside c (lines_of (at_end c x).left.site) x.held.attempt rows first (amounts_in x.held.play.view) committed (at_end c x).left.site.rows end-finishable r k none
      ∙ (λ i. (end-forgets c x).same_rows i r k)
