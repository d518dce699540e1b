-- One row of an attempt changes: at once where its resource is early, and only as the attempt sees it where it is late.
use Rattle.std.proofs.Common.{◌≡◌, ◌∙◌, ℕ, List, Bool, true, false, not, cond, ◌&&◌, refl, sym, ap, true≢false, Some, is_some}
use Rattle.std.specs.Option.{option_map_or}
use Rattle.std.specs.Str.{bytes_eq}
use Rattle.std.proofs.lemmas.Bool.{and_parts, and_left, false_from_ne_true}
use Rattle.qc_base.specs.declared.recording.Row.{Row}
use Rattle.qc_base.specs.Rows.{OutsideRows, put_row, set_row}
use Rattle.qc_catalogue.specs.declared.catalogue.Catalogue.{Catalogue}
use Rattle.qc_catalogue.specs.declared.catalogue.Resource.{Resource}
use Rattle.qc_catalogue.specs.Lookup.{resource_named}
use Rattle.qc_play.specs.Play.{outside_row}
use Rattle.qc_play.specs.Effects.{Outer}
use Rattle.qc_play.proofs.OuterLaws.{bytes-same}
use Rattle.qc_machine.specs.Finishable.{is_late}
use Rattle.qc_machine.specs.Holding.{has_row}
use Rattle.qc_machine.specs.LogAndRows.{LogAndRows}
use Rattle.qc_laws.proofs.Logging.{resource-name}
use Rattle.qc_laws.specs.Logged.{IsCarried}

pub record RowsOn (c : Catalogue) (rows : List Row) (first old new : OutsideRows) (st : Outer) : Type 0 where
  pub early : (r k : List ℕ) → is_late c r ≡ false → has_row rows (outside_row r k) ≡ true → new r k ≡ st.amounts r k
  pub late : (r k : List ℕ) → is_late c r ≡ true → has_row rows (outside_row r k) ≡ true → new r k ≡ first r k
  pub others : (r k : List ℕ) → has_row rows (outside_row r k) ≡ false → new r k ≡ old r k

not-itself : (b : Bool) → not b ≡ b → ⊥
not-itself true e = true≢false (sym e)
not-itself false e = true≢false e

module _ (c : Catalogue) (o : LogAndRows) (attempt id : ℕ) (rows : List Row) (first : OutsideRows) (st next : Outer) (is : IsCarried c o attempt id rows first st) (r : Resource) (resource key : List ℕ) (n : ℕ) (found : resource_named resource c.resources ≡ Some r) (here : has_row rows (outside_row resource key) ≡ true) (there : is_some (st.amounts resource key) ≡ true) (changed : (w k : List ℕ) → next.amounts w k ≡ set_row resource key n st.amounts w k) where
  abbrev is_it : List ℕ → List ℕ → Bool
  is_it w k = bytes_eq w resource && bytes_eq k key

  late-here : is_late c resource ≡ not r.early
  late-here = ap (λ o. option_map_or (λ (x : Resource). not x.early) o true) found

  -- a resource that is early where this one is late, or late where it is early, is another
  differs : (w : List ℕ) (b : Bool) → is_late c w ≡ b → not r.early ≡ not b → bytes_eq w resource ≡ false
  differs w b e f = false_from_ne_true (bytes_eq w resource) (λ t. not-itself b (sym (ap (is_late c) (bytes-same w resource t) ∙ late-here ∙ f) ∙ e))

  other : (w k : List ℕ) → has_row rows (outside_row w k) ≡ false → is_it w k ≡ false
  other w k none = false_from_ne_true (is_it w k) (λ t.
      let parts = and_parts (bytes_eq w resource) _ t in
      true≢false (sym here ∙ (λ i. has_row rows (outside_row (sym (bytes-same w resource parts.0) i) (sym (bytes-same k key parts.1) i))) ∙ none))

  by-early : (b : Bool) → r.early ≡ b → RowsOn c rows first o.rows (cond b (put_row r.name key n o.rows) o.rows) next
  by-early true early =
      let stands : is_some (o.rows resource key) ≡ true = ap is_some (is.early resource key (late-here ∙ ap not early) here) ∙ there in
      let put : (w k : List ℕ) → put_row r.name key n o.rows w k ≡ cond (is_it w k) (Some n) (o.rows w k) =
      λ w k. (λ i. put_row (resource-name c resource r found i) key n o.rows w k) ∙ ap (λ b. cond b (set_row resource key n o.rows) o.rows w k) stands in
      record {
        early = λ w k e row. put w k ∙ ap (λ x. cond (is_it w k) (Some n) x) (is.early w k e row) ∙ sym (changed w k);
        late = λ w k e row. put w k ∙ ap (λ b. cond b (Some n) (o.rows w k)) (and_left (bytes_eq w resource) (bytes_eq k key) (differs w true e (ap not early))) ∙ is.late w k e row;
        others = λ w k none. put w k ∙ ap (λ b. cond b (Some n) (o.rows w k)) (other w k none);
      }
  by-early false early = record {
    early = λ w k e row. is.early w k e row
        ∙ sym (changed w k ∙ ap (λ b. cond b (Some n) (st.amounts w k)) (and_left (bytes_eq w resource) (bytes_eq k key) (differs w false e (ap not early))));
    late = is.late;
    others = λ w k none. refl;
  }

  pub rows-on : RowsOn c rows first o.rows (cond r.early (put_row r.name key n o.rows) o.rows) next
  rows-on = by-early r.early refl
