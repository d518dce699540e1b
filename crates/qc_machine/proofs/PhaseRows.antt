-- What the phase of an attempt makes of a row: what the puts of its resource's records make of it.
use Rattle.std.proofs.Common.{◌≡◌, ◌∙◌, ℕ, List, [], ◌∷◌, ◌++◌, Bool, true, false, not, cond, ◌&&◌, ◌||◌, map, filter_map, flat_map, reverse, refl, sym, ap, true≢false, Option, Some, None, is_some}
use Rattle.std.specs.List.{list_any, cons_option}
use Rattle.std.specs.Option.{option_map_or}
use Rattle.std.specs.Str.{bytes_eq}
use Rattle.std.proofs.lemmas.Bool.{and_parts, and_left, and_right, or_parts, not-true}
use Rattle.qc_base.specs.declared.log_line.LogLine.{LogLine}
use Rattle.qc_base.specs.declared.log_line.LogRecord.{LogRecord}
use Rattle.qc_base.specs.LogLines.{unforgotten}
use Rattle.qc_base.specs.Rows.{OutsideRows, set_row, put_row}
use Rattle.qc_catalogue.specs.declared.catalogue.Catalogue.{Catalogue}
use Rattle.qc_catalogue.specs.declared.catalogue.Resource.{Resource}
use Rattle.qc_catalogue.specs.Lookup.{resource_named}
use Rattle.qc_catalogue.specs.Orderly.{are_apart}
use Rattle.qc_catalogue.proofs.Lookups.{found_name}
use Rattle.qc_play.proofs.OuterLaws.{bytes-same, bytes-itself}
use Rattle.crm_driver.specs.Puts.{RowPut}
use Rattle.crm_driver.specs.RowRules.{put_of, rules_of}
use Rattle.crm_recovery.specs.Settling.{puts_of, registration_puts, rows_after}
use Rattle.qc_machine.specs.Finishable.{has_key, registration_in}
use Rattle.qc_machine.proofs.PutRows.{put-other, puts-alike, puts-behind}

-- puts of records of one resource

abbrev pub old_of : LogRecord → ℕ
old_of r = r.old

abbrev pub new_of : LogRecord → ℕ
new_of r = r.new

abbrev pub each_put : (LogRecord → ℕ) → List ℕ → List LogRecord → List RowPut
each_put amount resource records = map (λ (r : LogRecord). put_of resource r.key (amount r)) records

none-given : {X Y : Type 0} (f : X → Option Y) → ((x : X) → f x ≡ None) → (xs : List X) → filter_map f xs ≡ []
none-given f none [] = refl
none-given f none (x ∷ xs) = ap (λ o. cons_option o (filter_map f xs)) (none x) ∙ none-given f none xs

all-given : {X Y : Type 0} (f : X → Option Y) (g : X → Y) → ((x : X) → f x ≡ Some (g x)) → (xs : List X) → filter_map f xs ≡ map g xs
all-given f g all [] = refl
all-given f g all (x ∷ xs) = ap (λ o. cons_option o (filter_map f xs)) (all x) ∙ ap (λ ys. g x ∷ ys) (all-given f g all xs)

-- a late resource's by a commit, an early one's by an abort
abbrev pub phase_put : Bool → Bool → List ℕ → List LogRecord → List RowPut
phase_put committed early resource records =
    cond committed (cond early [] (each_put new_of resource records)) (cond early (each_put old_of resource (reverse records)) [])

pub puts-by : (x : Resource) (committed early : Bool) (records : List LogRecord) → x.early ≡ early → puts_of x committed records ≡ phase_put committed early x.name records
puts-by x true true records e = none-given (rules_of x).commit_put (λ r. ap (λ b. cond b None (Some (put_of x.name r.key r.new))) e) records
puts-by x true false records e = all-given (rules_of x).commit_put (λ r. put_of x.name r.key r.new) (λ r. ap (λ b. cond b None (Some (put_of x.name r.key r.new))) e) records
puts-by x false true records e = all-given (rules_of x).abort_put (λ r. put_of x.name r.key r.old) (λ r. ap (λ b. cond b (Some (put_of x.name r.key r.old)) None) e) (reverse records)
puts-by x false false records e = none-given (rules_of x).abort_put (λ r. ap (λ b. cond b (Some (put_of x.name r.key r.old)) None) e) (reverse records)

pub put-here : (resource key : List ℕ) (n : ℕ) (rows : OutsideRows) (k : List ℕ) → is_some (rows resource key) ≡ true → put_row resource key n rows resource k ≡ cond (bytes_eq k key) (Some n) (rows resource k)
put-here resource key n rows k e = ap (λ b. cond b (set_row resource key n rows) rows resource k) e ∙ ap (λ b. cond (b && bytes_eq k key) (Some n) (rows resource k)) (bytes-itself resource)

module _ (amount : LogRecord → ℕ) (resource : List ℕ) where
  pub put-push : (xs : List LogRecord) (r : LogRecord) (rows : OutsideRows)
      → rows_after (each_put amount resource (xs ++ r ∷ [])) rows ≡ put_row resource r.key (amount r) (rows_after (each_put amount resource xs) rows)
  put-push [] r rows = refl
  put-push (x ∷ xs) r rows = put-push xs r (put_row resource x.key (amount x) rows)

  -- a row without a record stays
  pub unput : (rs : List LogRecord) (rows : OutsideRows) (k : List ℕ) → has_key rs k ≡ false → rows_after (each_put amount resource rs) rows resource k ≡ rows resource k
  unput [] rows k none = refl
  unput (r ∷ rs) rows k none =
      let parts = or_parts (bytes_eq k r.key) _ none in
      unput rs (put_row resource r.key (amount r) rows) k parts.1 ∙ put-other resource r.key (amount r) rows resource k (and_right (bytes_eq resource resource) _ parts.0)

  -- and so does a row of another resource
  elsewhere : (other : List ℕ) (rs : List LogRecord) (rows : OutsideRows) (k : List ℕ) → bytes_eq other resource ≡ false → rows_after (each_put amount resource rs) rows other k ≡ rows other k
  elsewhere other [] rows k e = refl
  elsewhere other (r ∷ rs) rows k e =
      elsewhere other rs (put_row resource r.key (amount r) rows) k e ∙ put-other resource r.key (amount r) rows other k (and_left (bytes_eq other resource) _ e)

phase-elsewhere : (x : Resource) (committed : Bool) (records : List LogRecord) (other : List ℕ) (rows : OutsideRows) (k : List ℕ) → bytes_eq other x.name ≡ false
    → rows_after (puts_of x committed records) rows other k ≡ rows other k
phase-elsewhere x committed records other rows k e = ap (λ (ps : List RowPut). rows_after ps rows other k) (puts-by x committed x.early records refl) ∙ by committed x.early
  where
    by : (c d : Bool) → rows_after (phase_put c d x.name records) rows other k ≡ rows other k
    by true true = refl
    by true false = elsewhere new_of x.name other records rows k e
    by false true = elsewhere old_of x.name other (reverse records) rows k e
    by false false = refl

module _ (c : Catalogue) (lines : List LogLine) (attempt : ℕ) (committed : Bool) where
  abbrev own_puts : List ℕ → List RowPut
  own_puts name = registration_puts c lines attempt committed (registration_in c name)

  -- the puts of these resources, in order
  abbrev pub named_puts : List (List ℕ) → List RowPut
  named_puts names = flat_map (registration_puts c lines attempt committed) (map (registration_in c) names)

  abbrev puts_found : List ℕ → Option Resource → List RowPut
  puts_found name o = option_map_or (λ (x : Resource). puts_of x committed (unforgotten lines attempt name)) o []

  own-elsewhere : (name r k : List ℕ) (rows : OutsideRows) → bytes_eq r name ≡ false → rows_after (own_puts name) rows r k ≡ rows r k
  own-elsewhere name r k rows e = by (resource_named name c.resources) refl
    where
      by : (o : Option Resource) → resource_named name c.resources ≡ o → rows_after (puts_found name o) rows r k ≡ rows r k
      by None f = refl
      by (Some x) f =
          phase-elsewhere x committed (unforgotten lines attempt name) r rows k (ap (bytes_eq r) (found_name (λ (x : Resource). x.name) name c.resources x f) ∙ e)

  first-then : (name : List ℕ) (names : List (List ℕ)) (rows : OutsideRows) → rows_after (named_puts (name ∷ names)) rows ≡ rows_after (named_puts names) (rows_after (own_puts name) rows)
  first-then name names rows = puts-behind (own_puts name) (named_puts names) rows

  -- the row of a resource that isn't among them stays
  pub unnamed-rows : (names : List (List ℕ)) (rows : OutsideRows) (r k : List ℕ) → list_any (bytes_eq r) names ≡ false → rows_after (named_puts names) rows r k ≡ rows r k
  unnamed-rows [] rows r k e = refl
  unnamed-rows (name ∷ names) rows r k e =
      let parts = or_parts (bytes_eq r name) _ e in
      ap (λ (f : OutsideRows). f r k) (first-then name names rows) ∙ unnamed-rows names (rows_after (own_puts name) rows) r k parts.1 ∙ own-elsewhere name r k rows parts.0

  -- that of a resource among them is as its own puts leave it
  pub named-rows : (names : List (List ℕ)) (rows : OutsideRows) (r k : List ℕ) (x : Resource) → are_apart names ≡ true → list_any (bytes_eq r) names ≡ true → resource_named r c.resources ≡ Some x
      → rows_after (named_puts names) rows r k ≡ rows_after (puts_of x committed (unforgotten lines attempt r)) rows r k
  named-rows [] rows r k x apart here found = absurd (true≢false (sym here))
  named-rows (name ∷ names) rows r k x apart here found =
      ap (λ (f : OutsideRows). f r k) (first-then name names rows) ∙ by (bytes_eq r name) refl here (λ next h. named-rows names next r k x parts.1 h found)
    where
      parts : (not (list_any (bytes_eq name) names) ≡ true) × (are_apart names ≡ true)
      parts = and_parts (not (list_any (bytes_eq name) names)) _ apart

      by : (b : Bool) → bytes_eq r name ≡ b → (b || list_any (bytes_eq r) names) ≡ true
          → ((next : OutsideRows) → list_any (bytes_eq r) names ≡ true → rows_after (named_puts names) next r k ≡ rows_after (puts_of x committed (unforgotten lines attempt r)) next r k)
          → rows_after (named_puts names) (rows_after (own_puts name) rows) r k ≡ rows_after (puts_of x committed (unforgotten lines attempt r)) rows r k
      by true e h on =
          let same : r ≡ name = bytes-same r name e in
          let none : list_any (bytes_eq r) names ≡ false = ap (λ w. list_any (bytes_eq w) names) same ∙ not-true _ parts.0 in
          unnamed-rows names (rows_after (own_puts name) rows) r k none
          ∙ (λ i. rows_after (own_puts (sym same i)) rows r k)
          ∙ ap (λ (o : Option Resource). rows_after (puts_found r o) rows r k) found
      by false e h on =
          on (rows_after (own_puts name) rows) h
          ∙ puts-alike (puts_of x committed (unforgotten lines attempt r)) rows (rows_after (own_puts name) rows) r k (own-elsewhere name r k rows e)
