-- What the log and the outside rows have of an attempt, from its first call to its end.
use Rattle.std.specs.Prelude.{◌≡◌, ◌<◌, ℕ, List, [], ◌∷◌, ◌++◌, All, map, count_by, Bool, true, false, not, ◌||◌, ◌==◌, Some, is_some}
use Rattle.std.specs.List.{list_any, list_all}
use Rattle.qc_base.specs.Rows.{OutsideRows}
use Rattle.qc_base.specs.declared.log_line.LogLine.{LogLine}
use Rattle.qc_base.specs.declared.log_line.LogLine.TheVariants.{Opened, Forgot}
use Rattle.qc_base.specs.declared.recording.Row.{Row}
use Rattle.qc_base.specs.LogLines.{Entry, entries, forgets_entry, is_done, is_forgotten, is_opened, registrations}
use Rattle.qc_script.specs.Naming.{names_with}
use Rattle.qc_catalogue.specs.declared.catalogue.Catalogue.{Catalogue}
use Rattle.qc_catalogue.specs.declared.catalogue.Resource.{Resource}
use Rattle.qc_catalogue.specs.Lookup.{resource_named}
use Rattle.qc_play.specs.declared.record.PlayRecord.{PlayRecord}
use Rattle.qc_play.specs.Effects.{Outer, outer_of, IsOuter}
use Rattle.qc_play.specs.Play.{is_of, outside_row}
use Rattle.qc_machine.specs.Finishable.{is_late, registration_in}
use Rattle.qc_machine.specs.Holding.{has_row}
use Rattle.qc_machine.specs.LogAndRows.{LogAndRows, lines_of}
use Rattle.qc_machine.specs.OwnLines.{is_own}
use Rattle.qc_machine.specs.Underway.{Underway}

abbrev pub entry_of : PlayRecord → Entry
entry_of p = record { resource = p.resource; entry = p.entry }

-- an opened line of the attempt has its message
abbrev pub opens_as : ℕ → ℕ → LogLine → Bool
opens_as attempt id (Opened a i) = not (a == attempt) || (i == id)
opens_as attempt id _ = true

-- the resources of records, in order of their first
abbrev pub names_of : List PlayRecord → List (List ℕ)
names_of records = names_with [] (map (λ (r : PlayRecord). r.resource) records)

abbrev pub is_empty : List PlayRecord → Bool
is_empty [] = true
is_empty (r ∷ records) = false

-- The lines say of an attempt exactly what its play records say.
pub record IsLogged (c : Catalogue) (lines : List LogLine) (attempt id : ℕ) (records : List PlayRecord) : Type 0 where
  pub opened : is_opened lines attempt ≡ not (is_empty records)
  pub undone : is_done lines attempt ≡ false
  pub ids : list_all (opens_as attempt id) lines ≡ true
  pub entries : entries lines attempt ≡ map entry_of records
  pub forgotten : All (λ (p : PlayRecord). is_forgotten lines attempt (entry_of p) ≡ p.forgotten) records
  -- no line forgets a record that is still to come
  pub fresh : (resource : List ℕ) (n : ℕ) → count_by (is_of resource) records < n
      → list_any (forgets_entry attempt resource n) lines ≡ false
  pub registered : registrations lines attempt ≡ map (registration_in c) (names_of records)
  pub known : All (λ (p : PlayRecord). is_some (resource_named p.resource c.resources) ≡ true) records

-- The log has what the records say, and the attempt's rows stand so: those of an early resource as the attempt sees
-- them, the others as they were at first.
pub record IsCarried (c : Catalogue) (o : LogAndRows) (attempt id : ℕ) (rows : List Row) (first : OutsideRows) (st : Outer) : Type 0 where
  pub logged : IsLogged c (lines_of o) attempt id st.records
  pub early : (r k : List ℕ) → is_late c r ≡ false → has_row rows (outside_row r k) ≡ true → o.rows r k ≡ st.amounts r k
  pub late : (r k : List ℕ) → is_late c r ≡ true → has_row rows (outside_row r k) ≡ true → o.rows r k ≡ first r k

-- what an attempt sees outside at first is of resources that the catalogue has, and is among the attempt's rows
pub record AreKnown (c : Catalogue) (rows : List Row) (first : OutsideRows) : Type 0 where
  pub resource : (r k : List ℕ) → is_some (first r k) ≡ true → (x : Resource) × (resource_named r c.resources ≡ Some x)
  pub row : (r k : List ℕ) → is_some (first r k) ≡ true → has_row rows (outside_row r k) ≡ true

-- Between its calls: its records lead from the first outside amounts to those that it sees, and are carried out.
pub record IsCarriedSoFar (c : Catalogue) (rows : List Row) (first : OutsideRows) (x : Underway) : Type 0 where
  pub outer : IsOuter first (outer_of x.held.play)
  pub carried : IsCarried c x.site x.held.attempt x.held.id rows first (outer_of x.held.play)

-- The attempt's own lines are all that the log has more, and no row changed but those that it has.
pub record LeavesOthers (attempt : ℕ) (rows : List Row) (o after : LogAndRows) : Type 0 where
  pub more : List LogLine
  pub lines : lines_of after ≡ lines_of o ++ more
  pub own : list_all (is_own attempt) more ≡ true
  pub rows_stay : (r k : List ℕ) → has_row rows (outside_row r k) ≡ false → after.rows r k ≡ o.rows r k

-- It went on, still with its effects carried out, and left what isn't its own as it was.
pub record HasGoneOn (c : Catalogue) (rows : List Row) (first : OutsideRows) (x after : Underway) : Type 0 where
  pub attempt : after.held.attempt ≡ x.held.attempt
  pub id : after.held.id ≡ x.held.id
  pub so_far : IsCarriedSoFar c rows first after
  pub leaves : LeavesOthers x.held.attempt rows x.site after.site

abbrev pub forgot_by : ℕ → LogLine → Bool
forgot_by attempt (Forgot a resource seq) = a == attempt
forgot_by attempt _ = false

-- All that the log has more are records of the attempt that are forgotten, and no row changed.
pub record OnlyForgets (attempt : ℕ) (o after : LogAndRows) : Type 0 where
  pub more : List LogLine
  pub lines : lines_of after ≡ lines_of o ++ more
  pub only : list_all (forgot_by attempt) more ≡ true
  pub same_rows : after.rows ≡ o.rows
