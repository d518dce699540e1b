-- What a crash may leave in the log and the outside rows, for a recovery to finish.
use Rattle.std.specs.Prelude.{◌≡◌, ℕ, nat_lt, List, [], ◌∷◌, map, reverse, Some, is_some}
use Rattle.std.specs.Prelude.{Bool, true, false, not, ◌&&◌, ◌==◌, if◌then◌else◌}
use Rattle.std.specs.List.{list_all, list_any}
use Rattle.std.specs.Option.{option_map_or}
use Rattle.std.specs.Str.{bytes_eq}
use Rattle.qc_base.specs.Rows.{OutsideRows}
use Rattle.qc_base.specs.declared.log_line.LogLine.{LogLine}
use Rattle.qc_base.specs.declared.log_line.LogRecord.{LogRecord}
use Rattle.qc_base.specs.declared.recording.Row.{Row}
use Rattle.qc_base.specs.LogLines.{Registration, registrations, unforgotten}
use Rattle.qc_catalogue.specs.declared.catalogue.Catalogue.{Catalogue}
use Rattle.qc_catalogue.specs.declared.catalogue.Resource.{Resource}
use Rattle.qc_catalogue.specs.Lookup.{resource_named}
use Rattle.qc_catalogue.specs.Orderly.{are_apart}
use Rattle.qc_play.specs.Play.{outside_row}
use Rattle.qc_play.specs.Effects.{IsChain}
use Rattle.qc_rows.specs.Outside.{outside_amount}
use Rattle.crm_history.specs.Legal.{is_committed}
use Rattle.qc_machine.specs.History.{History}
use Rattle.qc_machine.specs.Holding.{has_row, HaveNoCommon}
use Rattle.qc_machine.specs.Sound.{ended_in}

abbrev pub has_key : List LogRecord → List ℕ → Bool
has_key records k = list_any (λ (r : LogRecord). bytes_eq k r.key) records

abbrev pub registration_in : Catalogue → List ℕ → Registration
registration_in c name = record {
  resource = name;
  phases = option_map_or (λ (r : Resource). r.phases) (resource_named name c.resources) 0;
}

-- whether the rows of a resource change at the phase alone
abbrev pub is_late : Catalogue → List ℕ → Bool
is_late c name = option_map_or (λ (r : Resource). not r.early) (resource_named name c.resources) true

-- the amounts to which the phase of an attempt leads
abbrev pub led_to : Bool → OutsideRows → OutsideRows → OutsideRows
led_to committed first now r k = if committed then now r k else first r k

-- whether these rows have these amounts, and whether all other rows have

abbrev pub HaveAmounts : List Row → OutsideRows → OutsideRows → Type 0
HaveAmounts mine rows amounts = (r k : List ℕ) → has_row mine (outside_row r k) ≡ true → rows r k ≡ amounts r k

abbrev pub OthersHave : List Row → OutsideRows → OutsideRows → Type 0
OthersHave mine rows amounts = (r k : List ℕ) → has_row mine (outside_row r k) ≡ false → rows r k ≡ amounts r k

-- the outside rows among these are among those
abbrev pub IsWithin : List Row → List Row → Type 0
IsWithin these those = (r k : List ℕ) → has_row these (outside_row r k) ≡ true → has_row those (outside_row r k) ≡ true

-- The unforgotten records of an attempt lead its rows from the first amounts to the last ones. A row without such a
-- record is as it was at first. Where its phase puts the row, the row may stand anyhow between the puts; where the
-- phase leaves the row, it is as it shall be.
pub record IsFinishable (c : Catalogue) (lines : List LogLine) (rows : OutsideRows) (attempt : ℕ)
    (mine : List Row) (first now : OutsideRows) (committed : Bool) : Type 0 where
  pub names : List (List ℕ)
  pub registered : registrations lines attempt ≡ map (registration_in c) names
  pub apart : are_apart names ≡ true
  pub known : (r : List ℕ) → list_any (bytes_eq r) names ≡ true
      → (x : Resource) × (resource_named r c.resources ≡ Some x)
  pub none : (r : List ℕ) → list_any (bytes_eq r) names ≡ false → unforgotten lines attempt r ≡ []
  pub chain : (r : List ℕ) → IsChain (first r) (reverse (unforgotten lines attempt r)) (now r)
  pub inside : (r k : List ℕ) → is_some (now r k) ≡ true → has_row mine (outside_row r k) ≡ true
  pub unwritten : (r k : List ℕ) → has_row mine (outside_row r k) ≡ true
      → has_key (reverse (unforgotten lines attempt r)) k ≡ false
      → rows r k ≡ first r k
  pub there : (r k : List ℕ) → has_row mine (outside_row r k) ≡ true
      → has_key (reverse (unforgotten lines attempt r)) k ≡ true
      → is_some (rows r k) ≡ true
  pub left : (r k : List ℕ) → has_row mine (outside_row r k) ≡ true → is_late c r ≡ not committed
      → rows r k ≡ led_to committed first now r k

abbrev pub is_among : ℕ → List ℕ → Bool
is_among a attempts = list_any (λ b. b == a) attempts

-- each number is below all behind it
abbrev pub are_rising : List ℕ → Bool
are_rising [] = true
are_rising (n ∷ ns) = list_all (λ m. nat_lt n m) ns && are_rising ns

-- Each of these attempts can be finished, no two have a row in common, the settled amounts are those that their phases
-- lead to, and a row that none of them has is settled.
pub record AreFinishable (h : History) (lines : List LogLine) (rows : OutsideRows) (attempts : List ℕ) : Type 0 where
  pub mine : ℕ → List Row
  pub first : ℕ → OutsideRows
  pub now : ℕ → OutsideRows
  pub each : (a : ℕ) → is_among a attempts ≡ true
      → IsFinishable h.catalogue lines rows a (mine a) (first a) (now a) (is_committed a (ended_in h))
  pub apart : (a b : ℕ) → (a == b) ≡ false → is_among a attempts ≡ true → is_among b attempts ≡ true
      → HaveNoCommon (mine a) (mine b)
  pub settled : (a : ℕ) → is_among a attempts ≡ true
      → HaveAmounts (mine a) (outside_amount h.outside) (led_to (is_committed a (ended_in h)) (first a) (now a))
  pub free : (r k : List ℕ) → ((a : ℕ) → is_among a attempts ≡ true → has_row (mine a) (outside_row r k) ≡ false)
      → rows r k ≡ outside_amount h.outside r k
