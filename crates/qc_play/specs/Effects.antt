-- What effects do to the records of an attempt and to its outside amounts.
use Rattle.std.specs.Prelude.{◌≡◌, ℕ, ◌+◌, List, [], ◌∷◌, ◌++◌, map, filter, reverse, true, not, ◌&&◌, Option, Some, is_some, if◌then◌else◌}
use Rattle.std.specs.Bool.{⊤}
use Rattle.std.specs.Str.{bytes_eq}
use Rattle.qc_base.specs.declared.log_line.LogRecord.{LogRecord}
use Rattle.qc_base.specs.Rows.{OutsideRows, set_row}
use Rattle.qc_play.specs.declared.effect.Effect.{Effect}
use Rattle.qc_play.specs.declared.effect.Effect.TheVariants.{Change, Retract}
use Rattle.qc_play.specs.declared.record.PlayRecord.{PlayRecord}
use Rattle.qc_play.specs.Play.{Seen, Play, outside_row, amount_of, is_of, new_record, kept_last, forget}

-- the unforgotten records of a resource, in written order
abbrev pub records_of : List ℕ → List PlayRecord → List LogRecord
records_of resource [] = []
records_of resource (r ∷ rs) =
    if bytes_eq r.resource resource && not r.forgotten then r.entry ∷ records_of resource rs
    else records_of resource rs

-- the outside amounts of a view
abbrev pub amounts_in : List Seen → OutsideRows
amounts_in view r k = amount_of (outside_row r k) view

pub record Outer : Type 0 where
  pub records : List PlayRecord
  pub amounts : OutsideRows

abbrev pub outer_of : Play → Outer
outer_of play = record { records = play.records; amounts = amounts_in play.view }

pub record IsSame (a b : Outer) : Type 0 where
  pub records : b.records ≡ a.records
  pub amounts : (r k : List ℕ) → b.amounts r k ≡ a.amounts r k

-- A row changes, where it is there, with a record behind the others.
pub record IsChange (resource key : List ℕ) (old new : ℕ) (a b : Outer) : Type 0 where
  pub there : a.amounts resource key ≡ Some old
  pub records : b.records ≡ a.records ++ new_record (outside_row resource key) old new a.records ∷ []
  pub amounts : (r k : List ℕ) → b.amounts r k ≡ set_row resource key new a.amounts r k

-- The last record of a resource is forgotten, and its row has the old amount again.
pub record IsRetract (resource : List ℕ) (a b : Outer) : Type 0 where
  pub entry : LogRecord
  pub last : kept_last resource a.records ≡ Some entry
  pub there : is_some (a.amounts resource entry.key) ≡ true
  pub records : b.records ≡ forget resource entry.seq a.records
  pub amounts : (r k : List ℕ) → b.amounts r k ≡ set_row resource entry.key entry.old a.amounts r k

abbrev pub IsEffect : Effect → Outer → Outer → Type 0
IsEffect (Change resource key old new) a b = IsChange resource key old new a b
IsEffect (Retract resource) a b = IsRetract resource a b

-- effects one after the other
abbrev pub LeadsTo : Outer → List Effect → Outer → Type 0
LeadsTo a [] b = IsSame a b
LeadsTo a (e ∷ es) b = (m : Outer) × IsEffect e a m × LeadsTo m es b

-- numbers in order, from one on
abbrev pub AreNumbers : ℕ → List ℕ → Type 0
AreNumbers n [] = ⊤
AreNumbers n (k ∷ ks) = (k ≡ n) × AreNumbers (n + 1) ks

abbrev pub numbers_of : List ℕ → List PlayRecord → List ℕ
numbers_of resource rs = map (λ (r : PlayRecord). r.entry.seq) (filter (is_of resource) rs)

-- the unforgotten records of a resource, the last one first
abbrev pub stack_of : List ℕ → List PlayRecord → List LogRecord
stack_of resource rs = reverse (records_of resource rs)

-- Each record's row has its new amount, and with its old amount in its place those below stand so, down to the first
-- amounts.
abbrev pub IsChain : (List ℕ → Option ℕ) → List LogRecord → (List ℕ → Option ℕ) → Type 0
IsChain first [] now = (k : List ℕ) → now k ≡ first k
IsChain first (r ∷ rs) now =
    (now r.key ≡ Some r.new) × IsChain first rs (λ k. if bytes_eq k r.key then Some r.old else now k)

-- records in order, of rows that are there, that lead from the first amounts to these
pub record IsOuter (first : OutsideRows) (a : Outer) : Type 0 where
  pub numbers : (r : List ℕ) → AreNumbers 1 (numbers_of r a.records)
  pub chain : (r : List ℕ) → IsChain (first r) (stack_of r a.records) (a.amounts r)
  pub there : (r k : List ℕ) → is_some (a.amounts r k) ≡ is_some (first r k)
