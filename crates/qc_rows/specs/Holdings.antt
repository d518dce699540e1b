-- What attempts hold.
use Rattle.std.specs.Prelude.{ℕ, List, filter, Bool, not, ◌==◌}
use Rattle.std.specs.List.{list_any}
use Rattle.qc_base.specs.declared.recording.Row.{Row}
use Rattle.qc_base.specs.Rows.{row_eq}

-- an attempt with its message and its rows
pub record Holding : Type 0 where
  pub attempt : ℕ
  pub id : ℕ
  pub rows : List Row

abbrev pub is_held : List Holding → ℕ → Bool
is_held holdings id = list_any (λ (h : Holding). h.id == id) holdings

abbrev pub is_row_held : List Holding → Row → Bool
is_row_held holdings row = list_any (λ (h : Holding). list_any (row_eq row) h.rows) holdings

abbrev pub are_free : List Holding → List Row → Bool
are_free holdings rows = not (list_any (is_row_held holdings) rows)

-- when an attempt holds nothing any more
abbrev pub released : ℕ → List Holding → List Holding
released attempt holdings = filter (λ (h : Holding). not (h.attempt == attempt)) holdings
