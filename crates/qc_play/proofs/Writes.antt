-- The amount of a row behind what was written.
use Rattle.std.proofs.Common.{◌≡◌, ◌∙◌, ℕ, List, [], ◌∷◌, ◌++◌, Bool, true, false, cond, find, refl, sym, ap, Option, Some, None, option_and_then, option_map}
use Rattle.qc_base.specs.declared.recording.Row.{Row}
use Rattle.qc_base.specs.Rows.{row_eq}
use Rattle.qc_play.specs.Board.{Write, applied, looked_up, seen_of}
use Rattle.qc_play.specs.Play.{Seen, amount_of, with_amount}
use Rattle.qc_play.proofs.RowNames.{row-same, row-flip}

abbrev amount : Seen → Option ℕ
amount s = s.1

abbrev got : Row → Row → ℕ → Option ℕ → Option ℕ
got r row n a = cond (row_eq r row) (Some n) a

seen-with : (row r : Row) (n : ℕ) (view : List Seen) → seen_of row (with_amount r n view) ≡ option_map (got r row n) (seen_of row view)
seen-with row r n [] = refl
seen-with row r n (s ∷ view) = by (row_eq s.0 r) refl (seen-with row r n view)
  where
    found : Option Seen
    found = find (λ (t : Seen). row_eq t.0 row) view

    after : Option Seen
    after = find (λ (t : Seen). row_eq t.0 row) (with_amount r n view)

    by : (b : Bool) → row_eq s.0 r ≡ b → option_map amount after ≡ option_map (got r row n) (option_map amount found)
        → option_map amount (cond (row_eq (cond b (s.0, Some n) s).0 row) (Some (cond b (s.0, Some n) s)) after) ≡ option_map (got r row n) (option_map amount (cond (row_eq s.0 row) (Some s) found))
    by true e rest = here (row_eq s.0 row) refl rest
      where
        here : (d : Bool) → row_eq s.0 row ≡ d → option_map amount after ≡ option_map (got r row n) (option_map amount found)
            → option_map amount (cond d (Some (s.0, Some n)) after) ≡ option_map (got r row n) (option_map amount (cond d (Some s) found))
        here true g rest = sym (ap (λ t. Some (cond t (Some n) s.1)) (ap (λ (a : Row). row_eq a row) (sym (row-same s.0 r e)) ∙ g))
        here false g rest = rest
    by false e rest = here (row_eq s.0 row) refl rest
      where
        here : (d : Bool) → row_eq s.0 row ≡ d → option_map amount after ≡ option_map (got r row n) (option_map amount found)
            → option_map amount (cond d (Some s) after) ≡ option_map (got r row n) (option_map amount (cond d (Some s) found))
        here true g rest = sym (ap (λ t. Some (cond t (Some n) s.1)) (row-flip row r false (ap (λ (a : Row). row_eq a r) (sym (row-same s.0 row g)) ∙ e)))
        here false g rest = rest

pub looked_up_is : (row : Row) (ws : List Write) (view : List Seen) → option_and_then (λ a. looked_up row ws a) (seen_of row view) ≡ amount_of row (applied ws view)
looked_up_is row [] view = by (find (λ (t : Seen). row_eq t.0 row) view)
  where
    by : (o : Option Seen) → option_and_then (λ (a : Option ℕ). a) (option_map amount o) ≡ option_and_then amount o
    by None = refl
    by (Some s) = refl
looked_up_is row (w ∷ ws) view = by (seen_of row view) ∙ ap (option_and_then (λ a. looked_up row ws a)) (sym (seen-with row w.0 w.1 view)) ∙ looked_up_is row ws (with_amount w.0 w.1 view)
  where
    by : (o : Option (Option ℕ)) → option_and_then (λ a. looked_up row ws (cond (row_eq w.0 row) (Some w.1) a)) o ≡ option_and_then (λ a. looked_up row ws a) (option_map (got w.0 row w.1) o)
    by None = refl
    by (Some a) = refl

pub applied_push : (ws : List Write) (row : Row) (n : ℕ) (view : List Seen) → applied (ws ++ (row, n) ∷ []) view ≡ with_amount row n (applied ws view)
applied_push [] row n view = refl
applied_push (w ∷ ws) row n view = applied_push ws row n (with_amount w.0 w.1 view)
