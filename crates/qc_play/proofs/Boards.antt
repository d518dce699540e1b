-- What one change of a board means for the play state.
use Rattle.std.proofs.Common.{◌≡◌, ◌∙◌, ℕ, ℤ, List, [], ◌∷◌, ◌++◌, Bool, sym, ap, Some, option_and_then, option_map}
use Rattle.qc_base.specs.declared.log_line.LogRecord.{LogRecord}
use Rattle.qc_base.specs.declared.recording.Row.{Row}
use Rattle.qc_base.specs.declared.recording.Space.TheVariants.{Outside}
use Rattle.qc_play.specs.declared.change.Change.{Change}
use Rattle.qc_play.specs.declared.effect.Effect.{Effect}
use Rattle.qc_play.specs.declared.effect.Effect.TheVariants.{Change as ChangeEffect, Retract}
use Rattle.qc_play.specs.declared.record.PlayRecord.{PlayRecord}
use Rattle.qc_play.specs.Board.{Write, applied}
use Rattle.qc_play.specs.Play.{Seen, Play, amount_of, with_amount, as_amount, changed, new_amount, change_row, change_outside, new_record, with_record, kept_last, forget, without_last, retract_last}
use Rattle.qc_play.proofs.Writes.{applied_push}

abbrev pub play : List Seen → List Write → List PlayRecord → Bool → List Effect → Play
play view ws rs forced es = record { view = applied ws view; records = rs; forced = forced; effects = es }

pub same_play : (view : List Seen) (ws xs : List Write) (rs qs : List PlayRecord) (f g : Bool) (es ds : List Effect) → ws ≡ xs → rs ≡ qs → f ≡ g → es ≡ ds → play view ws rs f es ≡ play view xs qs g ds
same_play view ws xs rs qs f g es ds w r t e = λ i. record { view = applied (w i) view; records = r i; forced = t i; effects = e i }

module _ (view : List Seen) (ws : List Write) (rs : List PlayRecord) (forced : Bool) (es : List Effect) (row : Row) (change : Change) (n : ℤ) where
  -- a row gets an amount
  pub row_changed : (new : ℕ) → new_amount change n (amount_of row (applied ws view)) ≡ Some new
      → change_row (Some row) change n (play view ws rs forced es) ≡ Some (play view (ws ++ (row, new) ∷ []) rs forced es)
  row_changed new e =
      ap (option_map (λ new. record (play view ws rs forced es) { view = with_amount row new (applied ws view) })) e
      ∙ (λ i. Some (record { view = sym (applied_push ws row new view) i; records = rs; forced = forced; effects = es }))

  -- an outside row gets an amount
  pub outside_changed : (old new : ℕ) → amount_of row (applied ws view) ≡ Some old → new_amount change n (Some old) ≡ Some new
      → change_outside (Some row) change n (play view ws rs forced es)
      ≡ Some (play view (ws ++ (row, new) ∷ []) (rs ++ new_record row old new rs ∷ []) forced (es ++ ChangeEffect row.name row.key old new ∷ []))
  outside_changed old new e f =
      ap (option_and_then (λ old. option_map (λ new. with_record row old new (play view ws rs forced es)) (as_amount (changed change old n)))) e
      ∙ ap (option_map (λ new. with_record row old new (play view ws rs forced es))) f
      ∙ (λ i. Some (record { view = sym (applied_push ws row new view) i; records = rs ++ new_record row old new rs ∷ []; forced = forced; effects = es ++ ChangeEffect row.name row.key old new ∷ [] }))

-- the last record of a resource is forgotten
pub row_retracted : (view : List Seen) (ws : List Write) (rs : List PlayRecord) (forced : Bool) (es : List Effect) (resource : List ℕ) (r : LogRecord) → kept_last resource rs ≡ Some r
    → retract_last resource (play view ws rs forced es)
    ≡ Some (play view (ws ++ (record { space = Outside; name = resource; key = r.key }, r.old) ∷ []) (forget resource r.seq rs) forced (es ++ Retract resource ∷ []))
row_retracted view ws rs forced es resource r e =
    ap (option_map (λ (r : LogRecord). without_last resource r (play view ws rs forced es))) e
    ∙ (λ i. Some (record { view = sym (applied_push ws (record { space = Outside; name = resource; key = r.key }) r.old view) i; records = forget resource r.seq rs; forced = forced; effects = es ++ Retract resource ∷ [] }))
