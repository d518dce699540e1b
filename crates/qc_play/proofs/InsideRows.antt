-- An inside row changes only where a step names it.
use Rattle.std.proofs.Common.{◌≡◌, ◌∙◌, ℕ, ◌+◌, ℤ, List, [], ◌∷◌, ◌++◌, Bool, true, false, cond, ◌&&◌, flat_map, refl, sym, subst, Option, Some, None, option_and_then, option_map}
use Rattle.std.specs.List.{list_any}
use Rattle.std.specs.Option.{option_to_list}
use Rattle.std.specs.Str.{bytes_eq}
use Rattle.std.proofs.lemmas.Bool.{or_parts}
use Rattle.std.proofs.lemmas.List.Folds.{list_any-append}
use Rattle.qc_base.specs.declared.recording.Arg.{Arg}
use Rattle.qc_base.specs.declared.recording.Row.{Row}
use Rattle.qc_base.specs.declared.recording.Space.TheVariants.{Inside, Outside}
use Rattle.qc_base.specs.declared.log_line.LogRecord.{LogRecord}
use Rattle.qc_base.specs.Rows.{row_eq, space_eq}
use Rattle.qc_script.specs.Naming.{row_of, rows_of_step, rows_of_terms}
use Rattle.qc_script.specs.declared.step.Step.{Step}
use Rattle.qc_script.specs.declared.step.Step.TheVariants.{Need, When, Add, Sub, Set, Move, Grow, Shrink, Retract, Fail, Abort}
use Rattle.qc_play.specs.declared.change.Change.{Change}
use Rattle.qc_play.specs.declared.change.Change.TheVariants.{Rise, Fall, Become}
use Rattle.qc_play.specs.Play.{Play, outside_row, amount_of, with_amount, as_amount, changed, new_amount, change_row, with_record, change_outside, kept_last, without_last, retract_last, Did, goes, skips, fails, do_step, Ran, ran, failed_at, run_steps, run_call, worth, holds}
use Rattle.qc_play.proofs.RowNames.{amount-other}
use Rattle.qc_play.proofs.Playing.{OnPlay, OnGoes, OnRan, OnRow, row-space, goes-with}

module _ (x : Row) (inside : x.space ≡ Inside) where
  -- whether the row has the same amount as before
  abbrev Left : Play → Play → Type 0
  Left play next = amount_of x next.view ≡ amount_of x play.view

  abbrev names : List Row → Bool
  names rows = list_any (row_eq x) rows

  other : (row : Row) → row.space ≡ Outside → row_eq x row ≡ false
  other row outside = λ i. space_eq (inside i) (outside i) && (bytes_eq x.name row.name && bytes_eq x.key row.key)

  front : (xs ys : List Row) → names (xs ++ ys) ≡ false → names xs ≡ false
  front xs ys e = (or_parts (names xs) (names ys) (sym (list_any-append (row_eq x) xs ys) ∙ e)).0

  behind : (xs ys : List Row) → names (xs ++ ys) ≡ false → names ys ≡ false
  behind xs ys e = (or_parts (names xs) (names ys) (sym (list_any-append (row_eq x) xs ys) ∙ e)).1

  change-leaves : (o : Option Row) (change : Change) (n : ℤ) (play : Play) → names (option_to_list o) ≡ false → OnPlay (change_row o change n play) (Left play)
  change-leaves None change n play e = tt
  change-leaves (Some row) change n play e = each (new_amount change n (amount_of row play.view))
    where
      each : (o : Option ℕ) → OnPlay (option_map (λ new. record play { view = with_amount row new play.view }) o) (Left play)
      each None = tt
      each (Some new) = amount-other row x new play.view (or_parts (row_eq x row) false e).0

  out-leaves : (o : Option Row) (change : Change) (n : ℤ) (play : Play) → OnRow o (λ row. row.space ≡ Outside) → OnPlay (change_outside o change n play) (Left play)
  out-leaves None change n play outside = tt
  out-leaves (Some row) change n play outside = each (amount_of row play.view)
    where
      new : (old : ℕ) (o : Option ℕ) → OnPlay (option_map (λ new. with_record row old new play) o) (Left play)
      new old None = tt
      new old (Some n) = amount-other row x n play.view (other row outside)

      each : (o : Option ℕ) → OnPlay (option_and_then (λ old. option_map (λ new. with_record row old new play) (as_amount (changed change old n))) o) (Left play)
      each None = tt
      each (Some old) = new old (as_amount (changed change old n))

  retract-leaves : (resource : List ℕ) (play : Play) → OnPlay (retract_last resource play) (Left play)
  retract-leaves resource play = each (kept_last resource play.records)
    where
      each : (o : Option LogRecord) → OnPlay (option_map (λ (r : LogRecord). without_last resource r play) o) (Left play)
      each None = tt
      each (Some r) = amount-other (outside_row resource r.key) x r.old play.view (other (outside_row resource r.key) refl)

  move-leaves : (o : Option Play) (go : Play → Option Play) (play : Play) → OnPlay o (Left play) → ((mid : Play) → OnPlay (go mid) (Left mid)) → OnPlay (option_and_then go o) (Left play)
  move-leaves None go play h on = tt
  move-leaves (Some mid) go play h on = after (go mid) (on mid)
    where
      after : (o : Option Play) → OnPlay o (Left mid) → OnPlay o (Left play)
      after None q = tt
      after (Some next) q = q ∙ h

  test-leaves : (b : Bool) (play : Play) (other : Did) → OnGoes other (Left play) → OnGoes (cond b (goes play) other) (Left play)
  test-leaves true play other q = refl
  test-leaves false play other q = q

  step-leaves : (args : List Arg) (step : Step) (play : Play) → names (rows_of_step args step) ≡ false → OnGoes (do_step args step play) (Left play)
  step-leaves args (Need c) play e = test-leaves (holds args play.view c) play fails tt
  step-leaves args (When c) play e = test-leaves (holds args play.view c) play skips tt
  step-leaves args (Add cell s) play e = goes-with _ (Left play) (change-leaves (row_of Inside args cell) Rise (worth args play.view s) play (front (option_to_list (row_of Inside args cell)) (rows_of_terms args s) e))
  step-leaves args (Sub cell s) play e = goes-with _ (Left play) (change-leaves (row_of Inside args cell) Fall (worth args play.view s) play (front (option_to_list (row_of Inside args cell)) (rows_of_terms args s) e))
  step-leaves args (Set cell s) play e = goes-with _ (Left play) (change-leaves (row_of Inside args cell) Become (worth args play.view s) play (front (option_to_list (row_of Inside args cell)) (rows_of_terms args s) e))
  step-leaves args (Move from to s) play e =
      let first = option_to_list (row_of Inside args from) in
      let second = option_to_list (row_of Inside args to) in
      let more = behind first (second ++ rows_of_terms args s) e in
      goes-with _ (Left play) (move-leaves (change_row (row_of Inside args from) Fall (worth args play.view s) play) (change_row (row_of Inside args to) Rise (worth args play.view s)) play
      (change-leaves (row_of Inside args from) Fall (worth args play.view s) play (front first (second ++ rows_of_terms args s) e))
      (λ mid. change-leaves (row_of Inside args to) Rise (worth args play.view s) mid (front second (rows_of_terms args s) more)))
  step-leaves args (Grow cell s) play e = goes-with _ (Left play) (out-leaves (row_of Outside args cell) Rise (worth args play.view s) play (row-space Outside args cell))
  step-leaves args (Shrink cell s) play e = goes-with _ (Left play) (out-leaves (row_of Outside args cell) Fall (worth args play.view s) play (row-space Outside args cell))
  step-leaves args (Retract resource) play e = goes-with _ (Left play) (retract-leaves resource play)
  step-leaves args Fail play e = tt
  step-leaves args Abort play e = refl

  steps-leave : (args : List Arg) (skipping : Bool) (n : ℕ) (script : List Step) (play : Play) → names (flat_map (rows_of_step args) script) ≡ false → OnRan (run_steps args skipping n script play) (Left play)
  steps-leave args true n [] play e = refl
  steps-leave args false n [] play e = refl
  steps-leave args true n (step ∷ rest) play e = steps-leave args false (n + 1) rest play (behind (rows_of_step args step) (flat_map (rows_of_step args) rest) e)
  steps-leave args false n (step ∷ rest) play e =
      let more = behind (rows_of_step args step) (flat_map (rows_of_step args) rest) e in
      by (do_step args step play) (step-leaves args step play (front (rows_of_step args step) (flat_map (rows_of_step args) rest) e)) (λ next. steps-leave args false (n + 1) rest next more) (steps-leave args true (n + 1) rest play more)
    where
      after : (r : Ran) (mid : Play) → Left play mid → OnRan r (Left mid) → OnRan r (Left play)
      after (ran next) mid h q = q ∙ h
      after (failed_at m) mid h q = tt

      by : (d : Did) → OnGoes d (Left play) → ((next : Play) → OnRan (run_steps args false (n + 1) rest next) (Left next)) → OnRan (run_steps args true (n + 1) rest play) (Left play)
          → OnRan (elim d [ goes next ↦ run_steps args false (n + 1) rest next | skips ↦ run_steps args true (n + 1) rest play | fails ↦ failed_at n ]) (Left play)
      by (goes next) q on skipped = after (run_steps args false (n + 1) rest next) next q (on next)
      by skips q on skipped = skipped
      by fails q on skipped = tt

  pub call_leaves : (script : List Step) (args : List Arg) (play next : Play) → list_any (row_eq x) (flat_map (rows_of_step args) script) ≡ false → run_call script args play ≡ ran next → amount_of x next.view ≡ amount_of x play.view
  call_leaves script args play next e r = subst (λ r. OnRan r (Left play)) r (steps-leave args false 1 script (record play { effects = [] }) e)
