-- What a call keeps of a view.
use Rattle.std.proofs.Common.{◌≡◌, ◌∙◌, ℕ, ◌+◌, List, [], ◌∷◌, Bool, true, false, cond, refl, sym, ap, subst, Option, Some, None, option_and_then, option_map, ℤ, pos, negsuc}
use Rattle.std.specs.Bool.{⊤}
use Rattle.qc_base.specs.declared.recording.Arg.{Arg}
use Rattle.qc_base.specs.declared.recording.Row.{Row}
use Rattle.qc_base.specs.declared.recording.Space.{Space}
use Rattle.qc_base.specs.declared.recording.Space.TheVariants.{Inside, Outside}
use Rattle.qc_base.specs.declared.log_line.LogRecord.{LogRecord}
use Rattle.qc_script.specs.declared.step.Step.{Step}
use Rattle.qc_script.specs.declared.step.Step.TheVariants.{Need, When, Add, Sub, Set, Move, Grow, Shrink, Retract, Fail, Abort}
use Rattle.qc_play.specs.Play.{Play, outside_row, amount_of, with_amount, Did, goes, skips, fails, goes_with, fits, as_amount, new_amount, changed, change_row, with_record, change_outside, kept_last, retract_last, without_last, do_step, Ran, ran, failed_at, run_steps, run_call, worth, holds, rows_in}
use Rattle.qc_play.specs.declared.change.Change.{Change}
use Rattle.qc_play.specs.declared.change.Change.TheVariants.{Rise, Fall, Become}
use Rattle.qc_script.specs.Naming.{key_text, row_of}
use Rattle.qc_script.specs.declared.step.Cell.{Cell}
use Rattle.qc_play.proofs.RowNames.{rows-kept}

-- what holds of a play state where a step goes on
abbrev pub OnGoes : Did → (Play → Type 0) → Type 0
OnGoes (goes play) P = P play
OnGoes skips P = ⊤
OnGoes fails P = ⊤

abbrev pub OnRan : Ran → (Play → Type 0) → Type 0
OnRan (ran play) P = P play
OnRan (failed_at n) P = ⊤

abbrev pub OnPlay : Option Play → (Play → Type 0) → Type 0
OnPlay (Some play) P = P play
OnPlay None P = ⊤

pub goes-with : (o : Option Play) (P : Play → Type 0) → OnPlay o P → OnGoes (goes_with o) P
goes-with (Some play) P h = h
goes-with None P h = tt

-- A law of play states that holds through each change of a row, each record and each mark, holds through a call.
pub record IsLaw (P : Play → Type 0) : Type 0 where
  pub change : (row : Row) (n : ℕ) (play : Play) → row.space ≡ Inside → fits n ≡ true → P play → P (record play { view = with_amount row n play.view })
  pub outside : (row : Row) (old new : ℕ) (play : Play) → row.space ≡ Outside → amount_of row play.view ≡ Some old → fits new ≡ true → P play → P (with_record row old new play)
  pub retract : (resource : List ℕ) (r : LogRecord) (play : Play) → kept_last resource play.records ≡ Some r → P play → OnPlay (retract_last resource play) P
  pub force : (play : Play) → P play → P (record play { forced = true })

-- a number that is an amount is in its range
pub amount-fits : (z : ℤ) (n : ℕ) → as_amount z ≡ Some n → fits n ≡ true
amount-fits (pos m) n e = by (fits m) refl e
  where
    by : (b : Bool) → fits m ≡ b → cond b (Some m) None ≡ Some n → fits n ≡ true
    by true f e = let same : m ≡ n = cc in ap fits (sym same) ∙ f
    by false f e = absurd (none e)
      where
        none : None ≡ Some n → ⊥
        none e = cc
amount-fits (negsuc m) n e = absurd (none e)
  where
    none : None ≡ Some n → ⊥
    none e = cc

pub new-fits : (change : Change) (z : ℤ) (o : Option ℕ) (n : ℕ) → new_amount change z o ≡ Some n → fits n ≡ true
new-fits change z (Some old) n e = amount-fits (changed change old z) n e
new-fits change z None n e = absurd (none e)
  where
    none : None ≡ Some n → ⊥
    none e = cc

-- the row that a cell names has its space
abbrev pub OnRow : Option Row → (Row → Type 0) → Type 0
OnRow None P = ⊤
OnRow (Some row) P = P row

pub row-space : (space : Space) (args : List Arg) (cell : Cell) → OnRow (row_of space args cell) (λ row. row.space ≡ space)
row-space space args cell = by (key_text args cell.key)
  where
    by : (o : Option (List ℕ)) → OnRow (option_map (λ k. record { space = space; name = cell.name; key = k }) o) (λ row. row.space ≡ space)
    by None = tt
    by (Some k) = refl

module _ (P : Play → Type 0) (law : IsLaw P) where
  change-keeps : (o : Option Row) (change : Change) (n : ℤ) (play : Play) → OnRow o (λ row. row.space ≡ Inside) → P play → OnPlay (change_row o change n play) P
  change-keeps None change n play inside p = tt
  change-keeps (Some row) change n play inside p = each (new_amount change n (amount_of row play.view)) refl
    where
      each : (o : Option ℕ) → new_amount change n (amount_of row play.view) ≡ o → OnPlay (option_map (λ new. record play { view = with_amount row new play.view }) o) P
      each None e = tt
      each (Some new) e = law.change row new play inside (new-fits change n (amount_of row play.view) new e) p

  outside-keeps : (o : Option Row) (change : Change) (n : ℤ) (play : Play) → OnRow o (λ row. row.space ≡ Outside) → P play → OnPlay (change_outside o change n play) P
  outside-keeps None change n play outside p = tt
  outside-keeps (Some row) change n play outside p = each (amount_of row play.view) refl
    where
      new : (old : ℕ) → amount_of row play.view ≡ Some old → (o : Option ℕ) → as_amount (changed change old n) ≡ o → OnPlay (option_map (λ new. with_record row old new play) o) P
      new old e None f = tt
      new old e (Some m) f = law.outside row old m play outside e (amount-fits (changed change old n) m f) p

      each : (o : Option ℕ) → amount_of row play.view ≡ o → OnPlay (option_and_then (λ old. option_map (λ new. with_record row old new play) (as_amount (changed change old n))) o) P
      each None e = tt
      each (Some old) e = new old e (as_amount (changed change old n)) refl

  retract-keeps : (resource : List ℕ) (play : Play) → P play → OnPlay (retract_last resource play) P
  retract-keeps resource play p = each (kept_last resource play.records) refl
    where
      each : (o : Option LogRecord) → kept_last resource play.records ≡ o → OnPlay (retract_last resource play) P
      each None e = subst (λ o. OnPlay o P) (sym (ap (option_map (λ (r : LogRecord). without_last resource r play)) e)) tt
      each (Some r) e = law.retract resource r play e p

  move-keeps : (o : Option Play) (go : Play → Option Play) → OnPlay o P → ((play : Play) → P play → OnPlay (go play) P) → OnPlay (option_and_then go o) P
  move-keeps None go h on = tt
  move-keeps (Some play) go h on = on play h

  test-keeps : (b : Bool) (play : Play) (other : Did) → P play → OnGoes other P → OnGoes (cond b (goes play) other) P
  test-keeps true play other p q = p
  test-keeps false play other p q = q

  inside-keeps : (args : List Arg) (cell : Cell) (change : Change) (n : ℤ) (play : Play) → P play → OnPlay (change_row (row_of Inside args cell) change n play) P
  inside-keeps args cell change n play p = change-keeps (row_of Inside args cell) change n play (row-space Inside args cell) p

  out-keeps : (args : List Arg) (cell : Cell) (change : Change) (n : ℤ) (play : Play) → P play → OnPlay (change_outside (row_of Outside args cell) change n play) P
  out-keeps args cell change n play p = outside-keeps (row_of Outside args cell) change n play (row-space Outside args cell) p

  pub step-keeps : (args : List Arg) (step : Step) (play : Play) → P play → OnGoes (do_step args step play) P
  step-keeps args (Need c) play p = test-keeps (holds args play.view c) play fails p tt
  step-keeps args (When c) play p = test-keeps (holds args play.view c) play skips p tt
  step-keeps args (Add cell e) play p = goes-with _ P (inside-keeps args cell Rise (worth args play.view e) play p)
  step-keeps args (Sub cell e) play p = goes-with _ P (inside-keeps args cell Fall (worth args play.view e) play p)
  step-keeps args (Set cell e) play p = goes-with _ P (inside-keeps args cell Become (worth args play.view e) play p)
  step-keeps args (Move from to e) play p =
      goes-with _ P (move-keeps (change_row (row_of Inside args from) Fall (worth args play.view e) play) (change_row (row_of Inside args to) Rise (worth args play.view e))
      (inside-keeps args from Fall (worth args play.view e) play p) (λ next q. inside-keeps args to Rise (worth args play.view e) next q))
  step-keeps args (Grow cell e) play p = goes-with _ P (out-keeps args cell Rise (worth args play.view e) play p)
  step-keeps args (Shrink cell e) play p = goes-with _ P (out-keeps args cell Fall (worth args play.view e) play p)
  step-keeps args (Retract resource) play p = goes-with _ P (retract-keeps resource play p)
  step-keeps args Fail play p = tt
  step-keeps args Abort play p = law.force play p

  pub steps-keep : (args : List Arg) (skipping : Bool) (n : ℕ) (script : List Step) (play : Play) → P play → OnRan (run_steps args skipping n script play) P
  steps-keep args true n [] play p = p
  steps-keep args false n [] play p = p
  steps-keep args true n (step ∷ rest) play p = steps-keep args false (n + 1) rest play p
  steps-keep args false n (step ∷ rest) play p = by (do_step args step play) (step-keeps args step play p) (λ next q. steps-keep args false (n + 1) rest next q) (steps-keep args true (n + 1) rest play p)
    where
      by : (d : Did) → OnGoes d P → ((next : Play) → P next → OnRan (run_steps args false (n + 1) rest next) P) → OnRan (run_steps args true (n + 1) rest play) P
          → OnRan (elim d [ goes next ↦ run_steps args false (n + 1) rest next | skips ↦ run_steps args true (n + 1) rest play | fails ↦ failed_at n ]) P
      by (goes next) q on skipped = on next q
      by skips q on skipped = skipped
      by fails q on skipped = tt

  -- through a call, from its start on
  pub call-on : (script : List Step) (args : List Arg) (play : Play) → P (record play { effects = [] }) → OnRan (run_call script args play) P
  call-on script args play p = steps-keep args false 1 script (record play { effects = [] }) p

  module _ (begin : (play : Play) → P play → P (record play { effects = [] })) where
    pub call-keeps : (script : List Step) (args : List Arg) (play : Play) → P play → OnRan (run_call script args play) P
    call-keeps script args play p = call-on script args play (begin play p)

-- the rows of a view stay as they are, in their order

abbrev pub HasRows : List Row → Play → Type 0
HasRows rows play = rows_in play.view ≡ rows

pub rows-law : (rows : List Row) → IsLaw (HasRows rows)
rows-law rows = record {
  change = λ row n play inside most p. rows-kept row n play.view ∙ p;
  outside = λ row old new play outside e most p. rows-kept row new play.view ∙ p;
  retract = λ resource r play e p. retracts resource play (kept_last resource play.records) p;
  force = λ play p. p;
}
  where
    retracts : (resource : List ℕ) (play : Play) (o : Option LogRecord) → HasRows rows play → OnPlay (option_map (λ (r : LogRecord). without_last resource r play) o) (HasRows rows)
    retracts resource play None p = tt
    retracts resource play (Some r) p = rows-kept (outside_row resource r.key) r.old play.view ∙ p

pub call_rows : (script : List Step) (args : List Arg) (play next : Play) → run_call script args play ≡ ran next → rows_in next.view ≡ rows_in play.view
call_rows script args play next e = subst (λ r. OnRan r (HasRows (rows_in play.view))) e (call-keeps (HasRows (rows_in play.view)) (rows-law (rows_in play.view)) (λ play p. p) script args play refl)
