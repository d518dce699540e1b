-- What the scripts of calls do to a view of the rows.
use Rattle.std.specs.Prelude.{ℕ, ◌+◌, nat_le, ℤ, pos, negsuc, ◌+ℤ◌, ◌-ℤ◌, int_lt, int_le, List, [], ◌∷◌, ◌++◌, map, slice_get, find, count_by, Bool, true, false, ◌&&◌, ◌||◌, ◌==◌, Option, Some, None, option_map, option_and_then, unwrap_or, if◌then◌else◌}
use Rattle.std.specs.Str.{bytes_eq}
use Rattle.qc_base.specs.declared.recording.Arg.{Arg}
use Rattle.qc_base.specs.declared.recording.Arg.TheVariants.{Text, Whole}
use Rattle.qc_base.specs.declared.recording.Row.{Row}
use Rattle.qc_base.specs.declared.recording.Space.TheVariants.{Inside, Outside}
use Rattle.qc_base.specs.Rows.{row_eq}
use Rattle.qc_base.specs.declared.log_line.LogRecord.{LogRecord}
use Rattle.qc_script.specs.declared.step.Cell.{Cell}
use Rattle.qc_script.specs.declared.step.Term.{Term}
use Rattle.qc_script.specs.declared.step.Term.TheVariants.{Number, Param, Row as AmountAt}
use Rattle.qc_script.specs.declared.step.SignedTerm.{SignedTerm}
use Rattle.qc_script.specs.declared.step.Compare.{Compare}
use Rattle.qc_script.specs.declared.step.Compare.TheVariants.{Less, AtMost, Equal, NotEqual, AtLeast, More}
use Rattle.qc_script.specs.declared.step.Comparison.{Comparison}
use Rattle.qc_script.specs.declared.step.Step.{Step}
use Rattle.qc_script.specs.declared.step.Step.TheVariants.{Need, When, Add, Sub, Set, Move, Grow, Shrink, Retract, Fail, Abort}
use Rattle.qc_script.specs.Naming.{row_at, row_of}
use Rattle.qc_play.specs.declared.change.Change.{Change}
use Rattle.qc_play.specs.declared.change.Change.TheVariants.{Rise, Fall, Become}
use Rattle.qc_play.specs.declared.effect.Effect.{Effect}
use Rattle.qc_play.specs.declared.effect.Effect.TheVariants.{Change as Changed, Retract as Retracted}
use Rattle.qc_play.specs.declared.record.PlayRecord.{PlayRecord}

-- a row with its amount, where it has one
abbrev pub Seen : Type 0
Seen = Row × Option ℕ

-- the state between two calls of an attempt
pub record Play : Type 0 where
  pub view : List Seen
  -- the outside changes so far, in order
  pub records : List PlayRecord
  -- whether `abort` ran
  pub forced : Bool
  -- the effects of the last call, in order
  pub effects : List Effect

abbrev pub outside_row : List ℕ → List ℕ → Row
outside_row resource key = record { space = Outside; name = resource; key = key }

-- the amount of a row, where it has one
abbrev pub amount_of : Row → List Seen → Option ℕ
amount_of row view = option_and_then (λ (s : Seen). s.1) (find (λ (s : Seen). row_eq s.0 row) view)

abbrev pub amount_at : Option Row → List Seen → Option ℕ
amount_at None view = None
amount_at (Some row) view = amount_of row view

-- the view with this amount in the row
abbrev pub with_amount : Row → ℕ → List Seen → List Seen
with_amount row n view = map (λ (s : Seen). if row_eq s.0 row then (s.0, Some n) else s) view

-- what a term is worth; a row without an amount counts as 0
abbrev pub whole_of : Option Arg → ℕ
whole_of (Some (Whole n)) = n
whole_of (Some (Text t)) = 0
whole_of None = 0

abbrev pub worth_of_term : List Arg → List Seen → Term → ℕ
worth_of_term args view (Number n) = n
worth_of_term args view (Param i) = whole_of (slice_get args i)
worth_of_term args view (AmountAt table key) = unwrap_or (amount_at (row_at Inside args table key) view) 0

-- an expression, worked out from the left
abbrev pub worth_from : List Arg → List Seen → ℤ → List SignedTerm → ℤ
worth_from args view n [] = n
worth_from args view n (t ∷ ts) =
    worth_from args view
    (if t.minus then n -ℤ pos (worth_of_term args view t.term) else n +ℤ pos (worth_of_term args view t.term)) ts

abbrev pub worth : List Arg → List Seen → List SignedTerm → ℤ
worth args view e = worth_from args view (pos 0) e

-- whether a comparison holds
abbrev pub compares : Compare → ℤ → ℤ → Bool
compares Less a b = int_lt a b
compares AtMost a b = int_le a b
compares Equal a b = int_le a b && int_le b a
compares NotEqual a b = int_lt a b || int_lt b a
compares AtLeast a b = int_le b a
compares More a b = int_lt b a

abbrev pub holds : List Arg → List Seen → Comparison → Bool
holds args view c = compares c.compare (worth args view c.left) (worth args view c.right)

-- the most that an amount may be is 10^15
abbrev pub fits : ℕ → Bool
fits n = nat_le n 1000000000000000

-- a number as an amount, from 0 to 10^15
abbrev pub as_amount : ℤ → Option ℕ
as_amount (pos n) = if fits n then Some n else None
as_amount (negsuc n) = None

-- what an amount becomes by an expression's worth
abbrev pub changed : Change → ℕ → ℤ → ℤ
changed Rise old n = pos old +ℤ n
changed Fall old n = pos old -ℤ n
changed Become old n = n

-- what a step does: it goes on, it has the next step skipped, or it fails
pub data Did : Type 0 where
  goes : Play → Did
  skips : Did
  fails : Did

abbrev pub goes_with : Option Play → Did
goes_with (Some play) = goes play
goes_with None = fails

-- the amount that a row gets, within 0 to 10^15
abbrev pub new_amount : Change → ℤ → Option ℕ → Option ℕ
new_amount change n old = option_and_then (λ old. as_amount (changed change old n)) old

-- a row changes
abbrev pub change_row : Option Row → Change → ℤ → Play → Option Play
change_row None change n play = None
change_row (Some row) change n play =
    option_map (λ new. record play { view = with_amount row new play.view })
    (new_amount change n (amount_of row play.view))

abbrev pub is_of : List ℕ → PlayRecord → Bool
is_of resource r = bytes_eq r.resource resource

-- the record of a change, with the next number of its resource
abbrev pub new_record : Row → ℕ → ℕ → List PlayRecord → PlayRecord
new_record row old new records = record {
  resource = row.name;
  entry = record { seq = count_by (is_of row.name) records + 1; flags = 0; key = row.key; old = old; new = new };
  forgotten = false;
}

-- an outside row changes, with a record and an effect
abbrev pub with_record : Row → ℕ → ℕ → Play → Play
with_record row old new play = record {
  view = with_amount row new play.view;
  records = play.records ++ new_record row old new play.records ∷ [];
  forced = play.forced;
  effects = play.effects ++ Changed row.name row.key old new ∷ [];
}

abbrev pub change_outside : Option Row → Change → ℤ → Play → Option Play
change_outside None change n play = None
change_outside (Some row) change n play =
    option_and_then (λ old. option_map (λ new. with_record row old new play) (new_amount change n (Some old)))
    (amount_of row play.view)

-- the last record of a resource, where it is there and unforgotten
abbrev pub last_of : List ℕ → List PlayRecord → Option PlayRecord
last_of resource [] = None
last_of resource (r ∷ rs) =
    elim (last_of resource rs) [ Some s ↦ Some s | None ↦ if is_of resource r then Some r else None ]

abbrev pub kept_last : List ℕ → List PlayRecord → Option LogRecord
kept_last resource rs =
    option_and_then (λ (r : PlayRecord). if r.forgotten then None else Some r.entry) (last_of resource rs)

abbrev pub forget : List ℕ → ℕ → List PlayRecord → List PlayRecord
forget resource seq rs =
    map (λ (r : PlayRecord). if is_of resource r && (r.entry.seq == seq) then record r { forgotten = true } else r) rs

abbrev pub without_last : List ℕ → LogRecord → Play → Play
without_last resource r play = record {
  view = with_amount (outside_row resource r.key) r.old play.view;
  records = forget resource r.seq play.records;
  forced = play.forced;
  effects = play.effects ++ Retracted resource ∷ [];
}

abbrev pub retract_last : List ℕ → Play → Option Play
retract_last resource play =
    option_map (λ (r : LogRecord). without_last resource r play) (kept_last resource play.records)

-- both changes of a move, by one number
abbrev pub shifted : List Arg → Cell → Cell → List SignedTerm → Play → Option Play
shifted args from to e play =
    option_and_then (change_row (row_of Inside args to) Rise (worth args play.view e))
    (change_row (row_of Inside args from) Fall (worth args play.view e) play)

abbrev pub do_step : List Arg → Step → Play → Did
do_step args (Need c) play = if holds args play.view c then goes play else fails
do_step args (When c) play = if holds args play.view c then goes play else skips
do_step args (Add cell e) play = goes_with (change_row (row_of Inside args cell) Rise (worth args play.view e) play)
do_step args (Sub cell e) play = goes_with (change_row (row_of Inside args cell) Fall (worth args play.view e) play)
do_step args (Set cell e) play = goes_with (change_row (row_of Inside args cell) Become (worth args play.view e) play)
do_step args (Move from to e) play = goes_with (shifted args from to e play)
do_step args (Grow cell e) play =
    goes_with (change_outside (row_of Outside args cell) Rise (worth args play.view e) play)
do_step args (Shrink cell e) play =
    goes_with (change_outside (row_of Outside args cell) Fall (worth args play.view e) play)
do_step args (Retract resource) play = goes_with (retract_last resource play)
do_step args Fail play = fails
do_step args Abort play = goes (record play { forced = true })

-- a call ends in a new state, or fails at a step
pub data Ran : Type 0 where
  ran : Play → Ran
  failed_at : ℕ → Ran

-- the steps from number n on; where skipping is set the first is passed over
abbrev pub run_steps : List Arg → Bool → ℕ → List Step → Play → Ran
run_steps args skipping n [] play = ran play
run_steps args true n (step ∷ rest) play = run_steps args false (n + 1) rest play
run_steps args false n (step ∷ rest) play = elim (do_step args step play) [
  | goes next ↦ run_steps args false (n + 1) rest next
  | skips ↦ run_steps args true (n + 1) rest play
  | fails ↦ failed_at n
]

-- one call
abbrev pub run_call : List Step → List Arg → Play → Ran
run_call script args play = run_steps args false 1 script (record play { effects = [] })

abbrev pub rows_in : List Seen → List Row
rows_in view = map (λ (s : Seen). s.0) view
