-- The effects of a call lead from the records and outside amounts before it to those after it.
use Rattle.std.proofs.Common.{◌≡◌, ◌∙◌, ℕ, List, [], ◌∷◌, Bool, true, false, cond, ◌&&◌, find, refl, sym, ap, subst, true≢false, Option, Some, is_some, option_and_then, option_map, reverse}
use Rattle.std.specs.Str.{bytes_eq}
use Rattle.std.proofs.lemmas.Bool.{and_parts, and_right, cond-true, cond-false}
use Rattle.std.proofs.lemmas.List.{reverse-append}
use Rattle.qc_base.specs.declared.recording.Row.{Row}
use Rattle.qc_base.specs.declared.recording.Arg.{Arg}
use Rattle.qc_base.specs.declared.recording.Space.TheVariants.{Inside, Outside}
use Rattle.qc_base.specs.declared.log_line.LogRecord.{LogRecord}
use Rattle.qc_base.specs.Rows.{OutsideRows, row_eq, space_eq}
use Rattle.qc_play.specs.declared.effect.Effect.TheVariants.{Change, Retract}
use Rattle.qc_script.specs.declared.step.Step.{Step}
use Rattle.qc_play.specs.Play.{Seen, Play, outside_row, amount_of, with_amount, kept_last, forget, with_record, without_last, ran, run_call}
use Rattle.qc_play.specs.Effects.{records_of, amounts_in, Outer, outer_of, IsSame, IsChange, IsRetract, LeadsTo, stack_of, IsChain, IsOuter}
use Rattle.qc_play.proofs.RowNames.{amount-other}
use Rattle.qc_play.proofs.Playing.{OnPlay, OnRan, IsLaw, call-on}
use Rattle.qc_play.proofs.OuterLaws.{bytes-same, last-split, kept-is, change-outer, retract-outer, same-outer, same-itself, leads-same, leads-push}

-- the amount of a row that is set

pub amount-here : (row : Row) (n : ℕ) (view : List Seen) → is_some (amount_of row view) ≡ true → amount_of row (with_amount row n view) ≡ Some n
amount-here row n [] e = absurd (true≢false (sym e))
amount-here row n (s ∷ view) e = by (row_eq s.0 row) refl e (amount-here row n view)
  where
    amount : Option Seen → Option ℕ
    amount o = option_and_then (λ (s : Seen). s.1) o

    by : (b : Bool) → row_eq s.0 row ≡ b → is_some (option_and_then (λ (s : Seen). s.1) (cond b (Some s) (find (λ (s : Seen). row_eq s.0 row) view))) ≡ true
        → (is_some (amount_of row view) ≡ true → amount_of row (with_amount row n view) ≡ Some n)
        → amount_of row (cond b ((s.0, Some n)) s ∷ with_amount row n view) ≡ Some n
    by true f e on = ap (λ (o : Option Seen). option_and_then (λ (s : Seen). s.1) o) (cond-true (row_eq s.0 row) (Some ((s.0, Some n))) (find (λ (s : Seen). row_eq s.0 row) (with_amount row n view)) f)
    by false f e on = ap (λ (o : Option Seen). option_and_then (λ (s : Seen). s.1) o) (cond-false (row_eq s.0 row) (Some s) (find (λ (s : Seen). row_eq s.0 row) (with_amount row n view)) f) ∙ on e

outside-is : (row : Row) (r k : List ℕ) → row.space ≡ Outside → r ≡ row.name → k ≡ row.key → outside_row r k ≡ row
outside-is row r k e f g = λ i. record { space = sym e i; name = f i; key = g i }

pub amounts-set : (row : Row) (n : ℕ) (view : List Seen) → row.space ≡ Outside → is_some (amount_of row view) ≡ true → (r k : List ℕ) → amounts_in (with_amount row n view) r k ≡ cond (bytes_eq r row.name && bytes_eq k row.key) (Some n) (amounts_in view r k)
amounts-set row n view outside there r k = by (bytes_eq r row.name && bytes_eq k row.key) refl
  where
    by : (b : Bool) → (bytes_eq r row.name && bytes_eq k row.key) ≡ b → amounts_in (with_amount row n view) r k ≡ cond b (Some n) (amounts_in view r k)
    by true e =
        let parts = and_parts (bytes_eq r row.name) _ e in
        let same : outside_row r k ≡ row = outside-is row r k outside (bytes-same r row.name parts.0) (bytes-same k row.key parts.1) in
        ap (λ (x : Row). amount_of x (with_amount row n view)) same ∙ amount-here row n view there
    by false e = amount-other row (outside_row r k) n view (and_right (space_eq Outside row.space) _ e)

pub amounts-inside : (row : Row) (n : ℕ) (view : List Seen) → row.space ≡ Inside → (r k : List ℕ) → amounts_in (with_amount row n view) r k ≡ amounts_in view r k
amounts-inside row n view inside r k = amount-other row (outside_row r k) n view (ap (λ s. space_eq Outside s && (bytes_eq r row.name && bytes_eq k row.key)) inside)

-- what a call has led to
pub record HasLed (first : OutsideRows) (base : Outer) (play : Play) : Type 0 where
  pub leads : LeadsTo base play.effects (outer_of play)
  pub stands : IsOuter first (outer_of play)

led-law : (first : OutsideRows) (base : Outer) → IsLaw (HasLed first base)
led-law first base = record {
  change = λ row n play inside most p. let same : IsSame (outer_of play) (outer_of (record play { view = with_amount row n play.view })) = record { records = refl; amounts = amounts-inside row n play.view inside } in
      record { leads = leads-same play.effects base (outer_of play) (outer_of (record play { view = with_amount row n play.view })) p.leads same; stands = same-outer first (outer_of play) (outer_of (record play { view = with_amount row n play.view })) same p.stands };
  outside = λ row old new play outside e most p.
      let after : Play = with_record row old new play in
      let change : IsChange row.name row.key old new (outer_of play) (outer_of after) = record {
        there = ap (λ (x : Row). amount_of x play.view) (outside-is row row.name row.key outside refl refl) ∙ e;
        records = refl;
        amounts = amounts-set row new play.view outside (ap is_some e);
      } in
      record { leads = leads-push play.effects (Change row.name row.key old new) base (outer_of play) (outer_of after) p.leads change; stands = change-outer first row.name row.key old new (outer_of play) (outer_of after) p.stands change };
  retract = λ resource r play e p. subst (λ o. OnPlay o (HasLed first base)) (sym (ap (option_map (λ (r : LogRecord). without_last resource r play)) e)) (retracts resource r play e p);
  force = λ play p. record { leads = p.leads; stands = record { numbers = p.stands.numbers; chain = p.stands.chain; there = p.stands.there } };
}
  where
    retracts : (resource : List ℕ) (r : LogRecord) (play : Play) → kept_last resource play.records ≡ Some r → HasLed first base play → HasLed first base (without_last resource r play)
    retracts resource r play e p =
        let after : Play = without_last resource r play in
        let kept = kept-is resource play.records r e in
        let split = last-split resource 1 play.records kept.0 (p.stands.numbers resource) kept.1 kept.2 in
        let stack : stack_of resource play.records ≡ kept.0.entry ∷ reverse (records_of resource (forget resource kept.0.entry.seq play.records)) = ap reverse split ∙ reverse-append (records_of resource (forget resource kept.0.entry.seq play.records)) (kept.0.entry ∷ []) in
        let top : amounts_in play.view resource kept.0.entry.key ≡ Some (kept.0.entry.new) = (subst (λ rs. IsChain (first resource) rs (amounts_in play.view resource)) stack (p.stands.chain resource)).0 in
        let there : is_some (amounts_in play.view resource r.key) ≡ true = ap (λ (x : LogRecord). is_some (amounts_in play.view resource x.key)) (sym kept.3) ∙ ap is_some top in
        let change : IsRetract resource (outer_of play) (outer_of after) = record {
          entry = r;
          last = e;
          there = there;
          records = refl;
          amounts = amounts-set (outside_row resource r.key) r.old play.view refl there;
        } in
        record { leads = leads-push play.effects (Retract resource) base (outer_of play) (outer_of after) p.leads change; stands = retract-outer first resource (outer_of play) (outer_of after) p.stands change }

-- a call
pub call-leads : (first : OutsideRows) (script : List Step) (args : List Arg) (play next : Play) → IsOuter first (outer_of play) → run_call script args play ≡ ran next → HasLed first (outer_of play) next
call-leads first script args play next is e =
    subst (λ r. OnRan r (HasLed first (outer_of play))) e (call-on (HasLed first (outer_of play)) (led-law first (outer_of play)) script args play (record { leads = same-itself (outer_of play); stands = record { numbers = is.numbers; chain = is.chain; there = is.there } }))

-- before the first call
pub begun : (view : List Seen) → IsOuter (amounts_in view) (outer_of (record { view = view; records = []; forced = false; effects = [] }))
begun view = record { numbers = λ r. tt; chain = λ r k. refl; there = λ r k. refl }
