-- The effects of a call, carried out.
use Rattle.std.proofs.Common.{◌≡◌, ◌∙◌, ℕ, ◌+◌, ◌==◌, List, [], ◌∷◌, ◌++◌, Bool, true, false, cond, length, refl, sym, ap, subst, Some, is_some, append-nil, append_assoc}
use Rattle.std.specs.List.{list_all}
use Rattle.std.specs.Option.{option_map_or}
use Rattle.std.proofs.lemmas.Bool.{and_from}
use Rattle.qc_base.specs.declared.log_line.LogLine.{LogLine}
use Rattle.qc_base.specs.declared.log_line.LogLine.TheVariants.{Forgot}
use Rattle.qc_base.specs.declared.log_line.LogRecord.{LogRecord}
use Rattle.qc_base.specs.declared.recording.Row.{Row}
use Rattle.qc_base.specs.Rows.{OutsideRows, put_row}
use Rattle.qc_base.specs.LogLines.{is_opened, is_registered}
use Rattle.qc_catalogue.specs.declared.catalogue.Catalogue.{Catalogue}
use Rattle.qc_catalogue.specs.declared.catalogue.Resource.{Resource}
use Rattle.qc_catalogue.specs.Lookup.{resource_named}
use Rattle.qc_play.specs.declared.effect.Effect.{Effect}
use Rattle.qc_play.specs.declared.effect.Effect.TheVariants.{Change, Retract}
use Rattle.qc_play.specs.Play.{new_record, outside_row}
use Rattle.qc_play.specs.Effects.{Outer, IsChange, IsRetract, IsEffect, LeadsTo, IsOuter}
use Rattle.qc_play.proofs.OuterLaws.{effect-outer}
use Rattle.crm_log.specs.Log.{all_lines, lines_payload}
use Rattle.crm_clerk.specs.Clerk.{ClerkView, forgetting_lines, forgot_lines, last_kept, records_in}
use Rattle.crm_driver.specs.RowRules.{put_of}
use Rattle.crm_recovery.specs.Settling.{rows_after}
use Rattle.qc_worker.specs.Effects.{change_lines, puts_back, retract_puts}
use Rattle.qc_machine.specs.Carrying.{carry_all, carry_change, carry_effect, carry_out, carry_retract, clerk_over}
use Rattle.qc_machine.specs.Holding.{has_row, HaveNoCommon}
use Rattle.qc_machine.specs.LogAndRows.{LogAndRows, after_force, lines_of, with_lines, with_puts}
use Rattle.qc_machine.specs.OwnLines.{is_own}
use Rattle.qc_machine.specs.State.{after_group}
use Rattle.qc_machine.proofs.LinesBehind.{of-one-alone}
use Rattle.qc_laws.specs.Logged.{IsLogged, IsCarried, AreKnown, LeavesOthers}
use Rattle.qc_laws.proofs.LineWords.{itself, lines_by, change-own, own-append}
use Rattle.qc_laws.proofs.Lasts.{own-count, last-kept-is, last-few}
use Rattle.qc_laws.proofs.Logging.{resource-name, change-logged, retract-logged, logged-behind}
use Rattle.qc_laws.proofs.RowsOn.{RowsOn, rows-on}

-- the lines of the log

all-append : (xs ys : List (List LogLine)) → all_lines (xs ++ ys) ≡ all_lines xs ++ all_lines ys
all-append [] ys = refl
all-append (x ∷ xs) ys = ap (λ l. x ++ l) (all-append xs ys) ∙ sym (append_assoc x (all_lines xs) (all_lines ys))

pub lines-with : (more : List LogLine) (o : LogAndRows) → lines_of (with_lines more o) ≡ lines_of o ++ more
lines-with more o = sym (append_assoc (all_lines o.groups) o.staged more)

abbrev forced_by : List LogLine → LogAndRows → LogAndRows
forced_by staged o = elim staged as (λ x. LogAndRows) [
  | [] ↦ o
  | line ∷ lines ↦ record o { groups = o.groups ++ o.staged ∷ []; staged = []; log = after_group (length (lines_payload o.staged)) o.log }
]

pub lines-forced : (o : LogAndRows) → lines_of (after_force o) ≡ lines_of o
lines-forced o = by o.staged
  where
    by : (staged : List LogLine) → lines_of (forced_by staged o) ≡ lines_of o
    by [] = refl
    by (line ∷ lines) = append-nil (all_lines (o.groups ++ o.staged ∷ [])) ∙ all-append o.groups (o.staged ∷ []) ∙ ap (λ l. all_lines o.groups ++ l) (append-nil o.staged)

pub rows-forced : (o : LogAndRows) → (after_force o).rows ≡ o.rows
rows-forced o = by o.staged
  where
    by : (staged : List LogLine) → (forced_by staged o).rows ≡ o.rows
    by [] = refl
    by (line ∷ lines) = refl

-- what the log and the rows are behind a change, and behind a retract

pub lines-changed : (r : Resource) (c : ClerkView) (key : List ℕ) (old new : ℕ) (o : LogAndRows) → lines_of (carry_change r c key old new o) ≡ lines_of o ++ change_lines c r key old new
lines-changed r c key old new o = by r.early
  where
    by : (b : Bool) → lines_of (cond b (with_puts (put_of r.name key new ∷ []) (after_force (with_lines (change_lines c r key old new) o))) (with_lines (change_lines c r key old new) o)) ≡ lines_of o ++ change_lines c r key old new
    by true = lines-forced (with_lines (change_lines c r key old new) o) ∙ lines-with (change_lines c r key old new) o
    by false = lines-with (change_lines c r key old new) o

rows-changed : (r : Resource) (c : ClerkView) (key : List ℕ) (old new : ℕ) (o : LogAndRows) → (carry_change r c key old new o).rows ≡ cond r.early (put_row r.name key new o.rows) o.rows
rows-changed r c key old new o = by r.early
  where
    by : (b : Bool) → (cond b (with_puts (put_of r.name key new ∷ []) (after_force (with_lines (change_lines c r key old new) o))) (with_lines (change_lines c r key old new) o)).rows ≡ cond b (put_row r.name key new o.rows) o.rows
    by true = ap (put_row r.name key new) (rows-forced (with_lines (change_lines c r key old new) o))
    by false = refl

pub lines-retracted : (r : Resource) (c : ClerkView) (o : LogAndRows) → lines_of (carry_retract r c o) ≡ lines_of o ++ forgetting_lines c r.name
lines-retracted r c o = lines-with (forgetting_lines c r.name) (with_puts (retract_puts c r) o)

rows-retracted : (r : Resource) (c : ClerkView) (o : LogAndRows) (last : LogRecord) → last_kept c.lines c.attempt r.name ≡ Some last → (carry_retract r c o).rows ≡ cond r.early (put_row r.name last.key last.old o.rows) o.rows
rows-retracted r c o last e = ap (λ x. rows_after (puts_back r x) o.rows) e ∙ by r.early
  where
    by : (b : Bool) → rows_after (cond b (put_of r.name last.key last.old ∷ []) []) o.rows ≡ cond b (put_row r.name last.key last.old o.rows) o.rows
    by true = refl
    by false = refl

-- from one state of log and rows to the next
pub record IsCarriedOn (c : Catalogue) (o after : LogAndRows) (attempt id : ℕ) (rows : List Row) (first : OutsideRows) (st : Outer) : Type 0 where
  pub carried : IsCarried c after attempt id rows first st
  pub leaves : LeavesOthers attempt rows o after

carried-by : (c : Catalogue) (o after : LogAndRows) (attempt id : ℕ) (rows : List Row) (first : OutsideRows) (st : Outer) (more : List LogLine) (new : OutsideRows) → lines_of after ≡ lines_of o ++ more → after.rows ≡ new
    → list_all (is_own attempt) more ≡ true → IsLogged c (lines_of o ++ more) attempt id st.records → RowsOn c rows first o.rows new st → IsCarriedOn c o after attempt id rows first st
carried-by c o after attempt id rows first st more new lines same own logged on = record {
  carried = record {
    logged = subst (λ l. IsLogged c l attempt id st.records) (sym lines) logged;
    early = λ r k e row. (λ i. same i r k) ∙ on.early r k e row;
    late = λ r k e row. (λ i. same i r k) ∙ on.late r k e row;
  };
  leaves = record { more = more; lines = lines; own = own; rows_stay = λ r k none. (λ i. same i r k) ∙ on.others r k none };
}

module _ (c : Catalogue) (o : LogAndRows) (attempt id : ℕ) (rows : List Row) (first : OutsideRows) (st next : Outer) (is : IsCarried c o attempt id rows first st) (r : Resource) (resource : List ℕ) (found : resource_named resource c.resources ≡ Some r) where
  abbrev clerk : ClerkView
  clerk = clerk_over o attempt id

  name : r.name ≡ resource
  name = resource-name c resource r found

  -- the lines of a change, by the record of the play state
  pub lines-are : (key : List ℕ) (old new : ℕ) → change_lines (clerk_over o attempt id) r key old new
      ≡ lines_by (is_registered (lines_of o) attempt r.name) (is_opened (lines_of o) attempt) attempt id r (new_record (outside_row resource key) old new st.records).entry
  lines-are key old new =
      let count = ap (λ w. length (records_in (lines_of o) attempt w)) name ∙ own-count c (lines_of o) attempt id st.records is.logged resource in
      λ i. lines_by (is_registered (lines_of o) attempt r.name) (is_opened (lines_of o) attempt) attempt id r (record { seq = count i + 1; flags = 0; key = key; old = old; new = new })

  pub change-carried : (key : List ℕ) (old new : ℕ) → IsChange resource key old new st next → has_row rows (outside_row resource key) ≡ true
      → IsCarriedOn c o (carry_change r (clerk_over o attempt id) key old new o) attempt id rows first next
  change-carried key old new change here =
      let rec : LogRecord = (new_record (outside_row resource key) old new st.records).entry in
      let more : List LogLine = lines_by (is_registered (lines_of o) attempt r.name) (is_opened (lines_of o) attempt) attempt id r rec in
      carried-by c o (carry_change r (clerk_over o attempt id) key old new o) attempt id rows first next more (cond r.early (put_row r.name key new o.rows) o.rows)
      (lines-changed r (clerk_over o attempt id) key old new o ∙ ap (λ l. lines_of o ++ l) (lines-are key old new))
      (rows-changed r (clerk_over o attempt id) key old new o)
      (change-own attempt id r rec (is_registered (lines_of o) attempt r.name) (is_opened (lines_of o) attempt))
      (subst (λ rs. IsLogged c (lines_of o ++ more) attempt id rs) (sym change.records) (change-logged c (lines_of o) attempt id st.records is.logged r resource key old new found))
      (rows-on c o attempt id rows first st next is r resource key new found here (ap is_some change.there) change.amounts)

  pub last-of-log : (retract : IsRetract resource st next) → last_kept (lines_of o) attempt r.name ≡ Some retract.entry
  last-of-log retract = ap (last_kept (lines_of o) attempt) name ∙ last-kept-is c (lines_of o) attempt id st.records is.logged resource retract.entry retract.last

  pub retract-carried : (retract : IsRetract resource st next) → IsOuter first st → has_row rows (outside_row resource retract.entry.key) ≡ true
      → IsCarriedOn c o (carry_retract r (clerk_over o attempt id) o) attempt id rows first next
  retract-carried retract outer here =
      let e : LogRecord = retract.entry in
      let more : List LogLine = Forgot attempt resource e.seq ∷ [] in
      carried-by c o (carry_retract r (clerk_over o attempt id) o) attempt id rows first next more (cond r.early (put_row r.name e.key e.old o.rows) o.rows)
      (lines-retracted r (clerk_over o attempt id) o ∙ ap (λ x. lines_of o ++ forgot_lines (clerk_over o attempt id) r.name x) (last-of-log retract) ∙ ap (λ w. lines_of o ++ Forgot attempt w e.seq ∷ []) name)
      (rows-retracted r (clerk_over o attempt id) o e (last-of-log retract))
      (and_from (attempt == attempt) true (itself attempt) refl)
      (subst (λ rs. IsLogged c (lines_of o ++ more) attempt id rs) (sym retract.records)
      (retract-logged c (lines_of o) attempt id st.records is.logged resource e.seq (last-few resource st.records e (outer.numbers resource) retract.last)))
      (rows-on c o attempt id rows first st next is r resource e.key e.old found here retract.there retract.amounts)

module _ (c : Catalogue) (attempt id : ℕ) (rows : List Row) (first : OutsideRows) (known : AreKnown c rows first) where
  pub out-carried : (o : LogAndRows) (st next : Outer) (e : Effect) → IsCarried c o attempt id rows first st → IsOuter first st → IsEffect e st next
      → IsCarriedOn c o (carry_out c attempt id e o) attempt id rows first next
  out-carried o st next (Change resource key old new) is outer change =
      let there : is_some (first resource key) ≡ true = sym (outer.there resource key) ∙ ap is_some change.there in
      let found = known.resource resource key there in
      subst (λ x. IsCarriedOn c o (option_map_or (λ (r : Resource). carry_effect r (clerk_over o attempt id) (Change resource key old new) o) x o) attempt id rows first next) (sym found.1)
      (change-carried c o attempt id rows first st next is found.0 resource found.1 key old new change (known.row resource key there))
  out-carried o st next (Retract resource) is outer retract =
      let there : is_some (first resource retract.entry.key) ≡ true = sym (outer.there resource retract.entry.key) ∙ retract.there in
      let found = known.resource resource retract.entry.key there in
      subst (λ x. IsCarriedOn c o (option_map_or (λ (r : Resource). carry_effect r (clerk_over o attempt id) (Retract resource) o) x o) attempt id rows first next) (sym found.1)
      (retract-carried c o attempt id rows first st next is found.0 resource found.1 retract outer (known.row resource retract.entry.key there))

  pub leaves-itself : (o : LogAndRows) → LeavesOthers attempt rows o o
  leaves-itself o = record { more = []; lines = sym (append-nil (lines_of o)); own = refl; rows_stay = λ r k none. refl }

  pub leaves-on : (o mid after : LogAndRows) → LeavesOthers attempt rows o mid → LeavesOthers attempt rows mid after → LeavesOthers attempt rows o after
  leaves-on o mid after one rest = record {
    more = one.more ++ rest.more;
    lines = rest.lines ∙ ap (λ l. l ++ rest.more) one.lines ∙ append_assoc (lines_of o) one.more rest.more;
    own = own-append attempt one.more rest.more one.own rest.own;
    rows_stay = λ r k none. rest.rows_stay r k none ∙ one.rows_stay r k none;
  }

  -- the effects of a call, one after the other
  pub all-carried : (es : List Effect) (o : LogAndRows) (st next : Outer) → IsCarried c o attempt id rows first st → IsOuter first st → LeadsTo st es next
      → IsCarriedOn c o (carry_all c attempt id es o) attempt id rows first next
  all-carried [] o st next is outer leads = record {
    carried = record {
      logged = subst (λ rs. IsLogged c (lines_of o) attempt id rs) (sym leads.records) is.logged;
      early = λ r k e row. is.early r k e row ∙ sym (leads.amounts r k);
      late = is.late;
    };
    leaves = leaves-itself o;
  }
  all-carried (e ∷ es) o st next is outer leads =
      let mid : Outer = leads.0 in
      let t : LogAndRows = carry_out c attempt id e o in
      let one = out-carried o st mid e is outer leads.1 in
      let rest = all-carried es t mid next one.carried (effect-outer first e st mid outer leads.1) leads.2 in
      record { carried = rest.carried; leaves = leaves-on o t (carry_all c attempt id es t) one.leaves rest.leaves }

-- what is carried of another attempt stays so
pub carried-aside : (c : Catalogue) (o after : LogAndRows) (a b id : ℕ) (rows others : List Row) (first : OutsideRows) (st : Outer) → LeavesOthers a rows o after → (b == a) ≡ false → HaveNoCommon others rows
    → IsCarried c o b id others first st → IsCarried c after b id others first st
carried-aside c o after a b id rows others first st leaves differ apart is = record {
  logged = subst (λ l. IsLogged c l b id st.records) (sym leaves.lines) (logged-behind c (lines_of o) leaves.more b id st.records (of-one-alone a b leaves.more leaves.own differ) is.logged);
  early = λ r k e row. leaves.rows_stay r k (apart (outside_row r k) row) ∙ is.early r k e row;
  late = λ r k e row. leaves.rows_stay r k (apart (outside_row r k) row) ∙ is.late r k e row;
}
