-- What a call's effects are: as many changes as steps may have, no more retracts than records are kept, and resources
-- that its steps name.
use Rattle.std.proofs.Common.{◌≡◌, ◌∙◌, ℕ, ◌+◌, ◌≤◌, ◌==◌, ℤ, List, [], ◌∷◌, ◌++◌, Bool, true, false, cond, ◌&&◌, length, length-append, refl, sym, ap, subst, arith, Option, Some, None, option_and_then, option_map, eq-eqb}
use Rattle.std.specs.List.{flat_map, list_all, list_any}
use Rattle.std.specs.Str.{bytes_eq}
use Rattle.std.proofs.lemmas.Bool.{and_parts}
use Rattle.std.proofs.lemmas.List.{length-map}
use Rattle.std.proofs.lemmas.List.Folds.{list_all-append}
use Rattle.qc_base.specs.declared.log_line.LogRecord.{LogRecord}
use Rattle.qc_base.specs.declared.recording.Arg.{Arg}
use Rattle.qc_base.specs.declared.recording.Row.{Row}
use Rattle.qc_base.specs.declared.recording.Space.TheVariants.{Inside, Outside}
use Rattle.qc_script.specs.Naming.{effect_of, key_text, outs, row_of}
use Rattle.qc_script.specs.declared.step.Cell.{Cell}
use Rattle.qc_script.specs.declared.step.Step.{Step}
use Rattle.qc_script.specs.declared.step.Step.TheVariants.{Need, When, Add, Sub, Set, Move, Grow, Shrink, Retract as RetractStep, Fail, Abort}
use Rattle.qc_play.specs.declared.change.Change.{Change as Kind}
use Rattle.qc_play.specs.declared.change.Change.TheVariants.{Rise, Fall, Become}
use Rattle.qc_play.specs.declared.effect.Effect.{Effect}
use Rattle.qc_play.specs.declared.effect.Effect.TheVariants.{Change, Retract}
use Rattle.qc_play.specs.declared.record.PlayRecord.{PlayRecord}
use Rattle.qc_play.specs.Play.{Play, amount_of, with_amount, as_amount, changed, new_amount, change_row, new_record, with_record, change_outside, is_of, last_of, forget, kept_last, without_last, retract_last, Did, goes, skips, fails, do_step, ran, failed_at, run_steps, run_call, worth, holds}
use Rattle.qc_play.proofs.CallCounts.{call-adds}
use Rattle.qc_play.proofs.OuterLaws.{kept-is}
use Rattle.qc_play.proofs.Playing.{IsLaw, OnGoes, OnPlay, OnRan, call-on, goes-with}
use Rattle.qc_worker.specs.Effects.{resource_of}

-- how many of the effects are changes, and how many are retracts

abbrev pub changes : List Effect → ℕ
changes [] = 0
changes (Change resource key old new ∷ es) = changes es + 1
changes (Retract resource ∷ es) = changes es

abbrev pub retracts : List Effect → ℕ
retracts [] = 0
retracts (Change resource key old new ∷ es) = retracts es
retracts (Retract resource ∷ es) = retracts es + 1

changes-push : (es : List Effect) (e : Effect) → changes (es ++ e ∷ []) ≡ changes es + changes (e ∷ [])
changes-push [] e = omega arith
changes-push (Change resource key old new ∷ es) e = omega (arith, changes-push es e)
changes-push (Retract resource ∷ es) e = changes-push es e

retracts-push : (es : List Effect) (e : Effect) → retracts (es ++ e ∷ []) ≡ retracts es + retracts (e ∷ [])
retracts-push [] e = omega arith
retracts-push (Change resource key old new ∷ es) e = retracts-push es e
retracts-push (Retract resource ∷ es) e = omega (arith, retracts-push es e)

-- how many records are not forgotten

abbrev one_kept : PlayRecord → ℕ
one_kept r = cond r.forgotten 0 1

abbrev pub kept : List PlayRecord → ℕ
kept [] = 0
kept (r ∷ rs) = one_kept r + kept rs

kept-push : (rs : List PlayRecord) (r : PlayRecord) → kept (rs ++ r ∷ []) ≡ kept rs + one_kept r
kept-push [] r = omega arith
kept-push (x ∷ rs) r = omega (arith, kept-push rs r)

abbrev forgot_if : Bool → PlayRecord → PlayRecord
forgot_if b r = cond b (record r { forgotten = true }) r

few-if : (b : Bool) (r : PlayRecord) → one_kept (forgot_if b r) ≤ one_kept r
few-if true r = omega arith
few-if false r = omega arith

fewer : (resource : List ℕ) (seq : ℕ) (rs : List PlayRecord) → kept (forget resource seq rs) ≤ kept rs
fewer resource seq [] = omega arith
fewer resource seq (r ∷ rs) = omega (arith, few-if (is_of resource r && (r.entry.seq == seq)) r, fewer resource seq rs)

-- the last one that is there is forgotten
one-less : (resource : List ℕ) (rs : List PlayRecord) (p : PlayRecord) → last_of resource rs ≡ Some p → p.forgotten ≡ false → kept (forget resource p.entry.seq rs) + 1 ≤ kept rs
one-less resource [] p last mark = absurd (none last)
  where
    none : None ≡ Some p → ⊥
    none e = cc
one-less resource (r ∷ rs) p last mark = by (last_of resource rs) refl last (λ e. one-less resource rs p e mark)
  where
    head : ℕ
    head = one_kept (forgot_if (is_of resource r && (r.entry.seq == p.entry.seq)) r)

    here : (b : Bool) → is_of resource r ≡ b → cond b (Some r) None ≡ Some p → head + kept (forget resource p.entry.seq rs) + 1 ≤ one_kept r + kept rs
    here true own e =
        let same : r ≡ p = cc in
        let seq : (r.entry.seq == p.entry.seq) ≡ true = eq-eqb r.entry.seq p.entry.seq (ap (λ (x : PlayRecord). x.entry.seq) same) in
        let marked : head ≡ 0 = λ i. one_kept (forgot_if (own i && seq i) r) in
        let one : one_kept r ≡ 1 = ap (λ (b : Bool). cond b 0 1) (ap (λ (x : PlayRecord). x.forgotten) same ∙ mark) in
        omega (arith, marked, one, fewer resource p.entry.seq rs)
    here false own e = absurd (none e)
      where
        none : None ≡ Some p → ⊥
        none e = cc

    by : (o : Option PlayRecord) → last_of resource rs ≡ o → elim o [ Some s ↦ Some s | None ↦ cond (is_of resource r) (Some r) None ] ≡ Some p
        → (last_of resource rs ≡ Some p → kept (forget resource p.entry.seq rs) + 1 ≤ kept rs) → head + kept (forget resource p.entry.seq rs) + 1 ≤ one_kept r + kept rs
    by (Some s) e f on = omega (arith, few-if (is_of resource r && (r.entry.seq == p.entry.seq)) r, on (e ∙ f))
    by None e f on = here (is_of resource r) refl f

retract-less : (resource : List ℕ) (rs : List PlayRecord) (r : LogRecord) → kept_last resource rs ≡ Some r → kept (forget resource r.seq rs) + 1 ≤ kept rs
retract-less resource rs r e =
    let is = kept-is resource rs r e in
    subst (λ (x : LogRecord). kept (forget resource x.seq rs) + 1 ≤ kept rs) is.3 (one-less resource rs is.0 is.1 is.2)

-- through a call

record Spent (first records : ℕ) (play : Play) : Type 0 where
  taken : retracts play.effects + kept play.records ≤ first + changes play.effects
  more : length play.records ≡ records + changes play.effects

spent-law : (first records : ℕ) → IsLaw (Spent first records)
spent-law first records = record {
  change = λ row n play inside most p. record { taken = p.taken; more = p.more };
  outside = λ row old new play outside e most p.
      let effect : Effect = Change row.name row.key old new in
      let entry : PlayRecord = new_record row old new play.records in
      record {
        taken = omega (arith, p.taken, changes-push play.effects effect, retracts-push play.effects effect, kept-push play.records entry);
        more = omega (arith, p.more, changes-push play.effects effect, length-append play.records (entry ∷ []));
      };
  retract = λ resource r play e p. subst (λ o. OnPlay o (Spent first records)) (sym (ap (option_map (λ (r : LogRecord). without_last resource r play)) e)) (retracted resource r play e p);
  force = λ play p. record { taken = p.taken; more = p.more };
}
  where
    retracted : (resource : List ℕ) (r : LogRecord) (play : Play) → kept_last resource play.records ≡ Some r → Spent first records play → Spent first records (without_last resource r play)
    retracted resource r play e p = record {
      taken = omega (arith, p.taken, changes-push play.effects (Retract resource), retracts-push play.effects (Retract resource), retract-less resource play.records r e);
      more = omega (
        arith,
        p.more,
        changes-push play.effects (Retract resource),
        length-map play.records (λ (x : PlayRecord). cond (is_of resource x && (x.entry.seq == r.seq)) (record x { forgotten = true }) x),
      );
    }

pub call-spends : (script : List Step) (args : List Arg) (play next : Play) → run_call script args play ≡ ran next
    → (retracts next.effects + kept next.records ≤ kept play.records + changes next.effects) × (changes next.effects ≤ outs script)
call-spends script args play next e =
    let none : Spent (kept play.records) (length play.records) (record play { effects = [] }) = record { taken = omega arith; more = omega arith } in
    let spent = subst (λ r. OnRan r (Spent (kept play.records) (length play.records))) e (call-on (Spent (kept play.records) (length play.records)) (spent-law (kept play.records) (length play.records)) script args play none) in
    (spent.taken, omega (arith, spent.more, (call-adds script args play next e).1))

-- the resources of effects are among these names

abbrev pub is_among : List (List ℕ) → List ℕ → Bool
is_among names n = list_any (bytes_eq n) names

abbrev pub are_among : List (List ℕ) → List (List ℕ) → Bool
are_among names more = list_all (is_among names) more

abbrev pub are_named : List (List ℕ) → List Effect → Bool
are_named names es = list_all (λ (e : Effect). is_among names (resource_of e)) es

module _ (names : List (List ℕ)) where
  abbrev Named : Play → Type 0
  Named play = are_named names play.effects ≡ true

  named-push : (es : List Effect) (e : Effect) → are_named names es ≡ true → is_among names (resource_of e) ≡ true → are_named names (es ++ e ∷ []) ≡ true
  named-push es e all one = list_all-append (λ (e : Effect). is_among names (resource_of e)) es (e ∷ []) ∙ (λ i. all i && (one i && true))

  change-named : (o : Option Row) (change : Kind) (n : ℤ) (play : Play) → Named play → OnPlay (change_row o change n play) Named
  change-named None change n play p = tt
  change-named (Some row) change n play p = each (new_amount change n (amount_of row play.view))
    where
      each : (o : Option ℕ) → OnPlay (option_map (λ new. record play { view = with_amount row new play.view }) o) Named
      each None = tt
      each (Some new) = p

  out-row : (row : Row) (change : Kind) (n : ℤ) (play : Play) → is_among names row.name ≡ true → Named play → OnPlay (change_outside (Some row) change n play) Named
  out-row row change n play one p = each (amount_of row play.view)
    where
      new : (old : ℕ) (o : Option ℕ) → OnPlay (option_map (λ new. with_record row old new play) o) Named
      new old None = tt
      new old (Some n) = named-push play.effects (Change row.name row.key old n) p one

      each : (o : Option ℕ) → OnPlay (option_and_then (λ old. option_map (λ new. with_record row old new play) (as_amount (changed change old n))) o) Named
      each None = tt
      each (Some old) = new old (as_amount (changed change old n))

  out-named : (args : List Arg) (cell : Cell) (change : Kind) (n : ℤ) (play : Play) → are_among names (cell.name ∷ []) ≡ true → Named play → OnPlay (change_outside (row_of Outside args cell) change n play) Named
  out-named args cell change n play one p = by (key_text args cell.key)
    where
      by : (o : Option (List ℕ)) → OnPlay (change_outside (option_map (λ k. record { space = Outside; name = cell.name; key = k }) o) change n play) Named
      by None = tt
      by (Some k) = out-row (record { space = Outside; name = cell.name; key = k }) change n play (and_parts (is_among names cell.name) true one).0 p

  retract-named : (resource : List ℕ) (play : Play) → are_among names (resource ∷ []) ≡ true → Named play → OnPlay (retract_last resource play) Named
  retract-named resource play one p = each (kept_last resource play.records)
    where
      each : (o : Option LogRecord) → OnPlay (option_map (λ (r : LogRecord). without_last resource r play) o) Named
      each None = tt
      each (Some r) = named-push play.effects (Retract resource) p (and_parts (is_among names resource) true one).0

  move-named : (o : Option Play) (go : Play → Option Play) → OnPlay o Named → ((play : Play) → Named play → OnPlay (go play) Named) → OnPlay (option_and_then go o) Named
  move-named None go h on = tt
  move-named (Some play) go h on = on play h

  test-named : (b : Bool) (play : Play) (other : Did) → Named play → OnGoes other Named → OnGoes (cond b (goes play) other) Named
  test-named true play other p q = p
  test-named false play other p q = q

  step-named : (args : List Arg) (step : Step) (play : Play) → are_among names (effect_of step) ≡ true → Named play → OnGoes (do_step args step play) Named
  step-named args (Need c) play one p = test-named (holds args play.view c) play fails p tt
  step-named args (When c) play one p = test-named (holds args play.view c) play skips p tt
  step-named args (Add cell e) play one p = goes-with _ Named (change-named (row_of Inside args cell) Rise (worth args play.view e) play p)
  step-named args (Sub cell e) play one p = goes-with _ Named (change-named (row_of Inside args cell) Fall (worth args play.view e) play p)
  step-named args (Set cell e) play one p = goes-with _ Named (change-named (row_of Inside args cell) Become (worth args play.view e) play p)
  step-named args (Move from to e) play one p =
      goes-with _ Named (move-named (change_row (row_of Inside args from) Fall (worth args play.view e) play) (change_row (row_of Inside args to) Rise (worth args play.view e))
      (change-named (row_of Inside args from) Fall (worth args play.view e) play p) (λ next q. change-named (row_of Inside args to) Rise (worth args play.view e) next q))
  step-named args (Grow cell e) play one p = goes-with _ Named (out-named args cell Rise (worth args play.view e) play one p)
  step-named args (Shrink cell e) play one p = goes-with _ Named (out-named args cell Fall (worth args play.view e) play one p)
  step-named args (RetractStep resource) play one p = goes-with _ Named (retract-named resource play one p)
  step-named args Fail play one p = tt
  step-named args Abort play one p = p

  steps-named : (args : List Arg) (skipping : Bool) (n : ℕ) (script : List Step) (play : Play) → are_among names (flat_map effect_of script) ≡ true → Named play → OnRan (run_steps args skipping n script play) Named
  steps-named args true n [] play all p = p
  steps-named args false n [] play all p = p
  steps-named args true n (step ∷ rest) play all p = steps-named args false (n + 1) rest play (and_parts (are_among names (effect_of step)) (are_among names (flat_map effect_of rest)) (sym (list_all-append (is_among names) (effect_of step) (flat_map effect_of rest)) ∙ all)).1 p
  steps-named args false n (step ∷ rest) play all p =
      let both = and_parts (are_among names (effect_of step)) (are_among names (flat_map effect_of rest)) (sym (list_all-append (is_among names) (effect_of step) (flat_map effect_of rest)) ∙ all) in
      by (do_step args step play) (step-named args step play both.0 p) (λ next q. steps-named args false (n + 1) rest next both.1 q) (steps-named args true (n + 1) rest play both.1 p)
    where
      by : (d : Did) → OnGoes d Named → ((next : Play) → Named next → OnRan (run_steps args false (n + 1) rest next) Named) → OnRan (run_steps args true (n + 1) rest play) Named
          → OnRan (elim d [ goes next ↦ run_steps args false (n + 1) rest next | skips ↦ run_steps args true (n + 1) rest play | fails ↦ failed_at n ]) Named
      by (goes next) q on skipped = on next q
      by skips q on skipped = skipped
      by fails q on skipped = tt

  pub call-named : (script : List Step) (args : List Arg) (play next : Play) → are_among names (flat_map effect_of script) ≡ true → run_call script args play ≡ ran next → are_named names next.effects ≡ true
  call-named script args play next all e = subst (λ r. OnRan r Named) e (steps-named args false 1 script (record play { effects = [] }) all refl)
