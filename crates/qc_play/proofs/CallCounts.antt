-- A call has at most as many effects, and adds at most as many records, as its steps have.
use Rattle.std.proofs.Common.{◌≡◌, ◌≤◌, ℕ, ◌+◌, ℤ, List, [], ◌∷◌, Bool, true, false, cond, length, length-append, arith, refl, ap, subst, Option, Some, None, option_and_then, option_map, ◌&&◌, ◌==◌}
use Rattle.std.proofs.lemmas.List.{length-map}
use Rattle.std.proofs.lemmas.List.Sums.{sum_by-cons}
use Rattle.qc_base.specs.declared.log_line.LogRecord.{LogRecord}
use Rattle.qc_base.specs.declared.recording.Arg.{Arg}
use Rattle.qc_base.specs.declared.recording.Row.{Row}
use Rattle.qc_base.specs.declared.recording.Space.TheVariants.{Inside, Outside}
use Rattle.qc_script.specs.Naming.{out_of, outs, effect_of, effects, row_of}
use Rattle.qc_script.specs.declared.step.Step.{Step}
use Rattle.qc_script.specs.declared.step.Step.TheVariants.{Need, When, Add, Sub, Set, Move, Grow, Shrink, Retract, Fail, Abort}
use Rattle.qc_play.specs.declared.change.Change.{Change}
use Rattle.qc_play.specs.declared.change.Change.TheVariants.{Rise, Fall, Become}
use Rattle.qc_play.specs.declared.effect.Effect.TheVariants.{Change as Changed, Retract as Retracted}
use Rattle.qc_play.specs.declared.record.PlayRecord.{PlayRecord}
use Rattle.qc_play.specs.Play.{Play, amount_of, with_amount, as_amount, changed, new_amount, change_row, new_record, with_record, change_outside, is_of, kept_last, without_last, retract_last, Did, goes, skips, fails, do_step, Ran, ran, failed_at, run_steps, run_call, worth, holds}
use Rattle.qc_play.proofs.Playing.{OnPlay, OnGoes, OnRan, goes-with}

-- at most so many effects and records more
record Adds (shown recorded : ℕ) (play next : Play) : Type 0 where
  effects : length next.effects ≤ length play.effects + shown
  records : length next.records ≤ length play.records + recorded

none-added : (play next : Play) → next.effects ≡ play.effects → next.records ≡ play.records → Adds 0 0 play next
none-added play next e f = record { effects = omega (arith, ap length e); records = omega (arith, ap length f) }

adds-through : (a b c d : ℕ) (play mid next : Play) → Adds a b play mid → Adds c d mid next → Adds (a + c) (b + d) play next
adds-through a b c d play mid next p q = record { effects = omega (arith, p.effects, q.effects); records = omega (arith, p.records, q.records) }

change-adds : (o : Option Row) (change : Change) (n : ℤ) (play : Play) → OnPlay (change_row o change n play) (Adds 0 0 play)
change-adds None change n play = tt
change-adds (Some row) change n play = each (new_amount change n (amount_of row play.view))
  where
    each : (o : Option ℕ) → OnPlay (option_map (λ new. record play { view = with_amount row new play.view }) o) (Adds 0 0 play)
    each None = tt
    each (Some new) = none-added play (record play { view = with_amount row new play.view }) refl refl

out-adds : (o : Option Row) (change : Change) (n : ℤ) (play : Play) → OnPlay (change_outside o change n play) (Adds 1 1 play)
out-adds None change n play = tt
out-adds (Some row) change n play = each (amount_of row play.view)
  where
    new : (old : ℕ) (o : Option ℕ) → OnPlay (option_map (λ new. with_record row old new play) o) (Adds 1 1 play)
    new old None = tt
    new old (Some n) = record {
      effects = omega (arith, length-append play.effects (Changed row.name row.key old n ∷ []));
      records = omega (arith, length-append play.records (new_record row old n play.records ∷ []));
    }

    each : (o : Option ℕ) → OnPlay (option_and_then (λ old. option_map (λ new. with_record row old new play) (as_amount (changed change old n))) o) (Adds 1 1 play)
    each None = tt
    each (Some old) = new old (as_amount (changed change old n))

retract-adds : (resource : List ℕ) (play : Play) → OnPlay (retract_last resource play) (Adds 1 0 play)
retract-adds resource play = each (kept_last resource play.records)
  where
    each : (o : Option LogRecord) → OnPlay (option_map (λ (r : LogRecord). without_last resource r play) o) (Adds 1 0 play)
    each None = tt
    each (Some r) = record {
      effects = omega (arith, length-append play.effects (Retracted resource ∷ []));
      records = omega (arith, length-map play.records (λ (x : PlayRecord). cond (is_of resource x && (x.entry.seq == r.seq)) (record x { forgotten = true }) x));
    }

move-adds : (o : Option Play) (go : Play → Option Play) (play : Play) → OnPlay o (Adds 0 0 play) → ((mid : Play) → OnPlay (go mid) (Adds 0 0 mid)) → OnPlay (option_and_then go o) (Adds 0 0 play)
move-adds None go play h on = tt
move-adds (Some mid) go play h on = after (go mid) (on mid)
  where
    after : (o : Option Play) → OnPlay o (Adds 0 0 mid) → OnPlay o (Adds 0 0 play)
    after None q = tt
    after (Some next) q = adds-through 0 0 0 0 play mid next h q

test-adds : (b : Bool) (play : Play) (other : Did) → OnGoes other (Adds 0 0 play) → OnGoes (cond b (goes play) other) (Adds 0 0 play)
test-adds true play other q = none-added play play refl refl
test-adds false play other q = q

step-adds : (args : List Arg) (step : Step) (play : Play) → OnGoes (do_step args step play) (Adds (length (effect_of step)) (length (out_of step)) play)
step-adds args (Need c) play = test-adds (holds args play.view c) play fails tt
step-adds args (When c) play = test-adds (holds args play.view c) play skips tt
step-adds args (Add cell e) play = goes-with _ (Adds 0 0 play) (change-adds (row_of Inside args cell) Rise (worth args play.view e) play)
step-adds args (Sub cell e) play = goes-with _ (Adds 0 0 play) (change-adds (row_of Inside args cell) Fall (worth args play.view e) play)
step-adds args (Set cell e) play = goes-with _ (Adds 0 0 play) (change-adds (row_of Inside args cell) Become (worth args play.view e) play)
step-adds args (Move from to e) play =
    goes-with _ (Adds 0 0 play) (move-adds (change_row (row_of Inside args from) Fall (worth args play.view e) play) (change_row (row_of Inside args to) Rise (worth args play.view e)) play
    (change-adds (row_of Inside args from) Fall (worth args play.view e) play) (λ mid. change-adds (row_of Inside args to) Rise (worth args play.view e) mid))
step-adds args (Grow cell e) play = goes-with _ (Adds 1 1 play) (out-adds (row_of Outside args cell) Rise (worth args play.view e) play)
step-adds args (Shrink cell e) play = goes-with _ (Adds 1 1 play) (out-adds (row_of Outside args cell) Fall (worth args play.view e) play)
step-adds args (Retract resource) play = goes-with _ (Adds 1 0 play) (retract-adds resource play)
step-adds args Fail play = tt
step-adds args Abort play = none-added play (record play { forced = true }) refl refl

-- a step more adds no less
over : (step : Step) (rest : List Step) (play : Play) (r : Ran) → OnRan r (Adds (effects rest) (outs rest) play) → OnRan r (Adds (effects (step ∷ rest)) (outs (step ∷ rest)) play)
over step rest play (ran next) p = record {
  effects = omega (arith, p.effects, sum_by-cons (λ (s : Step). length (effect_of s)) step rest);
  records = omega (arith, p.records, sum_by-cons (λ (s : Step). length (out_of s)) step rest);
}
over step rest play (failed_at m) p = tt

-- through steps, of which some may be passed over
steps-add : (args : List Arg) (skipping : Bool) (n : ℕ) (script : List Step) (play : Play) → OnRan (run_steps args skipping n script play) (Adds (effects script) (outs script) play)
steps-add args true n [] play = none-added play play refl refl
steps-add args false n [] play = none-added play play refl refl
steps-add args true n (step ∷ rest) play = over step rest play (run_steps args false (n + 1) rest play) (steps-add args false (n + 1) rest play)
steps-add args false n (step ∷ rest) play = by (do_step args step play) (step-adds args step play) (λ next. steps-add args false (n + 1) rest next) (steps-add args true (n + 1) rest play)
  where
    after : (r : Ran) (mid : Play) → Adds (length (effect_of step)) (length (out_of step)) play mid → OnRan r (Adds (effects rest) (outs rest) mid) → OnRan r (Adds (effects (step ∷ rest)) (outs (step ∷ rest)) play)
    after (ran next) mid p q = record {
      effects = omega (arith, p.effects, q.effects, sum_by-cons (λ (s : Step). length (effect_of s)) step rest);
      records = omega (arith, p.records, q.records, sum_by-cons (λ (s : Step). length (out_of s)) step rest);
    }
    after (failed_at m) mid p q = tt

    by : (d : Did) → OnGoes d (Adds (length (effect_of step)) (length (out_of step)) play) → ((next : Play) → OnRan (run_steps args false (n + 1) rest next) (Adds (effects rest) (outs rest) next)) → OnRan (run_steps args true (n + 1) rest play) (Adds (effects rest) (outs rest) play)
        → OnRan (elim d [ goes next ↦ run_steps args false (n + 1) rest next | skips ↦ run_steps args true (n + 1) rest play | fails ↦ failed_at n ]) (Adds (effects (step ∷ rest)) (outs (step ∷ rest)) play)
    by (goes next) p on skipped = after (run_steps args false (n + 1) rest next) next p (on next)
    by skips p on skipped = over step rest play (run_steps args true (n + 1) rest play) skipped
    by fails p on skipped = tt

pub call-adds : (script : List Step) (args : List Arg) (play next : Play) → run_call script args play ≡ ran next
    → (length next.effects ≤ effects script) × (length next.records ≤ length play.records + outs script)
call-adds script args play next e =
    let added = subst (λ r. OnRan r (Adds (effects script) (outs script) (record play { effects = [] }))) e (steps-add args false 1 script (record play { effects = [] })) in
    (omega (arith, added.effects), added.records)
