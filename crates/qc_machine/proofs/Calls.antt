-- A call of a held attempt leads on from the settled amounts.
use Rattle.std.proofs.Common.{◌≡◌, ◌∙◌, ◌⊎◌, inl, inr, ℕ, ◌+◌, ◌≤◌, ◌==◌, zero, suc, List, [], ◌∷◌, ◌++◌, Bool, true, false, cond, length, take, drop, slice_get, refl, sym, ap, subst, arith, Option, Some, None, eqb-true, take_all}
use Rattle.std.specs.Option.{option_map_or}
use Rattle.std.proofs.lemmas.Bool.{and_parts, eqb-false}
use Rattle.std.proofs.lemmas.List.Sums.{sum_by-cons}
use Rattle.qc_base.specs.declared.log_line.Stage.TheVariants.{Calls, Ready, Failing}
use Rattle.qc_catalogue.specs.declared.catalogue.Catalogue.{Catalogue}
use Rattle.qc_script.specs.declared.step.Step.{Step}
use Rattle.qc_script.specs.declared.step.Step.TheVariants.{Need, When, Add, Sub, Set, Move, Grow, Shrink, Retract, Fail, Abort}
use Rattle.qc_script.specs.Naming.{effect_of, effects, out_of, outs}
use Rattle.qc_play.specs.Play.{Play, Ran, ran, failed_at, run_call, rows_in}
use Rattle.qc_play.proofs.CallCounts.{call-adds}
use Rattle.qc_play.proofs.Playing.{call_rows}
use Rattle.qc_txn.specs.Attempt.{effects_in}
use Rattle.qc_txn.specs.Outcome.{all_played, stopped_at, play_all}
use Rattle.qc_txn.specs.Parts.{Part, is_playable}
use Rattle.qc_txn.proofs.PartsAt.{effects_at, nothing_at}
use Rattle.qc_machine.specs.Attempts.{parts_held}
use Rattle.qc_machine.specs.History.{History, plays_inside}
use Rattle.qc_machine.specs.Holding.{first_play, IsCalling, IsHeldIn, HasCome}
use Rattle.qc_machine.specs.Playing.{after_call, after_failure, after_work, work_part}
use Rattle.qc_machine.specs.State.{HeldAttempt}

-- calls behind calls
pub play-append : (xs ys : List Part) (play mid : Play) → play_all xs play ≡ all_played mid → play_all (xs ++ ys) play ≡ play_all ys mid
play-append [] ys play mid e = let same : play ≡ mid = cc in ap (play_all ys) same
play-append (p ∷ xs) ys play mid e = by (run_call p.script p.args play) (λ next f. play-append xs ys next mid f) e
  where
    by : (r : Ran) → ((next : Play) → play_all xs next ≡ all_played mid → play_all (xs ++ ys) next ≡ play_all ys mid)
        → (elim r [ ran next ↦ play_all xs next | failed_at step ↦ stopped_at p.number step ]) ≡ all_played mid
        → (elim r [ ran next ↦ play_all (xs ++ ys) next | failed_at step ↦ stopped_at p.number step ]) ≡ play_all ys mid
    by (ran next) on e = on next e
    by (failed_at step) on e = cc

take-next : {A : Type 0} (n : ℕ) (xs : List A) (x : A) → slice_get xs n ≡ Some x → take (n + 1) xs ≡ take n xs ++ x ∷ []
take-next n [] x e = cc
take-next zero (y ∷ ys) x e = let same : y ≡ x = cc in λ i. same i ∷ []
take-next (suc n) (y ∷ ys) x e =
    let more : suc (n + 1) ≡ suc n + 1 = omega arith in
    subst (λ k. take k (y ∷ ys) ≡ y ∷ (take n ys ++ x ∷ [])) more (ap (λ l. y ∷ l) (take-next n ys x e))

split-at : {A : Type 0} (n : ℕ) (xs : List A) (x : A) → slice_get xs n ≡ Some x → (rest : List A) × (xs ≡ take n xs ++ x ∷ rest)
split-at n [] x e = cc
split-at zero (y ∷ ys) x e = let same : y ≡ x = cc in (ys, λ i. same i ∷ ys)
split-at (suc n) (y ∷ ys) x e = let s = split-at n ys x e in (s.0, ap (λ l. y ∷ l) s.1)

-- an attempt that changes nothing outside has no call with an effect

effects-behind : (parts : List Part) (i : ℕ) → effects_in (drop i parts) ≤ effects_in parts
effects-behind [] zero = omega arith
effects-behind [] (suc i) = omega arith
effects-behind (p ∷ parts) zero = omega arith
effects-behind (p ∷ parts) (suc i) = let rest = effects-behind parts i in
    let first : effects_in (p ∷ parts) ≡ effects p.script + effects_in parts = sum_by-cons (λ (p : Part). effects p.script) p parts in
    omega (arith, rest, first)

pub no-effects : (c : Catalogue) (a : HeldAttempt) (p : Part) → plays_inside c a.recording a.kind ≡ true → slice_get (parts_held c a) a.calls ≡ Some p → effects p.script ≡ 0
no-effects c a p inside at =
    let none : effects_in (parts_held c a) ≡ 0 = eqb-true _ _ (and_parts (is_playable c a.recording a.kind) _ inside).1 in
    omega (arith, none, effects-behind (parts_held c a) a.calls, effects_at (parts_held c a) a.calls p at)

-- a script has no more changes outside than effects

outs-one : (s : Step) → length (out_of s) ≤ length (effect_of s)
outs-one (Need c) = omega arith
outs-one (When c) = omega arith
outs-one (Add cell e) = omega arith
outs-one (Sub cell e) = omega arith
outs-one (Set cell e) = omega arith
outs-one (Move from to e) = omega arith
outs-one (Grow cell e) = omega arith
outs-one (Shrink cell e) = omega arith
outs-one (Retract resource) = omega arith
outs-one Fail = omega arith
outs-one Abort = omega arith

outs-few : (script : List Step) → outs script ≤ effects script
outs-few [] = omega arith
outs-few (s ∷ script) =
    let rest = outs-few script in
    let one = outs-one s in
    let out : outs (s ∷ script) ≡ length (out_of s) + outs script = sum_by-cons (λ s. length (out_of s)) s script in
    let all : effects (s ∷ script) ≡ length (effect_of s) + effects script = sum_by-cons (λ s. length (effect_of s)) s script in
    omega (arith, rest, one, out, all)

none-of : {A : Type 0} (xs : List A) → length xs ≤ 0 → xs ≡ []
none-of [] h = refl
none-of (x ∷ xs) h = absurd (omega (arith, h))

bare-call : (p : Part) (play next : Play) → effects p.script ≡ 0 → play.records ≡ [] → run_call p.script p.args play ≡ ran next → next.records ≡ []
bare-call p play next none records e =
    let adds = call-adds p.script p.args play next e in
    none-of next.records (omega (arith, adds.1, none, outs-few p.script, ap length records))

module _ (h : History) (last : ℕ) (a : HeldAttempt) (p : Part) (is : IsHeldIn h last a) (c : IsCalling h last a is.message) (at : slice_get (parts_held h.catalogue a) a.calls ≡ Some p) where
  -- after a call that succeeded
  pub called-held : (next : Play) → run_call p.script p.args a.play ≡ ran next → IsHeldIn h last (after_call (length (parts_held h.catalogue a)) a next)
  called-held next e = record {
    message = is.message;
    found = is.found;
    recording = is.recording;
    rows = call_rows p.script p.args a.play next e ∙ is.rows;
    inside = is.inside;
    records = bare-call p a.play next (no-effects h.catalogue a p is.inside at) is.records e;
    attempt = is.attempt;
    come = by ((a.calls + 1) == length (parts_held h.catalogue a)) refl;
  }
    where
      more : play_all (take (a.calls + 1) (parts_held h.catalogue a)) (first_play h a) ≡ all_played next
      more =
          ap (λ l. play_all l (first_play h a)) (take-next a.calls (parts_held h.catalogue a) p at)
          ∙ play-append (take a.calls (parts_held h.catalogue a)) (p ∷ []) (first_play h a) a.play c.played
          ∙ ap (λ r. elim r [ ran mid ↦ play_all [] mid | failed_at step ↦ stopped_at p.number step ]) e

      by : (b : Bool) → ((a.calls + 1) == length (parts_held h.catalogue a)) ≡ b → HasCome h last (record a { play = next; calls = a.calls + 1; stage = cond b Ready Calls }) is.message (cond b Ready Calls)
      by true f = record {
        is_open = record { due = c.is_open.due; kind = c.is_open.kind; new = c.is_open.new };
        all = eqb-true _ _ f;
        played = ap (λ l. play_all l (first_play h a)) (sym (take_all (a.calls + 1) (parts_held h.catalogue a) (omega (arith, eqb-true _ _ f)))) ∙ more;
        why = c.why;
      }
      by false f = record { is_open = record { due = c.is_open.due; kind = c.is_open.kind; new = c.is_open.new }; left = omega (arith, c.left, eqb-false _ _ f); played = more; why = c.why }

  -- and after one that failed
  pub failed-held : (step : ℕ) → run_call p.script p.args a.play ≡ failed_at step → IsHeldIn h last (after_failure p step a)
  failed-held step e =
      let split = split-at a.calls (parts_held h.catalogue a) p at in
      record {
        message = is.message;
        found = is.found;
        recording = is.recording;
        rows = is.rows;
        inside = is.inside;
        records = is.records;
        attempt = is.attempt;
        come = record {
          is_open = record { due = c.is_open.due; kind = c.is_open.kind; new = c.is_open.new };
          call = p.number;
          step = step;
          why = refl;
          played = ap (λ l. play_all l (first_play h a)) split.1
              ∙ play-append (take a.calls (parts_held h.catalogue a)) (p ∷ split.0) (first_play h a) a.play c.played
              ∙ ap (λ r. elim r [ ran mid ↦ play_all split.0 mid | failed_at n ↦ stopped_at p.number n ]) e;
        };
      }

-- what stays of an attempt as its calls run
pub record IsOf (a b : HeldAttempt) : Type 0 where
  pub id : b.id ≡ a.id
  pub attempt : b.attempt ≡ a.attempt
  pub kind : b.kind ≡ a.kind
  pub recording : b.recording ≡ a.recording
  pub rows : rows_in b.play.view ≡ rows_in a.play.view

pub same-of : (a : HeldAttempt) → IsOf a a
same-of a = record { id = refl; attempt = refl; kind = refl; recording = refl; rows = refl }

-- one call more ran, or it failed
abbrev pub HasRun : HeldAttempt → HeldAttempt → Type 0
HasRun a b = (b.stage ≡ Failing) ⊎ ((b.calls ≡ a.calls + 1) × ((b.stage ≡ Ready) ⊎ (b.stage ≡ Calls)))

-- an attempt behind its next call
pub record IsWorked (h : History) (last : ℕ) (a b : HeldAttempt) : Type 0 where
  pub held : IsHeldIn h last b
  pub of : IsOf a b
  pub run : HasRun a b

pub work-held : (h : History) (last : ℕ) (a : HeldAttempt) (is : IsHeldIn h last a) → IsCalling h last a is.message → IsWorked h last a (after_work (parts_held h.catalogue a) a)
work-held h last a is c = by (slice_get (parts_held h.catalogue a) a.calls) refl
  where
    count : ℕ
    count = length (parts_held h.catalogue a)

    stages : (b : Bool) → (cond b Ready Calls ≡ Ready) ⊎ (cond b Ready Calls ≡ Calls)
    stages true = inl refl
    stages false = inr refl

    part : (p : Part) → slice_get (parts_held h.catalogue a) a.calls ≡ Some p → (r : Ran) → run_call p.script p.args a.play ≡ r
        → IsWorked h last a (elim r [ ran play ↦ after_call count a play | failed_at step ↦ after_failure p step a ])
    part p at (ran next) e = record {
      held = called-held h last a p is c at next e;
      of = record { id = refl; attempt = refl; kind = refl; recording = refl; rows = call_rows p.script p.args a.play next e };
      run = inr (refl, stages ((a.calls + 1) == count));
    }
    part p at (failed_at step) e = record {
      held = failed-held h last a p is c at step e;
      of = record { id = refl; attempt = refl; kind = refl; recording = refl; rows = refl };
      run = inl refl;
    }

    by : (o : Option Part) → slice_get (parts_held h.catalogue a) a.calls ≡ o → IsWorked h last a (option_map_or (work_part count a) o a)
    by None e = absurd (nothing_at (parts_held h.catalogue a) a.calls e c.left)
    by (Some p) e = part p e (run_call p.script p.args a.play) refl
