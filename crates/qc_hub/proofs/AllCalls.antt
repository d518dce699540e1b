-- All calls of an attempt, as the machine runs them.
use Rattle.std.proofs.Common.{◌≡◌, ◌∙◌, ℕ, ◌+◌, ◌<◌, ◌==◌, zero, suc, List, [], ◌∷◌, Bool, true, false, cond, length, drop, slice_get, refl, sym, ap, subst, arith, inl, inr, ne_eqb, Option, Some}
use Rattle.std.specs.Option.{option_map_or}
use Rattle.qc_base.specs.declared.log_line.Stage.TheVariants.{Calls, Ready}
use Rattle.qc_play.specs.Play.{Ran, ran, failed_at, run_call, rows_in}
use Rattle.qc_play.proofs.Playing.{call_rows}
use Rattle.qc_txn.specs.Attempt.{AttemptView, stage_after}
use Rattle.qc_txn.specs.Ends.{PlaysAll}
use Rattle.qc_txn.specs.Parts.{Part}
use Rattle.qc_machine.specs.Playing.{after_call, after_failure, after_work, work_on, work_part}
use Rattle.qc_machine.specs.Slots.{has_calls}
use Rattle.qc_machine.specs.State.{HeldAttempt}
use Rattle.qc_players.specs.Players.{held_of}

-- what stays of an attempt as its calls run
pub record RanOn (old new : AttemptView) : Type 0 where
  pub id : new.id ≡ old.id
  pub number : new.number ≡ old.number
  pub kind : new.kind ≡ old.kind
  pub recording : new.recording ≡ old.recording
  pub rows : rows_in new.play.view ≡ rows_in old.play.view

pub ran-on : (parts : List Part) (old new : AttemptView) → PlaysAll parts old new → RanOn old new
ran-on [] old new is = subst (λ (x : AttemptView). RanOn old x) (sym is) (record { id = refl; number = refl; kind = refl; recording = refl; rows = refl })
ran-on (p ∷ parts) old new (inl (next, number, runs, more)) =
    let rest = ran-on parts next new more in
    record {
      id = rest.id ∙ ap (λ (x : AttemptView). x.id) runs.kept;
      number = rest.number ∙ ap (λ (x : AttemptView). x.number) runs.kept;
      kind = rest.kind ∙ ap (λ (x : AttemptView). x.kind) runs.kept;
      recording = rest.recording ∙ ap (λ (x : AttemptView). x.recording) runs.kept;
      rows = rest.rows ∙ call_rows p.script p.args old.play next.play runs.play;
    }
ran-on (p ∷ parts) old new (inr (step, failing)) = record {
  id = ap (λ (x : AttemptView). x.id) failing.kept;
  number = ap (λ (x : AttemptView). x.number) failing.kept;
  kind = ap (λ (x : AttemptView). x.kind) failing.kept;
  recording = ap (λ (x : AttemptView). x.recording) failing.kept;
  rows = ap (λ (x : AttemptView). rows_in x.play.view) failing.kept;
}

-- the item at the place where a list is cut

pub cut-at : {A : Type 0} (i : ℕ) (xs rest : List A) (x : A) → drop i xs ≡ x ∷ rest → (slice_get xs i ≡ Some x) × (drop (suc i) xs ≡ rest)
cut-at zero [] rest x e = cc
cut-at zero (y ∷ ys) rest x e = ((let same : y ≡ x = cc in ap (λ z. Some z) same), (let same : ys ≡ rest = cc in same))
cut-at (suc i) [] rest x e = cc
cut-at (suc i) (y ∷ ys) rest x e = cut-at i ys rest x e

cut-inside : {A : Type 0} (i : ℕ) (xs rest : List A) (x : A) → drop i xs ≡ x ∷ rest → i < length xs
cut-inside zero [] rest x e = cc
cut-inside zero (y ∷ ys) rest x e = omega arith
cut-inside (suc i) [] rest x e = cc
cut-inside (suc i) (y ∷ ys) rest x e = omega (arith, cut-inside i ys rest x e)

-- an attempt that goes on, one call after another

stuck : (parts all : List Part) (a : HeldAttempt) → has_calls a.stage ≡ false → work_on parts all a ≡ a
stuck [] all a e = refl
stuck (p ∷ parts) all a e = ap (λ (b : Bool). cond b (work_on parts all (after_work all a)) a) e

abbrev pub by_ran : ℕ → HeldAttempt → Part → Ran → HeldAttempt
by_ran count a p r = elim r [ ran play ↦ after_call count a play | failed_at step ↦ after_failure p step a ]

works : (all : List Part) (a : AttemptView) (p : Part) (r : Ran) → slice_get all a.calls ≡ Some p → run_call p.script p.args a.play ≡ r → after_work all (held_of a) ≡ by_ran (length all) (held_of a) p r
works all a p r at is = ap (λ (o : Option Part). option_map_or (work_part (length all) (held_of a)) o (held_of a)) at ∙ ap (by_ran (length all) (held_of a) p) is

pub works-on : (rest all : List Part) (a b : AttemptView) → a.count ≡ length all → drop a.calls all ≡ rest → a.stage ≡ stage_after a.calls a.count → PlaysAll rest a b → work_on rest all (held_of a) ≡ held_of b
works-on [] all a b count left stage is = ap held_of (sym is)
works-on (p ∷ parts) all a b count left stage plays = ap (λ (x : Bool). cond x (work_on parts all (after_work all (held_of a))) (held_of a)) going ∙ goes plays (λ next same left_on stage_on more. works-on parts all next b same left_on stage_on more)
  where
    at : slice_get all a.calls ≡ Some p
    at = (cut-at a.calls all parts p left).0

    going : has_calls a.stage ≡ true
    going =
        let inside = cut-inside a.calls all parts p left in
        let more : (a.calls == a.count) ≡ false = ne_eqb a.calls a.count (λ e. omega (arith, e, inside, count)) in
        ap has_calls (stage ∙ ap (λ (x : Bool). cond x Ready Calls) more)

    goes : PlaysAll (p ∷ parts) a b → ((next : AttemptView) → next.count ≡ length all → drop next.calls all ≡ parts → next.stage ≡ stage_after next.calls next.count → PlaysAll parts next b → work_on parts all (held_of next) ≡ held_of b)
        → work_on parts all (after_work all (held_of a)) ≡ held_of b
    goes (inl (next, number, runs, more)) rest =
        let calls : next.calls ≡ a.calls + 1 = ap (λ (x : AttemptView). x.calls) runs.kept in
        let one : a.calls + 1 ≡ suc a.calls = omega arith in
        let same : next.count ≡ a.count = ap (λ (x : AttemptView). x.count) runs.kept in
        let then : after_work all (held_of a) ≡ held_of next =
        works all a p (ran next.play) at runs.play ∙ ap (λ (n : ℕ). after_call n (held_of a) next.play) (sym count) ∙ ap held_of (sym runs.kept) in
        ap (work_on parts all) then
        ∙ rest next (same ∙ count) (ap (λ (n : ℕ). drop n all) (calls ∙ one) ∙ (cut-at a.calls all parts p left).1) (ap (λ (x : AttemptView). x.stage) runs.kept ∙ (λ i. stage_after ((sym calls) i) ((sym same) i))) more
    goes (inr (step, failing)) rest =
        let then : after_work all (held_of a) ≡ held_of b = works all a p (failed_at step) at failing.play ∙ ap held_of (sym failing.kept) in
        ap (work_on parts all) then ∙ stuck parts all (held_of b) (ap (λ (x : AttemptView). has_calls x.stage) failing.kept)
