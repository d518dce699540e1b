-- The calls of an attempt that are left, run one after another.
use Rattle.std.proofs.Common.{◌≡◌, ◌∙◌, ◌⊎◌, inl, inr, ℕ, suc, ◌+◌, ◌<◌, ◌≤◌, ◌==◌, List, [], ◌∷◌, Bool, true, false, length, drop, refl, sym, ap, subst, Option, Some, None, slice_get, Ok, Err, arith, eq-eqb, if◌then◌else◌}
use Rattle.std.proofs.lemmas.Bool.{ne_eqb, eqb-true}
use Rattle.std.proofs.lemmas.List.{drop_all}
use Rattle.qc_base.specs.declared.fact.Kind.{Kind}
use Rattle.qc_base.specs.declared.log_line.Stage.{Stage}
use Rattle.qc_base.specs.declared.log_line.Stage.TheVariants.{Calls, Ready, Failing}
use Rattle.qc_base.specs.declared.recording.Recording.{Recording}
use Rattle.qc_catalogue.specs.declared.catalogue.Catalogue.{Catalogue}
use Rattle.qc_txn.specs.Attempt.{AttemptView, FailsCall, PlaysBy, RunsCall, RunsNext, count_of, stage_after}
use Rattle.qc_txn.specs.Ends.{PlaysAll}
use Rattle.qc_txn.specs.Parts.{Part, parts_of}
use Rattle.qc_txn.proofs.PartsAt.{count_is, drop_at}

-- where none is left
by-stage : (calls count : ℕ) → (stage_after calls count ≡ Calls → ⊥) → (calls ≡ count) × (stage_after calls count ≡ Ready)
by-stage calls count over = by (calls == count) refl over
  where
    by : (b : Bool) → (calls == count) ≡ b → ((if b then Ready else Calls) ≡ Calls → ⊥) → (calls ≡ count) × ((if b then Ready else Calls) ≡ Ready)
    by true e over = (eqb-true calls count e, refl)
    by false e over = absurd (over refl)

module _ (c : Catalogue) (old : AttemptView) where
  abbrev all : List Part
  all = parts_of c old.recording old.kind

  -- So many calls ran since then, and what the others do counts from then on.
  pub record RanSoFar (now : AttemptView) : Type 0 where
    pub plays : PlaysBy c now
    pub recording : now.recording ≡ old.recording
    pub kind : now.kind ≡ old.kind
    pub count : now.count ≡ old.count
    pub stage : now.stage ≡ stage_after now.calls now.count
    pub more : (new : AttemptView) → PlaysAll (drop now.calls all) now new → PlaysAll (drop old.calls all) old new

  pub ran-none : old.stage ≡ stage_after old.calls old.count → PlaysBy c old → RanSoFar old
  ran-none stage plays = record {
    plays = plays;
    recording = refl;
    kind = refl;
    count = refl;
    stage = stage;
    more = λ new is. is;
  }

  module _ (now new : AttemptView) (so_far : RanSoFar now) where
    same-parts : parts_of c now.recording now.kind ≡ all
    same-parts = ap (λ (r : Recording). parts_of c r now.kind) so_far.recording ∙ ap (λ (k : Kind). parts_of c old.recording k) so_far.kind

    module _ (p : Part) (at : slice_get all now.calls ≡ Some p) where
      ran-part : (number : ℕ) → RunsCall p now new number → PlaysBy c new → RanSoFar new
      ran-part number runs plays =
          let calls : new.calls ≡ now.calls + 1 = ap (λ (a : AttemptView). a.calls) runs.kept in
          let count : new.count ≡ now.count = ap (λ (a : AttemptView). a.count) runs.kept in
          let next : suc now.calls ≡ new.calls = omega (arith, calls) in
          record {
            plays = plays;
            recording = ap (λ (a : AttemptView). a.recording) runs.kept ∙ so_far.recording;
            kind = ap (λ (a : AttemptView). a.kind) runs.kept ∙ so_far.kind;
            count = count ∙ so_far.count;
            stage = ap (λ (a : AttemptView). a.stage) runs.kept ∙ ap (λ n. stage_after n now.count) (sym calls) ∙ ap (stage_after new.calls) (sym count);
            more = λ last rest.
                so_far.more last
                (subst (λ (parts : List Part). PlaysAll parts now last) (sym (drop_at all now.calls p at))
                (inl (new, number, runs, subst (λ n. PlaysAll (drop n all) new last) (sym next) rest)));
          }

      failed-part : (step : ℕ) → FailsCall p now new step → PlaysAll (drop old.calls all) old new
      failed-part step failing =
          so_far.more new (subst (λ (parts : List Part). PlaysAll parts now new) (sym (drop_at all now.calls p at)) (inr (step, failing)))

    pub ran-on : (number : ℕ) → RunsNext (slice_get (parts_of c now.recording now.kind) now.calls) now new (Ok number) → PlaysBy c new → RanSoFar new
    ran-on number runs plays = by (slice_get all now.calls) refl (subst (λ (parts : List Part). RunsNext (slice_get parts now.calls) now new (Ok number)) same-parts runs)
      where
        by : (o : Option Part) → slice_get all now.calls ≡ o → RunsNext o now new (Ok number) → RanSoFar new
        by None at runs = absurd runs
        by (Some p) at runs = ran-part p at number runs plays

    pub failed-here : (step : ℕ) → RunsNext (slice_get (parts_of c now.recording now.kind) now.calls) now new (Err step) → PlaysAll (drop old.calls all) old new × (new.stage ≡ Failing)
    failed-here step failing = by (slice_get all now.calls) refl (subst (λ (parts : List Part). RunsNext (slice_get parts now.calls) now new (Err step)) same-parts failing)
      where
        by : (o : Option Part) → slice_get all now.calls ≡ o → RunsNext o now new (Err step) → PlaysAll (drop old.calls all) old new × (new.stage ≡ Failing)
        by None at failing = absurd failing
        by (Some p) at failing = (failed-part p at step failing, ap (λ (a : AttemptView). a.stage) failing.kept)

  -- no call is left
  pub ran-all : (now : AttemptView) → RanSoFar now → now.count ≡ count_of now.recording now.kind → (now.stage ≡ Calls → ⊥) → PlaysAll (drop old.calls all) old now × (now.stage ≡ Ready)
  ran-all now so_far count over =
      let end = by-stage now.calls now.count (λ e. over (so_far.stage ∙ e)) in
      let many : length (parts_of c now.recording now.kind) ≡ now.calls = count_is c now.recording now.kind so_far.plays.playable ∙ sym count ∙ sym end.0 in
      let same : parts_of c now.recording now.kind ≡ all = ap (λ (r : Recording). parts_of c r now.kind) so_far.recording ∙ ap (λ (k : Kind). parts_of c old.recording k) so_far.kind in
      let none : drop now.calls all ≡ [] = drop_all now.calls all (omega (arith, many, ap length same)) in
      (so_far.more now (subst (λ (parts : List Part). PlaysAll parts now now) (sym none) refl), so_far.stage ∙ end.1)
