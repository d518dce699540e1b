-- An attempt's calls carry out their effects, one call after the other.
use Rattle.std.proofs.Common.{◌≡◌, ◌∙◌, ℕ, List, [], ◌∷◌, length, slice_get, Bool, true, false, cond, refl, sym, subst, Option, Some, None, ap}
use Rattle.std.specs.Option.{option_map_or}
use Rattle.qc_base.specs.declared.recording.Row.{Row}
use Rattle.qc_base.specs.Rows.{OutsideRows}
use Rattle.qc_catalogue.specs.declared.catalogue.Catalogue.{Catalogue}
use Rattle.qc_play.specs.Effects.{amounts_in, outer_of, IsOuter}
use Rattle.qc_play.specs.Play.{Play, Ran, Seen, outside_row, ran, failed_at, run_call}
use Rattle.qc_play.proofs.EffectLaws.{begun, call-leads}
use Rattle.qc_txn.specs.Outcome.{new_play}
use Rattle.qc_txn.specs.Parts.{Part}
use Rattle.qc_machine.specs.Carrying.{carry_all}
use Rattle.qc_machine.specs.Holding.{has_row}
use Rattle.qc_machine.specs.LogAndRows.{lines_of}
use Rattle.qc_machine.specs.OwnLines.{is_named}
use Rattle.qc_machine.specs.Playing.{after_call, after_failure, after_work, work_on, work_part}
use Rattle.qc_machine.specs.Slots.{has_calls}
use Rattle.qc_machine.specs.State.{HeldAttempt}
use Rattle.qc_machine.specs.Underway.{Underway, run_next, run_on, run_part}
use Rattle.qc_laws.specs.Logged.{IsCarried, AreKnown, IsCarriedSoFar, HasGoneOn, LeavesOthers}
use Rattle.qc_laws.proofs.Carried.{all-carried, leaves-itself, leaves-on}
use Rattle.qc_laws.proofs.Logging.{logged-none}

-- the attempt itself goes on as the machine's orders have it

module _ (c : Catalogue) where
  part-held : (count : ℕ) (x : Underway) (p : Part) → (run_part c count x p).held ≡ work_part count x.held p
  part-held count x p = by (run_call p.script p.args x.held.play)
    where
      by : (r : Ran)
          → (elim r as (λ x. Underway) [
            | ran play ↦ record { held = after_call count x.held play; site = carry_all c x.held.attempt x.held.id play.effects x.site }
            | failed_at step ↦ record x { held = after_failure p step x.held }
          ]).held
          ≡ (elim r as (λ x. HeldAttempt) [ ran play ↦ after_call count x.held play | failed_at step ↦ after_failure p step x.held ])
      by (ran play) = refl
      by (failed_at step) = refl

  next-held : (parts : List Part) (x : Underway) → (run_next c parts x).held ≡ after_work parts x.held
  next-held parts x = by (slice_get parts x.held.calls)
    where
      by : (o : Option Part) → (option_map_or (run_part c (length parts) x) o x).held ≡ option_map_or (work_part (length parts) x.held) o x.held
      by (Some p) = part-held (length parts) x p
      by None = refl

  pub run-held : (parts all : List Part) (x : Underway) → (run_on c parts all x).held ≡ work_on parts all x.held
  run-held [] all x = refl
  run-held (p ∷ parts) all x = by (has_calls x.held.stage) (run-held parts all (run_next c all x) ∙ ap (work_on parts all) (next-held all x))
    where
      by : (b : Bool) → (run_on c parts all (run_next c all x)).held ≡ work_on parts all (after_work all x.held)
          → (cond b (run_on c parts all (run_next c all x)) x).held ≡ cond b (work_on parts all (after_work all x.held)) x.held
      by true e = e
      by false e = refl

-- before its first call
pub so-far-none : (c : Catalogue) (rows : List Row) (view : List Seen) (x : Underway) → x.held.play ≡ new_play view → is_named (lines_of x.site) x.held.attempt ≡ false
    → ((r k : List ℕ) → has_row rows (outside_row r k) ≡ true → x.site.rows r k ≡ amounts_in view r k) → IsCarriedSoFar c rows (amounts_in view) x
so-far-none c rows view x e none stand = record {
  outer = subst (λ (play : Play). IsOuter (amounts_in view) (outer_of play)) (sym e) (begun view);
  carried = subst (λ (play : Play). IsCarried c x.site x.held.attempt x.held.id rows (amounts_in view) (outer_of play)) (sym e) (record {
    logged = logged-none c (lines_of x.site) x.held.attempt x.held.id none;
    early = λ r k f row. stand r k row;
    late = λ r k f row. stand r k row;
  });
}

module _ (c : Catalogue) (rows : List Row) (first : OutsideRows) (known : AreKnown c rows first) where
  pub gone-itself : (x : Underway) → IsCarriedSoFar c rows first x → HasGoneOn c rows first x x
  gone-itself x is = record { attempt = refl; id = refl; so_far = is; leaves = leaves-itself c x.held.attempt x.held.id rows first known x.site }

  gone-through : (x y z : Underway) → HasGoneOn c rows first x y → HasGoneOn c rows first y z → HasGoneOn c rows first x z
  gone-through x y z one rest = record {
    attempt = rest.attempt ∙ one.attempt;
    id = rest.id ∙ one.id;
    so_far = rest.so_far;
    leaves = leaves-on c x.held.attempt x.held.id rows first known x.site y.site z.site one.leaves (subst (λ a. LeavesOthers a rows y.site z.site) one.attempt rest.leaves);
  }

  pub part-goes : (count : ℕ) (x : Underway) (p : Part) → IsCarriedSoFar c rows first x → HasGoneOn c rows first x (run_part c count x p)
  part-goes count x p is = by (run_call p.script p.args x.held.play) refl
    where
      by : (r : Ran) → run_call p.script p.args x.held.play ≡ r
          → HasGoneOn c rows first x (elim r as (λ x. Underway) [
            | ran play ↦ record { held = after_call count x.held play; site = carry_all c x.held.attempt x.held.id play.effects x.site }
            | failed_at step ↦ record x { held = after_failure p step x.held }
          ])
      by (ran play) e =
          let led = call-leads first p.script p.args x.held.play play is.outer e in
          let on = all-carried c x.held.attempt x.held.id rows first known play.effects x.site (outer_of x.held.play) (outer_of play) is.carried is.outer led.leads in
          record { attempt = refl; id = refl; so_far = record { outer = led.stands; carried = on.carried }; leaves = on.leaves }
      by (failed_at step) e = record {
        attempt = refl;
        id = refl;
        so_far = record { outer = is.outer; carried = is.carried };
        leaves = leaves-itself c x.held.attempt x.held.id rows first known x.site;
      }

  pub next-goes : (parts : List Part) (x : Underway) → IsCarriedSoFar c rows first x → HasGoneOn c rows first x (run_next c parts x)
  next-goes parts x is = by (slice_get parts x.held.calls)
    where
      by : (o : Option Part) → HasGoneOn c rows first x (option_map_or (run_part c (length parts) x) o x)
      by (Some p) = part-goes (length parts) x p is
      by None = gone-itself x is

  pub all-go : (parts all : List Part) (x : Underway) → IsCarriedSoFar c rows first x → HasGoneOn c rows first x (run_on c parts all x)
  all-go [] all x is = gone-itself x is
  all-go (p ∷ parts) all x is =
      let one = next-goes all x is in
      by (has_calls x.held.stage) one (all-go parts all (run_next c all x) one.so_far)
    where
      by : (b : Bool) → HasGoneOn c rows first x (run_next c all x) → HasGoneOn c rows first (run_next c all x) (run_on c parts all (run_next c all x))
          → HasGoneOn c rows first x (cond b (run_on c parts all (run_next c all x)) x)
      by true one rest = gone-through x (run_next c all x) (run_on c parts all (run_next c all x)) one rest
      by false one rest = gone-itself x is
