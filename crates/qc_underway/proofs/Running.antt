-- A call of an attempt, beside the machine's. `g` has the members of the site's trait.
use Rattle.std.proofs.Common.{◌≡◌, ◌∙◌, ℕ, List, length, Option, Some, None, slice_get, Ok, refl, sym, ap, subst}
use Rattle.std.specs.Option.{option_map_or}
use Rattle.std.proofs.lemmas.Bool.{false≢true}
use Rattle.qc_site.specs.declared.site.Site.{Ghosts}
use Rattle.qc_entries.specs.Entries.{EntriesView}
use Rattle.qc_catalogue.specs.declared.catalogue.Catalogue.{Catalogue}
use Rattle.qc_play.specs.Play.{Ran, ran, failed_at, run_call}
use Rattle.qc_txn.specs.Attempt.{AttemptView, RunsNext}
use Rattle.qc_txn.specs.Parts.{Part, parts_of}
use Rattle.crm_clerk.specs.Clerk.{ClerkView}
use Rattle.qc_machine.specs.Carrying.{carry_all}
use Rattle.qc_machine.specs.LogAndRows.{LogAndRows}
use Rattle.qc_machine.specs.Playing.{after_call, after_failure}
use Rattle.qc_machine.specs.State.{HeldAttempt}
use Rattle.qc_machine.specs.Underway.{Underway, run_next, run_part}
use Rattle.qc_underway.specs.Calls.{CarriesAll, RunsOn}
use Rattle.qc_underway.specs.Standing.{HasRoomForAll, HasRoomLeft, IsHeld, IsUnderway}
use Rattle.qc_underway.proofs.Rooms.{room-behind-call, room-for-call}

-- the machine's call, by what became of it
module _ (c : Catalogue) (parts : List Part) (held : HeldAttempt) (o : LogAndRows) where
  abbrev start : Underway
  start = record { held = held; site = o }

  abbrev pub by-ran : Part → Ran → Underway
  by-ran p r = elim r [
    | ran play ↦ record {
      held = after_call (length parts) held play;
      site = carry_all c held.attempt held.id play.effects o;
    }
    | failed_at step ↦ record start { held = after_failure p step held }
  ]

  pub machine-ran : (p : Part) (r : Ran) → slice_get parts held.calls ≡ Some p → run_call p.script p.args held.play ≡ r → run_next c parts start ≡ by-ran p r
  machine-ran p r at is = ap (λ (q : Option Part). option_map_or (run_part c (length parts) start) q start) at ∙ ap (by-ran p) is

module _ {S : Type 0} (g : Ghosts S) (c : Catalogue) (a b : AttemptView) (old new : ClerkView) (log later : EntriesView) (site after : S) where
  abbrev parts : List Part
  parts = parts_of c a.recording a.kind

  module _ (p : Part) (at : slice_get parts a.calls ≡ Some p) (held : HeldAttempt) (is : IsHeld a old held) (o : LogAndRows) where
    same-at : slice_get parts held.calls ≡ Some p
    same-at = ap (slice_get parts) is.calls ∙ at

    machine-site : (r : Ran) → run_call p.script p.args a.play ≡ r → run_next c parts (record { held = held; site = o }) ≡ by-ran c parts held o p r
    machine-site r runs = machine-ran c parts held o p r same-at (ap (run_call p.script p.args) is.play ∙ runs)

    told-ran : run_call p.script p.args a.play ≡ ran b.play → IsUnderway (g.shown after) later new (carry_all c old.attempt old.id b.play.effects o)
        → IsUnderway (g.shown after) later new (run_next c parts (record { held = held; site = o })).site
    told-ran runs now =
        let site : carry_all c old.attempt old.id b.play.effects o ≡ carry_all c held.attempt held.id b.play.effects o = λ i. carry_all c (sym is.attempt i) (sym is.id i) b.play.effects o in
        subst (λ (m : LogAndRows). IsUnderway (g.shown after) later new m) (site ∙ sym (ap (λ (u : Underway). u.site) (machine-site (ran b.play) runs))) now

  -- room for the effects of the call
  pub call-room : (number : ℕ) → RunsNext (slice_get parts a.calls) a b (Ok number) → HasRoomLeft c a old log → HasRoomForAll c b.play.effects old log
  call-room number runs has = by (slice_get parts a.calls) refl runs
    where
      by : (o : Option Part) → slice_get parts a.calls ≡ o → RunsNext o a b (Ok number) → HasRoomForAll c b.play.effects old log
      by (Some p) at runs = room-for-call c p a b number old log at runs has
      by None at runs = absurd runs

  -- the call ran, and its effects are carried out
  pub runs-done : (number : ℕ) → RunsNext (slice_get parts a.calls) a b (Ok number) → HasRoomLeft c a old log → CarriesAll g c b.play.effects (Ok (tt {0})) old log site new later after → RunsOn g c (Ok (Ok number)) a old log site b new later after
  runs-done number runs has all = by (slice_get parts a.calls) refl runs
    where
      by : (o : Option Part) → slice_get parts a.calls ≡ o → RunsNext o a b (Ok number) → RunsOn g c (Ok (Ok number)) a old log site b new later after
      by None at here = absurd here
      by (Some p) at here = record {
        ran = runs;
        carried = all;
        room = room-behind-call c p a b number old log at here has new later all.clerk all.room;
        stands = all.stands;
        told = λ told held is o stood. told-ran p at held is o here.play (all.told told o stood);
        cause = record { no_fewer = all.cause.no_fewer; cause = λ failed. absurd (false≢true failed) };
      }
