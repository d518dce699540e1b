-- What an attempt writes, from its first call to Done, keeps the log legal.
use Rattle.std.proofs.Common.{◌≡◌, ◌∙◌, ℕ, ◌==◌, List, [], ◌∷◌, ◌++◌, length, slice_get, Bool, true, false, cond, refl, sym, ap, subst, Option, Some, None, is_some, eq-eqb}
use Rattle.std.specs.List.{list_all}
use Rattle.std.specs.Option.{option_map_or}
use Rattle.std.proofs.lemmas.Bool.{and_from, not_from_false}
use Rattle.qc_base.specs.declared.log_line.LogLine.{LogLine}
use Rattle.qc_base.specs.declared.log_line.LogLine.TheVariants.{Done}
use Rattle.qc_base.specs.declared.recording.Row.{Row}
use Rattle.qc_base.specs.Rows.{OutsideRows}
use Rattle.qc_base.specs.Spelling.{is_between}
use Rattle.qc_base.specs.LogLines.{is_done, is_opened, is_registered, of_resource}
use Rattle.qc_catalogue.specs.declared.catalogue.Catalogue.{Catalogue}
use Rattle.qc_catalogue.specs.declared.catalogue.Resource.{Resource}
use Rattle.qc_catalogue.specs.Lookup.{resource_named}
use Rattle.qc_play.specs.declared.effect.Effect.{Effect}
use Rattle.qc_play.specs.declared.effect.Effect.TheVariants.{Change, Retract}
use Rattle.qc_play.specs.Effects.{Outer, outer_of, IsEffect, LeadsTo, IsOuter}
use Rattle.qc_play.specs.Play.{Ran, outside_row, ran, failed_at, run_call}
use Rattle.qc_play.proofs.EffectLaws.{call-leads}
use Rattle.qc_play.proofs.OuterLaws.{effect-outer}
use Rattle.qc_txn.specs.Parts.{Part}
use Rattle.crm_clerk.specs.Clerk.{forgetting_lines, next_record}
use Rattle.crm_history.specs.declared.ended.Ended.{Ended}
use Rattle.crm_history.specs.Legal.{has_phases, has_row as is_row_of, is_about, is_log_legal, is_row_free, line_may_follow, lines_follow}
use Rattle.crm_recovery.specs.Settling.{phase_puts}
use Rattle.qc_worker.specs.Effects.{change_lines}
use Rattle.qc_machine.specs.Carrying.{carry_all, carry_change, carry_effect, carry_out, carry_retract, clerk_over}
use Rattle.qc_machine.specs.Holding.{has_row}
use Rattle.qc_machine.specs.LogAndRows.{LogAndRows, lines_of, with_lines, with_puts}
use Rattle.qc_machine.specs.OwnLines.{is_own}
use Rattle.qc_machine.specs.Playing.{after_call, after_failure}
use Rattle.qc_machine.specs.Slots.{has_calls}
use Rattle.qc_machine.specs.Underway.{Underway, at_end, done_where, phased, run_next, run_on, run_part}
use Rattle.qc_laws.specs.Logged.{IsCarried, IsCarriedSoFar, IsLogged, AreKnown}
use Rattle.qc_laws.specs.Writing.{MayWrite}
use Rattle.qc_laws.proofs.CallByCall.{next-goes}
use Rattle.qc_laws.proofs.Carried.{lines-changed, lines-forced, lines-retracted, lines-with, out-carried}
use Rattle.qc_laws.proofs.Forgetting.{end-forgets, follow-append, numbers-apart, seqs_apart}
use Rattle.qc_laws.proofs.LineWords.{change-own}
use Rattle.qc_laws.proofs.Logging.{resource-name}
use Rattle.qc_laws.proofs.Writing.{change-follow, free-behind, retract-follow, retract-own}

module _ (c : Catalogue) (sent : ℕ) (ended : List Ended) where
  -- a resource of the catalogue is registered with its phases
  pub phases-here : (name : List ℕ) (r : Resource) → resource_named name c.resources ≡ Some r → has_phases c name r.phases ≡ true
  phases-here name r found = ap (λ o. option_map_or (λ (x : Resource). x.phases == r.phases) o false) found ∙ eq-eqb r.phases r.phases refl

  pub change-may : (o : LogAndRows) (attempt id : ℕ) (r : Resource) (key : List ℕ) (old new : ℕ) → is_log_legal c sent ended (lines_of o) ≡ true → is_done (lines_of o) attempt ≡ false
      → is_between 1 sent id ≡ true → list_all (is_about attempt id) ended ≡ true → resource_named r.name c.resources ≡ Some r → is_row_of c r.name key ≡ true → is_row_free (lines_of o) r.name key attempt ≡ true
      → lines_follow c sent ended (lines_of o) (change_lines (clerk_over o attempt id) r key old new) ≡ true
  change-may o attempt id r key old new legal undone message about found row free =
      change-follow c sent ended attempt id r (lines_of o) legal undone (next_record (clerk_over o attempt id) r.name key old new) message about (phases-here r.name r found) refl row free

  may-behind : (lines more : List LogLine) (attempt id : ℕ) (rows : List Row) (first : OutsideRows) → MayWrite c sent ended lines attempt id rows first → list_all (is_own attempt) more ≡ true
      → lines_follow c sent ended lines more ≡ true → MayWrite c sent ended (lines ++ more) attempt id rows first
  may-behind lines more attempt id rows first may own follow = record {
    legal = follow-append c sent ended [] lines more may.legal follow;
    message = may.message;
    about = may.about;
    keys = may.keys;
    free = λ r k row. free-behind attempt lines more r k own (may.free r k row);
  }

  module _ (attempt id : ℕ) (rows : List Row) (first : OutsideRows) (known : AreKnown c rows first) where
    abbrev May : LogAndRows → Type 0
    May o = MayWrite c sent ended (lines_of o) attempt id rows first

    change-keeps : (o : LogAndRows) (r : Resource) (resource key : List ℕ) (old new : ℕ) → is_done (lines_of o) attempt ≡ false → resource_named resource c.resources ≡ Some r
        → is_some (first resource key) ≡ true → has_row rows (outside_row resource key) ≡ true → May o → May (carry_change r (clerk_over o attempt id) key old new o)
    change-keeps o r resource key old new undone found there here may =
        let name : r.name ≡ resource = resource-name c resource r found in
        subst (λ l. MayWrite c sent ended l attempt id rows first) (sym (lines-changed r (clerk_over o attempt id) key old new o))
        (may-behind (lines_of o) (change_lines (clerk_over o attempt id) r key old new) attempt id rows first may
        (change-own attempt id r (next_record (clerk_over o attempt id) r.name key old new) (is_registered (lines_of o) attempt r.name) (is_opened (lines_of o) attempt))
        (change-may o attempt id r key old new may.legal undone may.message may.about (ap (λ w. resource_named w c.resources) name ∙ found)
        (ap (λ w. is_row_of c w key) name ∙ may.keys resource key there)
        (ap (λ w. is_row_free (lines_of o) w key attempt) name ∙ may.free resource key here)))

    retract-keeps : (o : LogAndRows) (r : Resource) → is_done (lines_of o) attempt ≡ false → May o → May (carry_retract r (clerk_over o attempt id) o)
    retract-keeps o r undone may =
        subst (λ l. MayWrite c sent ended l attempt id rows first) (sym (lines-retracted r (clerk_over o attempt id) o))
        (may-behind (lines_of o) (forgetting_lines (clerk_over o attempt id) r.name) attempt id rows first may (retract-own (clerk_over o attempt id) r.name) (retract-follow c sent ended (clerk_over o attempt id) r.name undone))

    out-keeps : (o : LogAndRows) (st next : Outer) (e : Effect) → IsCarried c o attempt id rows first st → IsOuter first st → IsEffect e st next → May o → May (carry_out c attempt id e o)
    out-keeps o st next (Change resource key old new) is outer change may =
        let there : is_some (first resource key) ≡ true = sym (outer.there resource key) ∙ ap is_some change.there in
        let found = known.resource resource key there in
        subst (λ x. MayWrite c sent ended (lines_of (option_map_or (λ (r : Resource). carry_effect r (clerk_over o attempt id) (Change resource key old new) o) x o)) attempt id rows first) (sym found.1)
        (change-keeps o found.0 resource key old new is.logged.undone found.1 there (known.row resource key there) may)
    out-keeps o st next (Retract resource) is outer retract may = by (resource_named resource c.resources)
      where
        by : (x : Option Resource) → MayWrite c sent ended (lines_of (option_map_or (λ (r : Resource). carry_effect r (clerk_over o attempt id) (Retract resource) o) x o)) attempt id rows first
        by (Some r) = retract-keeps o r is.logged.undone may
        by None = may

    pub all-keep : (es : List Effect) (o : LogAndRows) (st next : Outer) → IsCarried c o attempt id rows first st → IsOuter first st → LeadsTo st es next → May o → May (carry_all c attempt id es o)
    all-keep [] o st next is outer leads may = may
    all-keep (e ∷ es) o st next is outer leads may =
        let mid : Outer = leads.0 in
        let t : LogAndRows = carry_out c attempt id e o in
        let one = out-carried c attempt id rows first known o st mid e is outer leads.1 in
        all-keep es t mid next one.carried (effect-outer first e st mid outer leads.1) leads.2 (out-keeps o st mid e is outer leads.1 may)

  -- the calls of an attempt

  abbrev pub MayGoOn : List Row → OutsideRows → Underway → Type 0
  MayGoOn rows first x = MayWrite c sent ended (lines_of x.site) x.held.attempt x.held.id rows first

  module _ (rows : List Row) (first : OutsideRows) (known : AreKnown c rows first) where
    part-keeps : (count : ℕ) (x : Underway) (p : Part) → IsCarriedSoFar c rows first x → MayGoOn rows first x → MayGoOn rows first (run_part c count x p)
    part-keeps count x p is may = by (run_call p.script p.args x.held.play) refl
      where
        by : (r : Ran) → run_call p.script p.args x.held.play ≡ r
            → MayGoOn rows first (elim r as (λ x. Underway) [
              | ran play ↦ record { held = after_call count x.held play; site = carry_all c x.held.attempt x.held.id play.effects x.site }
              | failed_at step ↦ record x { held = after_failure p step x.held }
            ])
        by (ran play) e =
            let led = call-leads first p.script p.args x.held.play play is.outer e in
            all-keep x.held.attempt x.held.id rows first known play.effects x.site (outer_of x.held.play) (outer_of play) is.carried is.outer led.leads may
        by (failed_at step) e = may

    next-keeps : (parts : List Part) (x : Underway) → IsCarriedSoFar c rows first x → MayGoOn rows first x → MayGoOn rows first (run_next c parts x)
    next-keeps parts x is may = by (slice_get parts x.held.calls)
      where
        by : (o : Option Part) → MayGoOn rows first (option_map_or (run_part c (length parts) x) o x)
        by (Some p) = part-keeps (length parts) x p is may
        by None = may

    pub calls-keep : (parts all : List Part) (x : Underway) → IsCarriedSoFar c rows first x → MayGoOn rows first x → MayGoOn rows first (run_on c parts all x)
    calls-keep [] all x is may = may
    calls-keep (p ∷ parts) all x is may =
        let one = next-goes c rows first known all x is in
        by (has_calls x.held.stage) (calls-keep parts all (run_next c all x) one.so_far (next-keeps all x is may))
      where
        by : (b : Bool) → MayGoOn rows first (run_on c parts all (run_next c all x)) → MayGoOn rows first (cond b (run_on c parts all (run_next c all x)) x)
        by true rest = rest
        by false rest = may

  -- its votes
  pub end-keeps : (first : OutsideRows) (x : Underway) → IsLogged c (lines_of x.site) x.held.attempt x.held.id x.held.play.records → IsOuter first (outer_of x.held.play)
      → is_log_legal c sent ended (lines_of x.site) ≡ true → is_log_legal c sent ended (lines_of (at_end c x).left.site) ≡ true
  end-keeps first x is outer legal =
      let forgets = end-forgets c x in
      ap (is_log_legal c sent ended) forgets.lines
      ∙ follow-append c sent ended [] (lines_of x.site) forgets.more legal
      (forgets.follow c sent ended is.undone (λ w. ap (λ es. seqs_apart (of_resource w es)) is.entries ∙ numbers-apart 1 w x.held.play.records (outer.numbers w)))

  -- and its phase
  pub phase-keeps : (attempt : ℕ) (committed : Bool) (o : LogAndRows) → is_log_legal c sent ended (lines_of o) ≡ true → is_done (lines_of o) attempt ≡ false
      → is_log_legal c sent ended (lines_of (phased c attempt committed o)) ≡ true
  phase-keeps attempt committed o legal undone = by (is_opened (lines_of o) attempt) refl
    where
      put : LogAndRows
      put = with_puts (phase_puts c (lines_of o) attempt committed) o

      by : (b : Bool) → is_opened (lines_of o) attempt ≡ b → is_log_legal c sent ended (lines_of (done_where b attempt (with_puts (phase_puts c (lines_of o) attempt committed) o))) ≡ true
      by false e = legal
      by true e =
          ap (is_log_legal c sent ended) (lines-forced (with_lines (Done attempt ∷ []) put) ∙ lines-with (Done attempt ∷ []) put)
          ∙ follow-append c sent ended [] (lines_of o) (Done attempt ∷ []) legal
          (and_from (line_may_follow c sent ended (lines_of o) (Done attempt)) true (and_from (is_opened (lines_of o) attempt) _ e (not_from_false _ undone)) refl)
