-- One effect, beside the machine's. `g` has the members of the site's trait.
use Rattle.std.proofs.Common.{◌≡◌, ◌∙◌, ℕ, ◌+◌, ◌≤◌, List, [], ◌∷◌, ◌++◌, length, Bool, true, false, cond, Option, Some, None, Result, Ok, Err, IsErr, refl, sym, ap, subst, arith, append-nil, length-append}
use Rattle.std.specs.Prelude.{MatchBool, OnOk, ◌-◌}
use Rattle.std.specs.Option.{option_map_or}
use Rattle.std.proofs.lemmas.Bool.{false≢true}
use Rattle.qc_base.specs.declared.log_line.LogLine.{LogLine}
use Rattle.qc_site.specs.declared.site.Failed.{Failed}
use Rattle.qc_site.specs.declared.site.Site.{Ghosts}
use Rattle.qc_site.specs.Causes.{HasCause}
use Rattle.qc_site.specs.Image.{Image, bytes_of}
use Rattle.qc_frame.specs.Calls.{LogStands}
use Rattle.qc_frame.specs.Gate.{with_group}
use Rattle.qc_entries.specs.Entries.{EntriesView}
use Rattle.qc_catalogue.specs.declared.catalogue.Catalogue.{Catalogue}
use Rattle.qc_catalogue.specs.declared.catalogue.Resource.{Resource}
use Rattle.qc_catalogue.specs.Lookup.{resource_named}
use Rattle.qc_play.specs.declared.effect.Effect.{Effect}
use Rattle.qc_play.specs.declared.effect.Effect.TheVariants.{Change, Retract}
use Rattle.crm_clerk.specs.Clerk.{ClerkView, forgetting_lines, writing_lines}
use Rattle.crm_clerk.specs.Staging.{TakesRoom, staged_lines}
use Rattle.crm_driver.specs.Puts.{RowPut}
use Rattle.crm_driver.specs.RowRules.{put_of}
use Rattle.qc_worker.specs.Calls.{Carries, PutsThenWrites, WritesThenPuts, forced_lines}
use Rattle.qc_worker.specs.Effects.{change_lines, effect_lines, effect_room, first_lines, first_room, resource_of, retract_puts}
use Rattle.qc_machine.specs.Carrying.{carry_effect, carry_out, clerk_over}
use Rattle.qc_machine.specs.LogAndRows.{LogAndRows, after_force, with_lines, with_puts}
use Rattle.qc_underway.specs.Calls.{CarriesBy, CarriesOne, PassesOver}
use Rattle.qc_underway.specs.Standing.{IsAt, IsUnderway, LeavesRoom, lines_by, room_by}
use Rattle.qc_underway.proofs.OwnWords.{change-over, effect-own, forgetting-over, retract-over}
use Rattle.qc_underway.proofs.Steps.{clerk-on, forced-is, forced-put-at, grouped, lines-grouped, lines-written, put-at, rows-of-file, written-at}

-- room of the log

room-of-none : (log later : EntriesView) → later ≡ log → LeavesRoom 0 log later
room-of-none log later is = record { ended = ap (λ (e : EntriesView). e.log.ended) is; room = omega (arith, ap (λ (e : EntriesView). e.log.spare) is); fits = omega (arith, ap (λ (e : EntriesView). length e.log.payload) is) }

room-of-lines : (n : ℕ) (log later : EntriesView) → TakesRoom n log later → LeavesRoom n log later
room-of-lines n log later takes = record { ended = ap (λ (e : EntriesView). e.log.ended) takes.same; room = takes.room; fits = takes.fits }

-- a force gives back what waited
room-of-force : (n : ℕ) (log mid later : EntriesView) → TakesRoom n log mid → later ≡ forced_lines mid → LeavesRoom n log later
room-of-force n log mid later takes is = record {
  ended = ap (λ (e : EntriesView). e.log.ended) is ∙ ap (λ (e : EntriesView). e.log.ended) takes.same;
  room = omega (arith, takes.room, ap (λ (e : EntriesView). e.log.spare) is);
  fits = omega (arith, ap (λ (e : EntriesView). length e.log.payload) is);
}

module _ {S : Type 0} (g : Ghosts S) where
  -- what is left of clerk, log and site whatever the site tells, by what the effect writes
  pub record Leaves (lines : List LogLine) (taken : ℕ) (result : Result (Unit {0}) Failed)
      (old : ClerkView) (log : EntriesView) (site : S) (new : ClerkView) (later : EntriesView) (after : S) : Type 0 where
    pub clerk : OnOk result (new ≡ record old { lines = old.lines ++ lines; room = old.room - taken })
    pub room : OnOk result (LeavesRoom (length lines) log later)
    pub stands : OnOk result (LogStands g later.log after)
    pub cause : HasCause (g.faults site) (g.faults after) (IsErr result)

  leaves-written : (lines : List LogLine) (taken : ℕ) (put : RowPut) (result : Result (Unit {0}) Failed) (old new : ClerkView) (log later : EntriesView) (site after : S) → WritesThenPuts g lines taken put result old log site new later after
      → Leaves lines taken result old log site new later after
  leaves-written lines taken put (Ok a) old new log later site after w = record {
    clerk = w.written.clerk;
    room = room-of-force (length lines) log (staged_lines log lines) later w.written.room w.puts.forces;
    stands = w.puts.stands;
    cause = w.puts.cause;
  }
  leaves-written lines taken put (Err e) old new log later site after w = record { clerk = tt; room = tt; stands = tt; cause = w.puts.cause }

  leaves-put : (lines : List LogLine) (taken : ℕ) (puts : List RowPut) (result : Result (Unit {0}) Failed) (old new : ClerkView) (log later : EntriesView) (site after : S) → PutsThenWrites g puts lines taken result old log site new later after
      → Leaves lines taken result old log site new later after
  leaves-put lines taken puts (Ok a) old new log later site after w = record {
    clerk = w.written.clerk;
    room = room-of-lines (length lines) log later w.written.room;
    stands = w.stands;
    cause = w.makes.cause;
  }
  leaves-put lines taken puts (Err e) old new log later site after w = record { clerk = tt; room = tt; stands = tt; cause = w.makes.cause }

  leaves-passed : (result : Result (Unit {0}) Failed) (old new : ClerkView) (log later : EntriesView) (site after : S) → LogStands g log.log site → PassesOver g result old log site new later after → Leaves [] 0 result old log site new later after
  leaves-passed (Ok a) old new log later site after stood p =
      let same : record old { lines = old.lines; room = old.room } ≡ record old { lines = old.lines ++ []; room = old.room - 0 } = λ i. record old { lines = sym (append-nil old.lines) i; room = none i } in
      record {
        clerk = p.clerk ∙ same;
        room = room-of-none log later p.lines;
        stands = subst (λ (e : EntriesView). LogStands g e.log after) (sym p.lines) (subst (λ (s : S). LogStands g log.log s) (sym p.still) stood);
        cause = record { no_fewer = omega (arith, ap g.faults p.still); cause = λ failed. absurd (false≢true failed) };
      }
    where
      none : old.room ≡ old.room - 0
      none = omega arith
  leaves-passed (Err e) old new log later site after stood p = absurd (false≢true p.ok)

  leaves-effect : (r : Resource) (e : Effect) (result : Result (Unit {0}) Failed) (old new : ClerkView) (log later : EntriesView) (site after : S) → Carries g r e result old log site new later after
      → Leaves (effect_lines old r e) (effect_room old r e) result old log site new later after
  leaves-effect r (Change resource key amount becomes) result old new log later site after carried = by r.early carried
    where
      by : (b : Bool) → MatchBool b (WritesThenPuts g (change_lines old r key amount becomes) (first_room old r + 1) (put_of r.name key becomes) result old log site new later after)
          (PutsThenWrites g [] (change_lines old r key amount becomes) (first_room old r + 1) result old log site new later after)
          → Leaves (change_lines old r key amount becomes) (first_room old r + 1) result old log site new later after
      by true w = leaves-written (change_lines old r key amount becomes) (first_room old r + 1) (put_of r.name key becomes) result old new log later site after w
      by false w = leaves-put (change_lines old r key amount becomes) (first_room old r + 1) [] result old new log later site after w
  leaves-effect r (Retract resource) result old new log later site after carried = leaves-put (forgetting_lines old r.name) 0 (retract_puts old r) result old new log later site after carried

  leaves-by : (o : Option Resource) (e : Effect) (result : Result (Unit {0}) Failed) (old new : ClerkView) (log later : EntriesView) (site after : S) → LogStands g log.log site → CarriesBy g o e result old log site new later after
      → Leaves (option_map_or (λ (r : Resource). effect_lines old r e) o []) (option_map_or (λ (r : Resource). effect_room old r e) o 0) result old log site new later after
  leaves-by (Some r) e result old new log later site after stood carried = leaves-effect r e result old new log later site after carried
  leaves-by None e result old new log later site after stood carried = leaves-passed result old new log later site after stood carried

  pub leaves-one : (c : Catalogue) (e : Effect) (result : Result (Unit {0}) Failed) (old new : ClerkView) (log later : EntriesView) (site after : S) → LogStands g log.log site → CarriesOne g c e result old log site new later after
      → Leaves (lines_by c old e) (room_by c old e) result old log site new later after
  leaves-one c e result old new log later site after stood carried = leaves-by (resource_named (resource_of e) c.resources) e result old new log later site after stood carried

  -- where the site tells, log and rows are those of the machine

  module _ (told : g.told) (old new : ClerkView) (log later : EntriesView) (site after : S) (o : LogAndRows) (is : IsUnderway (g.shown site) log old o) where
    abbrev Now : LogAndRows → Type 0
    Now now = IsUnderway (g.shown after) later new now

    module _ (r : Resource) (key : List ℕ) (amount becomes : ℕ) where
      abbrev lines : List LogLine
      lines = change_lines old r key amount becomes

      change-told : (b : Bool) → MatchBool b (WritesThenPuts g lines (first_room old r + 1) (put_of r.name key becomes) (Ok (tt {0})) old log site new later after)
          (PutsThenWrites g [] lines (first_room old r + 1) (Ok (tt {0})) old log site new later after)
          → Now (cond b (with_puts (put_of r.name key becomes ∷ []) (after_force (with_lines lines o))) (with_lines lines o))
      change-told true w =
          let mid = written-at (g.shown site) log (staged_lines log lines) o lines (first_room old r + 1) old new w.written is.site in
          let shown = w.puts.shown told in
          let some : 1 ≤ length (o.staged ++ lines) = omega (arith, length-append o.staged lines, length-append (first_lines old r) (writing_lines old r.name key amount becomes)) in
          let rows : shown.logged.rows ≡ (g.shown site).rows =
          ap (λ (i : Image). i.rows) shown.group.shown
          ∙ rows-of-file (staged_lines log lines).log.file (with_group (bytes_of (staged_lines log lines).log.file (g.shown site)) (staged_lines log lines).log.place (staged_lines log lines).log.payload) (g.shown site) in
          let spelled = w.puts.spells told o.groups (o.staged ++ lines) mid.waits some is.site.spelled in
          let P : LogAndRows → Type 0 = λ m. Now (with_puts (put_of r.name key becomes ∷ []) m) in
          subst P (sym (forced-is (with_lines lines o) (o.staged ++ lines) refl some))
          (record {
            site = forced-put-at (g.shown site) shown.logged (g.shown after) (staged_lines log lines) later (with_lines lines o) (put_of r.name key becomes) mid w.puts.forces rows shown.row spelled;
            own = clerk-on old new o (with_puts (put_of r.name key becomes ∷ []) (grouped (with_lines lines o))) lines (first_room old r + 1) w.written.clerk (effect-own old r (Change r.name key amount becomes)) (lines-grouped (with_lines lines o) ∙ lines-written o lines) is.own;
          })
      change-told false w =
          let same : g.shown after ≡ g.shown site = ap g.shown (w.makes.nothing refl).1 in
          let at = written-at (g.shown site) log later o lines (first_room old r + 1) old new w.written is.site in
          record {
            site = subst (λ (i : Image). IsAt i later (with_lines lines o)) (sym same) at;
            own = clerk-on old new o (with_lines lines o) lines (first_room old r + 1) w.written.clerk (effect-own old r (Change r.name key amount becomes)) (lines-written o lines) is.own;
          }

    -- an effect of a resource, where the lines and puts are the clerk's
    change-effect : (r : Resource) (key : List ℕ) (amount becomes : ℕ) (resource : List ℕ) → Carries g r (Change resource key amount becomes) (Ok (tt {0})) old log site new later after
        → Now (carry_effect r (clerk_over o old.attempt old.id) (Change resource key amount becomes) o)
    change-effect r key amount becomes resource carried =
        let P : List LogLine → Type 0 = λ l. Now (cond r.early (with_puts (put_of r.name key becomes ∷ []) (after_force (with_lines l o))) (with_lines l o)) in
        subst P (change-over old o is.own r key amount becomes) (change-told r key amount becomes r.early carried)

    retract-effect : (r : Resource) (resource : List ℕ) → Carries g r (Retract resource) (Ok (tt {0})) old log site new later after → Now (carry_effect r (clerk_over o old.attempt old.id) (Retract resource) o)
    retract-effect r resource w =
        let lines = forgetting_lines old r.name in
        let puts = retract_puts old r in
        let at = put-at (g.shown site) (g.shown after) log o puts (w.makes.made told) is.site in
        let done : Now (with_lines lines (with_puts puts o)) = record {
          site = written-at (g.shown after) log later (with_puts puts o) lines 0 old new w.written at;
          own = clerk-on old new o (with_lines lines (with_puts puts o)) lines 0 w.written.clerk (effect-own old r (Retract resource)) (lines-written (with_puts puts o) lines) is.own;
        } in
        let P : List LogLine → List RowPut → Type 0 = λ l ps. Now (with_lines l (with_puts ps o)) in
        subst (λ (l : List LogLine). P l (retract_puts (clerk_over o old.attempt old.id) r)) (forgetting-over old o is.own r.name) (subst (λ (ps : List RowPut). P lines ps) (retract-over old o is.own r) done)

    effect-told : (r : Resource) (e : Effect) → Carries g r e (Ok (tt {0})) old log site new later after → Now (carry_effect r (clerk_over o old.attempt old.id) e o)
    effect-told r (Change resource key amount becomes) carried = change-effect r key amount becomes resource carried
    effect-told r (Retract resource) carried = retract-effect r resource carried

    by-told : (found : Option Resource) (e : Effect) → CarriesBy g found e (Ok (tt {0})) old log site new later after
        → Now (option_map_or (λ (r : Resource). carry_effect r (clerk_over o old.attempt old.id) e o) found o)
    by-told (Some r) e carried = effect-told r e carried
    by-told None e p =
        let P : S → EntriesView → ClerkView → Type 0 = λ s l k. IsUnderway (g.shown s) l k o in
        subst (λ (s : S). P s later new) (sym p.still) (subst (λ (l : EntriesView). P site l new) (sym p.lines) (subst (λ (k : ClerkView). P site log k) (sym p.clerk) is))

    pub told-one : (c : Catalogue) (e : Effect) → CarriesOne g c e (Ok (tt {0})) old log site new later after → Now (carry_out c old.attempt old.id e o)
    told-one c e carried = by-told (resource_named (resource_of e) c.resources) e carried
