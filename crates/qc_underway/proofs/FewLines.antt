-- An effect writes at most three lines, and takes room for at most two in the clerk.
use Rattle.std.proofs.Common.{◌≡◌, ℕ, ◌+◌, ◌*◌, ◌≤◌, List, [], ◌∷◌, ◌++◌, length, Bool, true, false, cond, Option, Some, None, refl, arith, length-append}
use Rattle.std.specs.Option.{option_map_or}
use Rattle.std.proofs.lemmas.List.Sums.{sum_by-cons}
use Rattle.qc_base.specs.declared.log_line.LogLine.{LogLine}
use Rattle.qc_base.specs.declared.log_line.LogLine.TheVariants.{Opened, Registered}
use Rattle.qc_base.specs.declared.log_line.LogRecord.{LogRecord}
use Rattle.qc_base.specs.LogLines.{is_opened, is_registered}
use Rattle.qc_entries.specs.Entries.{EntriesView}
use Rattle.qc_script.specs.Naming.{effects}
use Rattle.qc_catalogue.specs.declared.catalogue.Catalogue.{Catalogue}
use Rattle.qc_catalogue.specs.declared.catalogue.Resource.{Resource}
use Rattle.qc_catalogue.specs.Lookup.{resource_named}
use Rattle.qc_play.specs.declared.effect.Effect.{Effect}
use Rattle.qc_play.specs.declared.effect.Effect.TheVariants.{Change, Retract}
use Rattle.qc_play.specs.Play.{Play, Ran, ran, failed_at, run_call}
use Rattle.qc_play.proofs.CallCounts.{call-adds}
use Rattle.qc_txn.specs.Attempt.{AttemptView, effects_in}
use Rattle.qc_txn.specs.Parts.{Part}
use Rattle.crm_clerk.specs.Clerk.{ClerkView, forgot_lines, last_kept, unless, writing_lines}
use Rattle.crm_clerk.specs.Staging.{HasRoomFor}
use Rattle.qc_worker.specs.Effects.{effect_lines, effect_room, first_lines, first_room, resource_of}
use Rattle.qc_underway.specs.Standing.{HasRoomLeft, calls_left, clerk_by, clerk_by_all, lines_by, lines_by_all, lines_left, room_by, room_by_all, room_left}

few-opening : (there : Bool) (line : LogLine) → length (unless there line) ≤ 1
few-opening true line = omega arith
few-opening false line = omega arith

few-first : (c : ClerkView) (r : Resource) (there : Bool) → length (cond there [] (unless (is_opened c.lines c.attempt) (Opened c.attempt c.id) ++ Registered c.attempt r.name r.phases ∷ [])) ≤ 2
few-first c r true = omega arith
few-first c r false =
    let opening = unless (is_opened c.lines c.attempt) (Opened c.attempt c.id) in
    omega (arith, length-append opening (Registered c.attempt r.name r.phases ∷ []), few-opening (is_opened c.lines c.attempt) (Opened c.attempt c.id))

few-forgot : (c : ClerkView) (resource : List ℕ) (last : Option LogRecord) → length (forgot_lines c resource last) ≤ 3
few-forgot c resource None = omega arith
few-forgot c resource (Some last) = omega arith

few-lines : (c : ClerkView) (r : Resource) (e : Effect) → length (effect_lines c r e) ≤ 3
few-lines c r (Change resource key old new) =
    omega (arith, length-append (first_lines c r) (writing_lines c r.name key old new), few-first c r (is_registered c.lines c.attempt r.name))
few-lines c r (Retract resource) = few-forgot c r.name (last_kept c.lines c.attempt r.name)

little-first : (there : Bool) → cond there 0 1 ≤ 1
little-first true = omega arith
little-first false = omega arith

little-room : (c : ClerkView) (r : Resource) (e : Effect) → effect_room c r e ≤ 2
little-room c r (Change resource key old new) = let first : first_room c r ≤ 1 = little-first (is_registered c.lines c.attempt r.name) in omega (arith, first)
little-room c r (Retract resource) = omega arith

lines-one : (c : Catalogue) (clerk : ClerkView) (e : Effect) → length (lines_by c clerk e) ≤ 3
lines-one c clerk e = by (resource_named (resource_of e) c.resources)
  where
    by : (o : Option Resource) → length (option_map_or (λ (r : Resource). effect_lines clerk r e) o []) ≤ 3
    by None = omega arith
    by (Some r) = few-lines clerk r e

room-one : (c : Catalogue) (clerk : ClerkView) (e : Effect) → room_by c clerk e ≤ 2
room-one c clerk e = by (resource_named (resource_of e) c.resources)
  where
    by : (o : Option Resource) → option_map_or (λ (r : Resource). effect_room clerk r e) o 0 ≤ 2
    by None = omega arith
    by (Some r) = little-room clerk r e

lines-all : (c : Catalogue) (clerk : ClerkView) (es : List Effect) → lines_by_all c clerk es ≤ 3 * length es
lines-all c clerk [] = omega arith
lines-all c clerk (e ∷ es) = omega (arith, lines-one c clerk e, lines-all c (clerk_by c clerk e) es)

room-all : (c : Catalogue) (clerk : ClerkView) (es : List Effect) → room_by_all c clerk es ≤ 2 * length es
room-all c clerk [] = omega arith
room-all c clerk (e ∷ es) = omega (arith, room-one c clerk e, room-all c (clerk_by c clerk e) es)

-- so the calls that are left write at most three lines for each step with an effect

lines-calls : (c : Catalogue) (parts : List Part) (play : Play) (clerk : ClerkView) → lines_left c parts play clerk ≤ 3 * effects_in parts
lines-calls c [] play clerk = omega arith
lines-calls c (p ∷ parts) play clerk = by (run_call p.script p.args play) refl (λ next after. lines-calls c parts next after)
  where
    by : (r : Ran) → run_call p.script p.args play ≡ r → ((next : Play) (after : ClerkView) → lines_left c parts next after ≤ 3 * effects_in parts)
        → elim r [
          | ran next ↦ lines_by_all c clerk next.effects + lines_left c parts next (clerk_by_all c clerk next.effects)
          | failed_at step ↦ 0
        ] ≤ 3 * effects_in (p ∷ parts)
    by (ran next) is on = omega (
      arith,
      lines-all c clerk next.effects,
      (call-adds p.script p.args play next is).0,
      on next (clerk_by_all c clerk next.effects),
      sum_by-cons (λ (p : Part). effects p.script) p parts,
    )
    by (failed_at step) is on = omega arith

room-calls : (c : Catalogue) (parts : List Part) (play : Play) (clerk : ClerkView) → room_left c parts play clerk ≤ 2 * effects_in parts
room-calls c [] play clerk = omega arith
room-calls c (p ∷ parts) play clerk = by (run_call p.script p.args play) refl (λ next after. room-calls c parts next after)
  where
    by : (r : Ran) → run_call p.script p.args play ≡ r → ((next : Play) (after : ClerkView) → room_left c parts next after ≤ 2 * effects_in parts)
        → elim r [
          | ran next ↦ room_by_all c clerk next.effects + room_left c parts next (clerk_by_all c clerk next.effects)
          | failed_at step ↦ 0
        ] ≤ 2 * effects_in (p ∷ parts)
    by (ran next) is on = omega (
      arith,
      room-all c clerk next.effects,
      (call-adds p.script p.args play next is).0,
      on next (clerk_by_all c clerk next.effects),
      sum_by-cons (λ (p : Part). effects p.script) p parts,
    )
    by (failed_at step) is on = omega arith

pub room-by-effects : (c : Catalogue) (a : AttemptView) (clerk : ClerkView) (log : EntriesView) (n : ℕ) → effects_in (calls_left c a) ≤ n → 2 * n ≤ clerk.room → HasRoomFor (3 * n) log → HasRoomLeft c a clerk log
room-by-effects c a clerk log n few room has = record {
  clerks = omega (arith, few, room, room-calls c (calls_left c a) a.play clerk);
  logs = record {
    ended = has.ended;
    room = omega (arith, few, has.room, lines-calls c (calls_left c a) a.play clerk);
    fits = omega (arith, few, has.fits, lines-calls c (calls_left c a) a.play clerk);
  };
}
