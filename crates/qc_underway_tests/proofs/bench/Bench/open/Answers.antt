use Rattle.std.proofs.Common.{◌≡◌, ◌∙◌, ◌*◌, ◌≤◌, length, max, sym, ap, subst, arith}
use Rattle.qc_base.specs.declared.fact.Kind.TheVariants.{Normal}
use Rattle.qc_frame.proofs.Staged.{stands_reserved}
use Rattle.qc_frame.specs.Log.{LogView}
use Rattle.qc_entries.specs.Entries.{EntriesView}
use Rattle.qc_txn.specs.Attempt.{AttemptView, effects_in}
use Rattle.qc_txn.specs.Parts.{parts_of}
use Rattle.crm_clerk.specs.Clerk.{ClerkView, new_clerk}
use Rattle.crm_clerk.specs.Staging.{HasRoomFor}
use Rattle.qc_underway.specs.Standing.{calls_left}
use Rattle.qc_underway.specs.Compensators.{IsOrderly}
use Rattle.qc_underway.proofs.FewLines.{room-by-effects}
use Rattle.qc_underway.proofs.Orderly.{orderly-new}
use Rattle.qc_underway_tests.proofs.bench.Bench.open.Goals as goal

pub returns : goal.returns
returns g c =
    let site = c.log_at_end.new.site in
    let catalogue = c.args.catalogue.now in
    let old = c.in-Ok.log in
    let new = c.reserve.new.self in
    let clerk = c.in-Ok-begin.clerk in
    let attempt = c.in-Ok-begin-2.attempt in
    let n = c.effects_of-effects.result in
    let log_is : new.log ≡ record old.log { spare = max old.log.spare (396 * n) } = ap (λ (v : EntriesView). v.log) c.in-Ok-reserve.ensures.ok in
    let clerk_is : clerk ≡ new_clerk 1 7 (2 * n) = c.in-Ok-begin.ensures in
    let room : 2 * n ≤ clerk.room = omega (arith, ap (λ (v : ClerkView). v.room) clerk_is) in
    let few : n ≤ 64 = omega (arith, c.if-effects-gt64.false) in
    let lines : HasRoomFor (3 * n) new = record {
      ended = ap (λ (l : LogView). l.ended) log_is ∙ c.in-Ok.ensures.ended.0;
      room = omega (arith, ap (λ (l : LogView). l.spare) log_is);
      fits = omega (arith, few, ap (λ (l : LogView). length l.payload) log_is, ap length c.in-Ok.ensures.ended.1);
    } in
    let begun = c.in-Ok-begin-2.ensures.begun in
    let all : effects_in (calls_left catalogue attempt) ≡ effects_in (parts_of catalogue c.args.recording.now Normal) = ap (λ (a : AttemptView). effects_in (calls_left catalogue a)) begun in
    let effects : effects_in (calls_left catalogue attempt) ≤ n = omega (arith, all, c.effects_of-effects.ensures) in
    λ running. record {
      plays = c.in-Ok-begin-2.ensures.plays;
      phases = sym c.has_phases.ensures ∙ c.if-not-has_phases.false;
      stands = stands_reserved g.S.Site.told (g.S.Site.shown site) (g.S.Site.may_leave site) old.log new.log (max old.log.spare (396 * n)) log_is c.in-Ok.ensures.stands;
      room = room-by-effects catalogue attempt clerk new n effects room lines;
      orderly = subst (λ (v : ClerkView). IsOrderly v) (sym clerk_is) (orderly-new 1 7 (2 * n));
    }
