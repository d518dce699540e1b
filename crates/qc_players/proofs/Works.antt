-- Attempts that run their next call, end, or begin.
use Rattle.std.proofs.Common.{◌≡◌, ◌∙◌, ℕ, ◌-◌, List, [], length, slice_get, refl, sym, ap, subst, Option, Some, None, Ok, Err}
use Rattle.std.specs.Option.{option_map_or}
use Rattle.qc_base.specs.declared.fact.Kind.{Kind}
use Rattle.qc_base.specs.declared.log_line.Why.{Why}
use Rattle.qc_base.specs.declared.log_line.Why.TheVariants.{Step as AtStep}
use Rattle.qc_base.specs.declared.recording.Recording.{Recording}
use Rattle.qc_protocol.specs.declared.reply.Reply.{Reply}
use Rattle.qc_catalogue.specs.declared.catalogue.Catalogue.{Catalogue}
use Rattle.qc_play.specs.Play.{Ran, ran, failed_at, run_call}
use Rattle.qc_play.specs.State.{StateView}
use Rattle.qc_play.proofs.Playing.{call_rows}
use Rattle.qc_txn.specs.Attempt.{AttemptView, FailsCall, PlaysBy, RunsCall, RunsNext, begun, decided, effects_in, why_at_end}
use Rattle.qc_txn.specs.Outcome.{not_ready, why_by}
use Rattle.qc_txn.specs.Parts.{Part, parts_of}
use Rattle.qc_txn.proofs.PartsAt.{count_is}
use Rattle.qc_machine.specs.Attempts.{holding_of, parts_held}
use Rattle.qc_machine.specs.Playing.{after_call, after_failure, ended_attempt, next_number, why_ended, work_part, work_reply}
use Rattle.qc_machine.specs.State.{HeldAttempt}
use Rattle.qc_players.specs.Orders.{WorksOn, worked_by}
use Rattle.qc_players.specs.Players.{IsPlayedBy, held_of}
use Rattle.qc_players.proofs.Quiet.{quiet-call}

abbrev by_ran : ℕ → HeldAttempt → Part → Ran → HeldAttempt
by_ran count a p r = elim r [ ran play ↦ after_call count a play | failed_at step ↦ after_failure p step a ]

abbrev by_part : ℕ → HeldAttempt → Option Part → HeldAttempt
by_part count a o = option_map_or (work_part count a) o a

abbrev number_by : Option Part → ℕ
number_by o = option_map_or (λ (p : Part). p.number) o 0

-- its message and its rows stay the same
pub worked-holding : (c : Catalogue) (a : HeldAttempt) → holding_of (worked_by c a) ≡ holding_of a
worked-holding c a = by (slice_get (parts_held c a) a.calls)
  where
    count : ℕ
    count = length (parts_held c a)

    by_run : (p : Part) (r : Ran) → run_call p.script p.args a.play ≡ r → holding_of (by_ran count a p r) ≡ holding_of a
    by_run p (ran next) e = ap (λ rows. record { attempt = a.attempt; id = a.id; rows = rows }) (call_rows p.script p.args a.play next e)
    by_run p (failed_at step) e = refl

    by : (o : Option Part) → holding_of (by_part count a o) ≡ holding_of a
    by None = refl
    by (Some p) = by_run p (run_call p.script p.args a.play) refl

module _ (c : Catalogue) (old new : AttemptView) (is : IsPlayedBy c old) (plays : PlaysBy c new) (reply : Reply) where
  abbrev parts : List Part
  parts = parts_of c old.recording old.kind

  module _ (p : Part) (at : slice_get parts old.calls ≡ Some p) where
    -- the call at the place of the attempt is what it does next
    next-is : (r : Ran) → run_call p.script p.args old.play ≡ r → worked_by c (held_of old) ≡ by_ran (length parts) (held_of old) p r
    next-is r e = ap (by_part (length parts) (held_of old)) at ∙ ap (by_ran (length parts) (held_of old) p) e

    runs-works : (number : ℕ) → RunsCall p old new number → reply ≡ work_reply new.why number (new.count - new.calls) → WorksOn c old new reply
    runs-works number runs replied =
        let held : held_of new ≡ worked_by c (held_of old) = ap held_of runs.kept ∙ ap (λ n. after_call n (held_of old) new.play) is.count ∙ sym (next-is (ran new.play) runs.play) in
        let count : new.count ≡ length parts = ap (λ (a : AttemptView). a.count) runs.kept ∙ is.count in
        let this : number ≡ next_number parts (held_of old) = runs.told ∙ sym (ap number_by at) in
        record {
          held = held;
          told = replied
              ∙ ap (λ n. work_reply new.why n (new.count - new.calls)) this
              ∙ ap (λ n. work_reply new.why (next_number parts (held_of old)) (n - new.calls)) count
              ∙ ap (λ (h : HeldAttempt). work_reply h.why (next_number parts (held_of old)) (length parts - h.calls)) held;
          played = record {
            plays = plays;
            count = subst (λ (a : AttemptView). a.count ≡ length (parts_of c a.recording a.kind)) (sym runs.kept) is.count;
            inside = subst (λ (a : AttemptView). effects_in (parts_of c a.recording a.kind) ≡ 0) (sym runs.kept) is.inside;
            records = quiet-call parts old.calls p old.play new.play is.inside at is.records runs.play;
            refuser = ap (λ (a : AttemptView). a.refuser) runs.kept ∙ is.refuser;
          };
        }

    fails-works : (step : ℕ) → FailsCall p old new step → reply ≡ work_reply new.why 0 (new.count - new.calls) → WorksOn c old new reply
    fails-works step failing replied =
        let held : held_of new ≡ worked_by c (held_of old) = ap held_of failing.kept ∙ sym (next-is (failed_at step) failing.play) in
        let why : new.why ≡ Some (AtStep p.number step) = ap (λ (a : AttemptView). a.why) failing.kept in
        let why_by_machine : (worked_by c (held_of old)).why ≡ Some (AtStep p.number step) = ap (λ (h : HeldAttempt). h.why) (sym held) ∙ why in
        record {
          held = held;
          told = replied
              ∙ ap (λ w. work_reply w 0 (new.count - new.calls)) why
              ∙ sym (ap (λ w. work_reply w (next_number parts (held_of old)) (length parts - (worked_by c (held_of old)).calls)) why_by_machine);
          played = record {
            plays = plays;
            count = subst (λ (a : AttemptView). a.count ≡ length (parts_of c a.recording a.kind)) (sym failing.kept) is.count;
            inside = subst (λ (a : AttemptView). effects_in (parts_of c a.recording a.kind) ≡ 0) (sym failing.kept) is.inside;
            records = ap (λ (a : AttemptView). a.play.records) failing.kept ∙ is.records;
            refuser = ap (λ (a : AttemptView). a.refuser) failing.kept ∙ is.refuser;
          };
        }

  pub ran-works : (number : ℕ) → RunsNext (slice_get parts old.calls) old new (Ok number) → reply ≡ work_reply new.why number (new.count - new.calls) → WorksOn c old new reply
  ran-works number runs told = by (slice_get parts old.calls) refl runs
    where
      by : (o : Option Part) → slice_get parts old.calls ≡ o → RunsNext o old new (Ok number) → WorksOn c old new reply
      by None at runs = absurd runs
      by (Some p) at runs = runs-works p at number runs told

  pub failed-works : (step : ℕ) → RunsNext (slice_get parts old.calls) old new (Err step) → reply ≡ work_reply new.why 0 (new.count - new.calls) → WorksOn c old new reply
  failed-works step failing told = by (slice_get parts old.calls) refl failing
    where
      by : (o : Option Part) → slice_get parts old.calls ≡ o → RunsNext o old new (Err step) → WorksOn c old new reply
      by None at failing = absurd failing
      by (Some p) at failing = fails-works p at step failing told

-- an attempt that ends

module _ (c : Catalogue) (a : AttemptView) (is : IsPlayedBy c a) where
  abbrev why_with : Option (List ℕ) → Option Why
  why_with refuser = elim a.why [ Some why ↦ Some why | None ↦ why_by a.play.forced refuser ]

  pub why-same : why_at_end a ≡ why_ended c (held_of a)
  why-same = ap why_with (is.refuser ∙ sym (ap (not_ready c) is.records))

  pub ends-held : held_of (decided a) ≡ ended_attempt (why_ended c (held_of a)) (held_of a)
  ends-held = ap (λ (why : Option Why). ended_attempt why (held_of a)) why-same

  pub ends-played : IsPlayedBy c (decided a)
  ends-played = record {
    plays = record { playable = is.plays.playable; room = is.plays.room };
    count = is.count;
    inside = is.inside;
    records = is.records;
    refuser = is.refuser;
  }

-- an attempt that begins
pub begun-played : (c : Catalogue) (id number : ℕ) (kind : Kind) (r : Recording) (state : StateView) → PlaysBy c (begun id number kind r state) → effects_in (parts_of c r kind) ≡ 0 → state.play.records ≡ []
    → IsPlayedBy c (begun id number kind r state)
begun-played c id number kind r state plays inside records = record {
  plays = plays;
  count = sym (count_is c r kind plays.playable);
  inside = inside;
  records = records;
  refuser = refl;
}
