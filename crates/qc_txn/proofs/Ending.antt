-- An attempt ends by the outcome of its recording.
use Rattle.std.proofs.Common.{◌≡◌, ◌∙◌, ◌⊎◌, inl, inr, ℕ, List, [], ◌∷◌, Bool, true, false, not, cond, find, refl, sym, ap, subst, Option, Some, None}
use Rattle.qc_play.specs.declared.record.PlayRecord.{PlayRecord}
use Rattle.qc_base.specs.declared.log_line.Why.{Why}
use Rattle.qc_base.specs.declared.log_line.Why.TheVariants.{Step as AtStep}
use Rattle.qc_catalogue.specs.declared.catalogue.Catalogue.{Catalogue}
use Rattle.qc_play.specs.Play.{Play, Seen, Ran, ran, failed_at, run_call}
use Rattle.qc_txn.specs.Attempt.{AttemptView, FailsCall, RunsCall, voted, why_at_end}
use Rattle.qc_txn.specs.Ends.{PlaysAll, end_of, votes_of}
use Rattle.qc_txn.specs.Outcome.{Outcome, PlayedAll, all_played, stopped_at, decision, ended, fails, new_play, not_ready, outcome, play_all, votes_no, why_by}
use Rattle.qc_txn.specs.Parts.{Part, parts_of}

-- the play state and the failing step, as they were played
abbrev EndsSo : PlayedAll → AttemptView → Type 0
EndsSo (all_played play) a = (a.play ≡ play) × (a.why ≡ None)
EndsSo (stopped_at call step) a = a.why ≡ Some (AtStep call step)

abbrev after_call : List Part → Part → Ran → PlayedAll
after_call parts p r = elim r [ ran next ↦ play_all parts next | failed_at step ↦ stopped_at p.number step ]

ends_so : (parts : List Part) (old new : AttemptView) → PlaysAll parts old new → old.why ≡ None → EndsSo (play_all parts old.play) new
ends_so [] old new is none = (ap (λ (a : AttemptView). a.play) is, ap (λ (a : AttemptView). a.why) is ∙ none)
ends_so (p ∷ parts) old new (inl (next, number, runs, more)) none =
    subst (λ r. EndsSo (after_call parts p r) new) (sym runs.play) (ends_so parts next new more (ap (λ (a : AttemptView). a.why) runs.kept ∙ none))
ends_so (p ∷ parts) old new (inr (step, failing)) none =
    subst (λ r. EndsSo (after_call parts p r) new) (sym failing.play) (ap (λ (a : AttemptView). a.why) failing.kept)

abbrev outcome_by : Catalogue → PlayedAll → Outcome
outcome_by c played = elim played [ all_played play ↦ decision c play | stopped_at call step ↦ fails (AtStep call step) ]

abbrev end_by : Catalogue → Play → Option Why → Outcome
end_by c play why = ended play (elim why [ Some why ↦ Some why | None ↦ why_by play.forced (not_ready c play.records) ])

same_end : (c : Catalogue) (a : AttemptView) (played : PlayedAll) → EndsSo played a → outcome_by c played ≡ end_of c a
same_end c a (all_played play) h = sym (ap (λ (p : Play). end_by c p a.why) h.0 ∙ ap (end_by c play) h.1)
same_end c a (stopped_at call step) h = sym (ap (end_by c a.play) h)

pub ends : (c : Catalogue) (view : List Seen) (old new : AttemptView) → old.play ≡ new_play view → old.why ≡ None → PlaysAll (parts_of c old.recording old.kind) old new
    → outcome c old.recording old.kind view ≡ end_of c new
ends c view old new begun none plays =
    ap (λ (p : Play). outcome_by c (play_all (parts_of c old.recording old.kind) p)) (sym begun)
    ∙ same_end c new (play_all (parts_of c old.recording old.kind) old.play) (ends_so (parts_of c old.recording old.kind) old new plays none)

kept_refuser : (c : Catalogue) (records : List PlayRecord) (names : List (List ℕ)) (name : List ℕ) → votes_of c records names (Some name) ≡ Some name
kept_refuser c records [] name = refl
kept_refuser c records (n ∷ names) name = kept_refuser c records names name

-- of votes one after another the first that isn't ready counts
pub first_refuser : (c : Catalogue) (records : List PlayRecord) (names : List (List ℕ)) → votes_of c records names None ≡ find (votes_no c records) names
first_refuser c records [] = refl
first_refuser c records (name ∷ names) = by (votes_no c records name) (first_refuser c records names)
  where
    by : (b : Bool) → votes_of c records names None ≡ find (votes_no c records) names
        → votes_of c records names (voted name (not b) None) ≡ cond b (Some name) (find (votes_no c records) names)
    by true rest = kept_refuser c records names name
    by false rest = rest
