-- Attempts that begin, and those that are played again to their end.
use Rattle.std.proofs.Common.{◌≡◌, ◌∙◌, ℕ, ◌==◌, List, [], ◌∷◌, true, drop, refl, sym, ap, subst, eqb-true, Option, Some, None, option_map, is_some, inl, inr}
use Rattle.std.proofs.lemmas.Bool.{false≢true}
use Rattle.std.proofs.lemmas.Option.{same_Some}
use Rattle.qc_base.specs.declared.fact.Kind.{Kind}
use Rattle.qc_base.specs.declared.message.Message.{Message}
use Rattle.qc_base.specs.declared.recording.Row.{Row}
use Rattle.qc_base.specs.Messages.{message_of}
use Rattle.qc_catalogue.specs.declared.catalogue.Catalogue.{Catalogue}
use Rattle.qc_listener.specs.Choice.{kind_at}
use Rattle.qc_listener.specs.Index.{MessageRows, entry_of, rows_by, rows_for, rows_kept}
use Rattle.qc_listener.proofs.Kept.{rows_of_kind}
use Rattle.qc_machine.specs.History.{History, outcome_on, settled_amount}
use Rattle.qc_play.specs.Play.{Seen}
use Rattle.qc_txn.specs.Attempt.{AttemptView, decided, why_at_end}
use Rattle.qc_txn.specs.Ends.{PlaysAll, votes_of}
use Rattle.qc_txn.specs.Outcome.{ended, not_ready, outcome, view_of}
use Rattle.qc_txn.specs.Parts.{Part, parts_of, rows_of_attempt}
use Rattle.qc_txn.proofs.Ending.{ends, first_refuser}
use Rattle.qc_history.specs.Playing.{BeginsOn, IsPlayedAgain, kind_of_attempt}
use Rattle.qc_history.specs.Stands.{IsHistoryOf}
use Rattle.qc_history.specs.View.{HistoryView}
use Rattle.qc_history.specs.Votes.{heard_out, names_changed}
use Rattle.qc_history.proofs.Follows.{KindFound, kind-found}
use Rattle.qc_history.proofs.Kept.{found-passes}

-- the rows that an index keeps of a message in the queues
pub kept-rows : (c : Catalogue) (rows : List MessageRows) (m : Message) (kind : Kind) → entry_of m.id rows ≡ Some (rows_for c m.id m.recording) → rows_kept m.id kind rows ≡ Some (rows_of_attempt c m.recording kind)
kept-rows c rows m kind e = ap (λ (o : Option MessageRows). option_map (rows_by kind) o) e ∙ ap (λ (l : List Row). Some l) (rows_of_kind c m.id m.recording kind)

pub begun-kind : (view : HistoryView) (of number : ℕ) (a : AttemptView) → BeginsOn view of number a → is_some (kind_of_attempt view.catalogue of view.store.messages) ≡ true → kind_of_attempt view.catalogue of view.store.messages ≡ Some a.kind
begun-kind view of number a on some = by (kind_of_attempt view.catalogue of view.store.messages) refl some
  where
    by : (o : Option Kind) → kind_of_attempt view.catalogue of view.store.messages ≡ o → is_some o ≡ true → kind_of_attempt view.catalogue of view.store.messages ≡ Some a.kind
    by None e t = absurd (false≢true t)
    by (Some k) e t =
        let at : KindFound view.catalogue of view.store.messages k = kind-found view.catalogue of view.store.messages k e in
        let one : at.message ≡ on.message = same_Some at.message on.message (sym at.found ∙ on.found) in
        let same : k ≡ a.kind = at.kind ∙ ap (λ (m : Message). kind_at m.place) one ∙ sym (ap (λ (x : AttemptView). x.kind) on.is) in
        e ∙ ap (λ (x : Kind). Some x) same

-- calls leave what the attempt is on
pub record SameAttempt (a b : AttemptView) : Type 0 where
  pub id : b.id ≡ a.id
  pub number : b.number ≡ a.number
  pub kind : b.kind ≡ a.kind
  pub refuser : b.refuser ≡ a.refuser

pub calls-same : (parts : List Part) (old new : AttemptView) → PlaysAll parts old new → SameAttempt old new
calls-same [] old new is = record {
  id = ap (λ (a : AttemptView). a.id) is;
  number = ap (λ (a : AttemptView). a.number) is;
  kind = ap (λ (a : AttemptView). a.kind) is;
  refuser = ap (λ (a : AttemptView). a.refuser) is;
}
calls-same (p ∷ parts) old new (inl (next, number, runs, more)) =
    let rest = calls-same parts next new more in
    record {
      id = rest.id ∙ ap (λ (a : AttemptView). a.id) runs.kept;
      number = rest.number ∙ ap (λ (a : AttemptView). a.number) runs.kept;
      kind = rest.kind ∙ ap (λ (a : AttemptView). a.kind) runs.kept;
      refuser = rest.refuser ∙ ap (λ (a : AttemptView). a.refuser) runs.kept;
    }
calls-same (p ∷ parts) old new (inr (step, failing)) = record {
  id = ap (λ (a : AttemptView). a.id) failing.kept;
  number = ap (λ (a : AttemptView). a.number) failing.kept;
  kind = ap (λ (a : AttemptView). a.kind) failing.kept;
  refuser = ap (λ (a : AttemptView). a.refuser) failing.kept;
}

-- it ends by its outcome, after the votes
module _ (view : HistoryView) (of number : ℕ) (a last : AttemptView) (on : BeginsOn view of number a) (plays : PlaysAll (drop a.calls (parts_of view.catalogue a.recording a.kind)) a last) where
  abbrev all : List Part
  all = parts_of view.catalogue a.recording a.kind

  abbrev seen : List Seen
  seen = view_of (settled_amount view.tables.tables view.outside) (rows_of_attempt view.catalogue on.message.recording (kind_at on.message.place))

  abbrev heard : AttemptView
  heard = heard_out view.catalogue last

  from_first : PlaysAll all a last
  from_first = subst (λ n. PlaysAll (drop n all) a last) (ap (λ (x : AttemptView). x.calls) on.is) plays

  same : SameAttempt a last
  same = calls-same all a last from_first

  -- no resource was heard before
  votes-are : not_ready view.catalogue last.play.records ≡ heard.refuser
  votes-are =
      sym (first_refuser view.catalogue last.play.records (names_changed last.play.records))
      ∙ ap (votes_of view.catalogue last.play.records (names_changed last.play.records)) (sym (same.refuser ∙ ap (λ (x : AttemptView). x.refuser) on.is))

  outcome-seen : outcome view.catalogue a.recording a.kind seen ≡ ended heard.play (why_at_end heard)
  outcome-seen =
      ends view.catalogue seen a last (ap (λ (x : AttemptView). x.play) on.is) (ap (λ (x : AttemptView). x.why) on.is) from_first
      ∙ ap (λ (o : Option (List ℕ)). ended last.play (why_at_end (record last { refuser = o }))) votes-are

  id-is : last.id ≡ of
  id-is = same.id ∙ ap (λ (x : AttemptView). x.id) on.is ∙ eqb-true on.message.id of (found-passes (λ (m : Message). m.id == of) view.store.messages on.message on.found)

  -- by the history's definitions
  outcome-at : (h : History) → IsHistoryOf view h → outcome_on h a.kind on.message ≡ ended heard.play (why_at_end heard)
  outcome-at h is =
      let rec : a.recording ≡ on.message.recording = ap (λ (x : AttemptView). x.recording) on.is in
      let kin : a.kind ≡ kind_at on.message.place = ap (λ (x : AttemptView). x.kind) on.is in
      (λ i. outcome (sym is.catalogue i) (sym rec i) a.kind (view_of (settled_amount (sym is.tables i) (sym is.outside i)) (rows_of_attempt (sym is.catalogue i) on.message.recording (kin i)))) ∙ outcome-seen

  pub played-again : is_some (kind_of_attempt view.catalogue of view.store.messages) ≡ true → IsPlayedAgain view of number (decided heard)
  played-again some = record {
    id = id-is;
    number = same.number ∙ ap (λ (x : AttemptView). x.number) on.is;
    kind = begun-kind view of number a on some ∙ ap (λ (k : Kind). Some k) (sym same.kind);
    ends = λ h is m found.
        let here : message_of last.id h.messages ≡ Some on.message = ap (λ n. message_of n h.messages) id-is ∙ ap (message_of of) (sym is.messages) ∙ on.found in
        let one : m ≡ on.message = same_Some m on.message (sym found ∙ here) in
        ap (outcome_on h last.kind) one ∙ ap (λ (k : Kind). outcome_on h k on.message) same.kind ∙ outcome-at h is;
  }
