-- What is kept of a history with one fact more.
use Rattle.std.proofs.Common.{◌≡◌, ◌∙◌, ℕ, ◌+◌, ◌<◌, max, List, [], ◌∷◌, ◌++◌, Bool, true, false, length, refl, sym, ap, subst, arith, Option, Some, None, is_some}
use Rattle.std.specs.Prelude.{filter_map}
use Rattle.std.specs.Option.{option_map_or}
use Rattle.std.proofs.lemmas.Bool.{false≢true}
use Rattle.std.proofs.lemmas.List.{length_push}
use Rattle.qc_base.specs.declared.fact.Fact.{Fact}
use Rattle.qc_base.specs.declared.fact.Fact.TheVariants.{Sent, Played, Failed, Moved, Switched}
use Rattle.qc_base.specs.declared.log_line.Why.{Why}
use Rattle.qc_base.specs.declared.message.Message.{Message}
use Rattle.qc_base.specs.declared.recording.Recording.{Recording}
use Rattle.qc_base.specs.Messages.{after_consumed, after_failed, after_moved, after_sent, message_of}
use Rattle.qc_catalogue.specs.declared.catalogue.Catalogue.{Catalogue}
use Rattle.qc_machine.specs.Attempts.{greatest}
use Rattle.qc_machine.specs.History.{History, attempt_of, committed_rows, names_exception, outcome_on, rows_after}
use Rattle.qc_play.specs.Play.{Seen}
use Rattle.qc_rows.specs.Outside.{outside_by}
use Rattle.qc_rows.specs.Settling.{settled_by}
use Rattle.qc_rows.specs.Tables.{TableRows}
use Rattle.qc_store.specs.Due.{is_queued}
use Rattle.qc_store.specs.Live.{is_waiting}
use Rattle.qc_txn.specs.Attempt.{AttemptView}
use Rattle.qc_txn.specs.Outcome.{Outcome, ended}
use Rattle.qc_history.specs.Adding.{AddsFact, Always, SetsAside}
use Rattle.qc_history.specs.Playing.{HasOutcome, fact_ended}
use Rattle.qc_history.specs.Stands.{IsHistoryOf, attempts_in}
use Rattle.qc_history.specs.Switches.{is_among, switched}
use Rattle.qc_history.specs.View.{HistoryView}
use Rattle.qc_history.proofs.Numbers.{greatest-push, numbers-push, numbers-same}
use Rattle.qc_history.proofs.Switched.{off-same, off-switched}

-- where memory was taken

pub aside-none : (view : HistoryView) → SetsAside view view
aside-none view = record { kept = refl; places = λ rows r. r }

pub aside-is : (old new : HistoryView) (h : History) → SetsAside old new → IsHistoryOf old h → IsHistoryOf new h
aside-is old new h aside is = record {
  catalogue = ap (λ (v : HistoryView). v.catalogue) aside.kept ∙ is.catalogue;
  messages = ap (λ (v : HistoryView). v.store.messages) aside.kept ∙ is.messages;
  tables = ap (λ (v : HistoryView). v.tables.tables) aside.kept ∙ is.tables;
  outside = ap (λ (v : HistoryView). v.outside) aside.kept ∙ is.outside;
  counted = ap (λ (v : HistoryView). v.facts) aside.kept ∙ is.counted;
  last = ap (λ (v : HistoryView). v.last) aside.kept ∙ is.last;
  off = λ name. ap (λ (v : HistoryView). is_among name v.off.names) aside.kept ∙ is.off name;
  attempt = ap (λ (v : HistoryView). v.attempt) aside.kept ∙ is.attempt;
}

-- A fact of a moment was settled: there is one more, and it is the last.
pub record Counts (at : ℕ) (old new : HistoryView) : Type 0 where
  pub counted : old.facts < 18446744073709551615 → new.facts ≡ old.facts + 1
  pub last : new.last ≡ at
  pub catalogue : new.catalogue ≡ old.catalogue
  pub places : new.tables.places ≡ old.tables.places

-- No amount was changed.
pub record KeepsAmounts (old new : HistoryView) : Type 0 where
  pub tables : new.tables.tables ≡ old.tables.tables
  pub outside : new.outside ≡ old.outside

module _ (old new : HistoryView) (at : ℕ) (counts : Counts at old new) where
  counted-push : (h : History) (fact : Fact) → IsHistoryOf old h → length h.facts < 18446744073709551615 → new.facts ≡ length (h.facts ++ fact ∷ [])
  counted-push h fact is few = counts.counted (omega (arith, is.counted, few)) ∙ ap (λ n. n + 1) is.counted ∙ sym (length_push h.facts fact)

  -- a message that is sent
  pub adds-sent : (r : Recording) → new.store.messages ≡ after_sent (length old.store.messages + 1) r (names_exception old.catalogue r) at old.store.messages
      → KeepsAmounts old new → new.off.names ≡ old.off.names → new.attempt ≡ old.attempt → AddsFact (Sent (length old.store.messages + 1) at r) Always old new
  adds-sent r messages amounts off attempt =
      let id = length old.store.messages + 1 in
      record {
        settles = λ h is given few. record {
          catalogue = counts.catalogue ∙ is.catalogue;
          messages = messages
              ∙ ap (λ (l : List Message). after_sent id r (names_exception old.catalogue r) at l) is.messages
              ∙ ap (λ (c : Catalogue). after_sent id r (names_exception c r) at h.messages) is.catalogue;
          tables = amounts.tables ∙ is.tables;
          outside = amounts.outside ∙ is.outside;
          counted = counted-push h (Sent id at r) is few;
          last = counts.last;
          off = off-same h (Sent id at r) new.off.names (λ name. refl) (λ name. ap (is_among name) off ∙ is.off name);
          attempt = attempt ∙ is.attempt ∙ ap greatest (sym (numbers-same h (Sent id at r) refl));
        };
        counted = counts.counted;
        catalogue = counts.catalogue;
        places = counts.places;
      }

  -- a switch
  pub adds-switched : (app : List ℕ) (on : Bool) → new.store.messages ≡ old.store.messages → KeepsAmounts old new → new.off.names ≡ switched app on old.off.names → new.attempt ≡ old.attempt
      → AddsFact (Switched app on at) Always old new
  adds-switched app on messages amounts off attempt = record {
    settles = λ h is given few. record {
      catalogue = counts.catalogue ∙ is.catalogue;
      messages = messages ∙ is.messages;
      tables = amounts.tables ∙ is.tables;
      outside = amounts.outside ∙ is.outside;
      counted = counted-push h (Switched app on at) is few;
      last = counts.last;
      off = λ name. ap (is_among name) off ∙ off-switched h app on at old.off.names is.off name;
      attempt = attempt ∙ is.attempt ∙ ap greatest (sym (numbers-same h (Switched app on at) refl));
    };
    counted = counts.counted;
    catalogue = counts.catalogue;
    places = counts.places;
  }

  -- a batch of messages that is moved
  pub adds-moved : (app : List ℕ) (queue : ℕ) (ids : List ℕ) → new.store.messages ≡ after_moved ids queue at old.store.messages → KeepsAmounts old new → new.off.names ≡ old.off.names → new.attempt ≡ old.attempt
      → AddsFact (Moved app queue at ids) Always old new
  adds-moved app queue ids messages amounts off attempt =
      let fact : Fact = Moved app queue at ids in
      record {
        settles = λ h is given few. record {
          catalogue = counts.catalogue ∙ is.catalogue;
          messages = messages ∙ ap (after_moved ids queue at) is.messages;
          tables = amounts.tables ∙ is.tables;
          outside = amounts.outside ∙ is.outside;
          counted = counted-push h fact is few;
          last = counts.last;
          off = off-same h fact new.off.names (λ name. refl) (λ name. ap (is_among name) off ∙ is.off name);
          attempt = attempt ∙ is.attempt ∙ ap greatest (sym (numbers-same h fact refl));
        };
        counted = counts.counted;
        catalogue = counts.catalogue;
        places = counts.places;
      }

  -- the end of an attempt

  number-push : (h : History) (fact : Fact) (number : ℕ) → IsHistoryOf old h → attempt_of fact ≡ Some number → new.attempt ≡ max old.attempt number → new.attempt ≡ greatest (filter_map attempt_of (h.facts ++ fact ∷ []))
  number-push h fact number is e attempt =
      attempt ∙ ap (λ n. max n number) is.attempt ∙ sym (greatest-push (attempts_in h) number) ∙ ap greatest (sym (numbers-push h fact number e))

  abbrev fact_by : AttemptView → Option Why → Fact
  fact_by a o = elim o [ Some why ↦ Failed a.id a.number at | None ↦ Played a.id a.number a.kind at ]

  module _ (a : AttemptView) (off : new.off.names ≡ old.off.names) (attempt : new.attempt ≡ max old.attempt a.number) where
    pub adds-failed : (why : Why) → a.why ≡ Some why → new.store.messages ≡ after_failed a.id at old.store.messages → KeepsAmounts old new → AddsFact (fact_ended at a) (HasOutcome a) old new
    adds-failed why e messages amounts =
        let fact : Fact = Failed a.id a.number at in
        subst (λ (f : Fact). AddsFact f (HasOutcome a) old new) (sym (ap (fact_by a) e))
        (record {
          settles = λ h is given few. record {
            catalogue = counts.catalogue ∙ is.catalogue;
            messages = messages ∙ ap (after_failed a.id at) is.messages;
            tables = amounts.tables ∙ is.tables;
            outside = amounts.outside ∙ is.outside;
            counted = counted-push h fact is few;
            last = counts.last;
            off = off-same h fact new.off.names (λ name. refl) (λ name. ap (is_among name) off ∙ is.off name);
            attempt = number-push h fact a.number is refl attempt;
          };
          counted = counts.counted;
          catalogue = counts.catalogue;
          places = counts.places;
        })

    pub adds-failing : is_some a.why ≡ true → new.store.messages ≡ after_failed a.id at old.store.messages → KeepsAmounts old new → AddsFact (fact_ended at a) (HasOutcome a) old new
    adds-failing some messages amounts = by a.why refl some
      where
        by : (o : Option Why) → a.why ≡ o → is_some o ≡ true → AddsFact (fact_ended at a) (HasOutcome a) old new
        by (Some why) e t = adds-failed why e messages amounts
        by None e t = absurd (false≢true t)

    -- the rows that the machine has after the commit
    committed : (settle : List Seen → List TableRows → List TableRows) (rows : List TableRows) (h : History) (m : Message) → message_of a.id h.messages ≡ Some m → a.why ≡ None → HasOutcome a h
        → committed_rows settle h a.kind a.id rows ≡ settle a.play.view rows
    committed settle rows h m found none outcome =
        ap (λ (o : Option Message). option_map_or (λ (m : Message). rows_after settle (outcome_on h a.kind m) rows) o rows) found
        ∙ ap (λ (o : Outcome). rows_after settle o rows) (outcome m found ∙ ap (ended a.play) none)

    -- the rows of its view got their amounts
    pub record SettlesView : Type 0 where
      pub tables : new.tables.tables ≡ settled_by a.play.view old.tables.tables
      pub outside : new.outside ≡ outside_by a.play.view old.outside

    adds-played : (m : Message) → message_of a.id old.store.messages ≡ Some m → a.why ≡ None → new.store.messages ≡ after_consumed a.id a.number old.store.messages → SettlesView → AddsFact (fact_ended at a) (HasOutcome a) old new
    adds-played m found none messages settled =
        let fact : Fact = Played a.id a.number a.kind at in
        let found_in : (h : History) → IsHistoryOf old h → message_of a.id h.messages ≡ Some m = λ h is. ap (message_of a.id) (sym is.messages) ∙ found in
        subst (λ (f : Fact). AddsFact f (HasOutcome a) old new) (sym (ap (fact_by a) none))
        (record {
          settles = λ h is given few. record {
            catalogue = counts.catalogue ∙ is.catalogue;
            messages = messages ∙ ap (after_consumed a.id a.number) is.messages;
            tables = settled.tables ∙ ap (settled_by a.play.view) is.tables ∙ sym (committed settled_by h.tables h m (found_in h is) none given);
            outside = settled.outside ∙ ap (outside_by a.play.view) is.outside ∙ sym (committed outside_by h.outside h m (found_in h is) none given);
            counted = counted-push h fact is few;
            last = counts.last;
            off = off-same h fact new.off.names (λ name. refl) (λ name. ap (is_among name) off ∙ is.off name);
            attempt = number-push h fact a.number is refl attempt;
          };
          counted = counts.counted;
          catalogue = counts.catalogue;
          places = counts.places;
        })

    pub adds-committed : is_waiting a.id old.store.messages ≡ true → a.why ≡ None → new.store.messages ≡ after_consumed a.id a.number old.store.messages → SettlesView → AddsFact (fact_ended at a) (HasOutcome a) old new
    adds-committed waits none messages settled = by (message_of a.id old.store.messages) refl waits
      where
        by : (o : Option Message) → message_of a.id old.store.messages ≡ o → option_map_or (λ (m : Message). is_queued m.place) o false ≡ true → AddsFact (fact_ended at a) (HasOutcome a) old new
        by (Some m) found t = adds-played m found none messages settled
        by None found t = absurd (false≢true t)
