-- Which facts may follow, by what is kept of a history, and what is kept behind them.
use Rattle.std.proofs.Common.{◌≡◌, ◌∙◌, ◌≢◌, ℕ, ◌+◌, ◌<◌, leb, eqb, ◌==◌, List, [], ◌∷◌, ◌++◌, Bool, true, false, ◌&&◌, not, length, map, refl, sym, ap, subst, arith, Option, Some, None, is_some, unwrap_or, ne_eqb, eqb-true, if◌then◌else◌, Ok, Err}
use Rattle.std.specs.List.{list_all, list_any}
use Rattle.std.specs.Option.{option_map_or}
use Rattle.std.specs.Prelude.{is_none, option_and_then}
use Rattle.std.proofs.lemmas.Bool.{and_parts, and_from, false≢true}
use Rattle.std.proofs.lemmas.List.{length_push}
use Rattle.std.proofs.lemmas.Option.{none-some, same_Some}
use Rattle.qc_base.specs.declared.fact.Fact.{Fact}
use Rattle.qc_base.specs.declared.fact.Fact.TheVariants.{Catalogue as InForce, Sent, Played, Failed, Moved, Switched}
use Rattle.qc_base.specs.declared.fact.Kind.{Kind}
use Rattle.qc_base.specs.declared.fact.Kind.TheVariants.{Normal, Final}
use Rattle.qc_base.specs.declared.fact.Place.{Place}
use Rattle.qc_base.specs.declared.fact.Place.TheVariants.{Queue, Dead, Consumed}
use Rattle.qc_base.specs.declared.log_line.Why.{Why}
use Rattle.qc_base.specs.declared.message.Message.{Message}
use Rattle.qc_base.specs.declared.recording.Recording.{Recording}
use Rattle.qc_base.specs.Messages.{message_of}
use Rattle.qc_catalogue.specs.declared.catalogue.Catalogue.{Catalogue}
use Rattle.qc_catalogue.specs.declared.error.CatalogueError.{CatalogueError}
use Rattle.qc_catalogue.specs.Catalogue.{catalogue_of}
use Rattle.qc_catalogue.specs.Lookup.{app_named}
use Rattle.qc_listener.specs.Choice.{is_due, kind_at}
use Rattle.qc_machine.specs.Attempts.{greatest}
use Rattle.qc_machine.specs.History.{History, after_fact, are_distinct, attempt_of, bool_eq, by_text, goes_on, if_ok, is_commit, is_later, is_movable, is_new_attempt, kind_eq, kind_of, may_end_on, names_exception, no_catalogue, outcome_on, with_fact}
use Rattle.qc_recorder.specs.Fits.{recording_fits}
use Rattle.qc_rows.specs.Outside.{opened_resources}
use Rattle.qc_rows.specs.Places.{TablesView}
use Rattle.qc_rows.specs.Tables.{TableRows, opened_tables}
use Rattle.qc_store.specs.Due.{is_queued}
use Rattle.qc_store.specs.Live.{is_waiting}
use Rattle.qc_txn.specs.Attempt.{AttemptView}
use Rattle.qc_txn.specs.Outcome.{ended}
use Rattle.qc_txn.specs.Parts.{is_playable}
use Rattle.qc_history.specs.Adding.{AddsFact, Always, SetsAside}
use Rattle.qc_history.specs.Playing.{HasOutcome, IsPlayedAgain, fact_ended, fact_read, fits_kind, kind_of_attempt, kind_on}
use Rattle.qc_history.specs.Stands.{IsHistoryOf, attempts_in}
use Rattle.qc_history.specs.Taking.{IsReadAs, Refuses, Starves, Takes}
use Rattle.qc_history.specs.View.{HistoryView}
use Rattle.qc_history.proofs.Numbers.{numbers-push, numbers-same}
use Rattle.qc_history.proofs.Settled.{aside-is, aside-none}
use Rattle.qc_history.proofs.Switched.{off-same}

pub and-false : (a b : Bool) → b ≡ false → (a && b) ≡ false
and-false true b e = e
and-false false b e = refl

pub false-and : (a b : Bool) → a ≡ false → (a && b) ≡ false
false-and true b e = absurd (false≢true (sym e))
false-and false b e = refl

-- as the service reads a text

pub text-some : (text : List ℕ) (c : Catalogue) → catalogue_of text ≡ Ok c → by_text text ≡ Some c
unfolding by_text
text-some text c e = ap if_ok e

pub text-none : (text : List ℕ) (why : CatalogueError) → catalogue_of text ≡ Err why → by_text text ≡ None
unfolding by_text
text-none text why e = ap if_ok e

-- the kind of an attempt on the message of an id, and that message
pub record KindFound (c : Catalogue) (of : ℕ) (ms : List Message) (k : Kind) : Type 0 where
  pub message : Message
  pub found : message_of of ms ≡ Some message
  pub queued : is_queued message.place ≡ true
  pub kind : k ≡ kind_at message.place
  pub plays : is_playable c message.recording k ≡ true

pub kind-found : (c : Catalogue) (of : ℕ) (ms : List Message) (k : Kind) → kind_of_attempt c of ms ≡ Some k → KindFound c of ms k
kind-found c of ms k e = by (message_of of ms) refl e
  where
    test : (m : Message) → message_of of ms ≡ Some m → (b : Bool) → (is_queued m.place && is_playable c m.recording (kind_at m.place)) ≡ b → (if b then Some (kind_at m.place) else None) ≡ Some k → KindFound c of ms k
    test m found true t e =
        let parts = and_parts (is_queued m.place) (is_playable c m.recording (kind_at m.place)) t in
        let same : kind_at m.place ≡ k = same_Some (kind_at m.place) k e in
        record { message = m; found = found; queued = parts.0; kind = sym same; plays = subst (λ (x : Kind). is_playable c m.recording x ≡ true) same parts.1 }
    test m found false t e = absurd (none-some k e)

    by : (o : Option Message) → message_of of ms ≡ o → option_and_then (kind_on c) o ≡ Some k → KindFound c of ms k
    by None found e = absurd (none-some k e)
    by (Some m) found e = test m found (is_queued m.place && is_playable c m.recording (kind_at m.place)) refl e

pub kind-waits : (c : Catalogue) (of : ℕ) (ms : List Message) (k : Kind) → kind_of_attempt c of ms ≡ Some k → is_waiting of ms ≡ true
kind-waits c of ms k e =
    let f = kind-found c of ms k e in
    ap (λ (o : Option Message). option_map_or (λ (m : Message). is_queued m.place) o false) f.found ∙ f.queued

kind-same : (a b : Kind) → kind_eq a b ≡ true → a ≡ b
kind-same Normal Normal e = refl
kind-same Final Final e = refl
kind-same Normal Final e = absurd (false≢true e)
kind-same Final Normal e = absurd (false≢true e)

kind-itself : (a : Kind) → kind_eq a a ≡ true
kind-itself Normal = refl
kind-itself Final = refl

due-queued : (at : ℕ) (place : Place) → is_queued place ≡ false → is_due at place ≡ false
due-queued at (Queue queue tries due) e = absurd (false≢true (sym e))
due-queued at Dead e = refl
due-queued at (Consumed attempt) e = refl

module _ (old : HistoryView) (numbers : List ℕ) where
  abbrev later_at : ℕ → Bool
  later_at at = leb 1 old.facts && leb old.last at

  later-is : (h : History) (at : ℕ) → IsHistoryOf old h → is_later at h ≡ later_at at
  later-is h at is = λ i. leb 1 ((sym is.counted) i) && leb ((sym is.last) i) at

  pub refuses : (fact : Fact) → ((h : History) → IsReadAs old numbers h → goes_on by_text h fact ≡ false) → Refuses fact old numbers old numbers
  refuses fact refused = record { refused = refused; aside = aside-none old; numbers = refl }

  pub starves : (new : HistoryView) → SetsAside old new → Starves old numbers new numbers
  starves new aside = record { aside = aside; numbers = refl }

  -- a fact that adds to what is kept, once memory was taken for it
  takes-adding : (fact added : Fact) (given : History → Type 0) (mid new : HistoryView) (more : List ℕ) → SetsAside old mid → AddsFact added given mid new
      → ((h : History) → IsReadAs old numbers h → given h × (goes_on by_text h fact ≡ true)) → ((h : History) → IsReadAs old numbers h → with_fact added h ≡ after_fact by_text h fact)
      → ((h : History) → numbers ≡ attempts_in h → more ≡ attempts_in (with_fact added h)) → old.facts < 4611686018427387904 → Takes fact old numbers new more
  takes-adding fact added given mid new more aside adds goes same count few =
      let facts : mid.facts ≡ old.facts = ap (λ (v : HistoryView). v.facts) aside.kept in
      record {
        follows = λ h read. (goes h read).1;
        settles = λ h read.
            subst (IsReadAs new more) (same h read)
            (record {
              is = adds.settles h (aside-is old mid h aside read.is) (goes h read).0 (omega (arith, few, read.is.counted));
              numbers = count h read.numbers;
            });
        counted = adds.counted (omega (arith, facts, few)) ∙ ap (λ n. n + 1) facts;
      }

  -- the first fact, a catalogue

  pub first-taken : (text : List ℕ) (c : Catalogue) (tables : TablesView) (outside : List TableRows) → catalogue_of text ≡ Ok c → tables.tables ≡ opened_tables c → outside ≡ opened_resources c → old.facts ≡ 0 → old.store.messages ≡ []
      → Takes (InForce text) old numbers (record old { catalogue = c; tables = tables; outside = outside; facts = 1 }) numbers
  first-taken text c tables outside reads opened resources first none =
      let got : by_text text ≡ Some c = text-some text c reads in
      let in_force : unwrap_or (by_text text) no_catalogue ≡ c = ap (λ (o : Option Catalogue). unwrap_or o no_catalogue) got in
      record {
        follows = λ h read. and_from (eqb (length h.facts) 0) (is_some (by_text text)) (ap (λ n. eqb n 0) (sym read.is.counted ∙ first)) (ap (λ (o : Option Catalogue). is_some o) got);
        settles = λ h read. record {
          is = record {
            catalogue = sym in_force;
            messages = none ∙ sym (ap (map (λ (m : Message). record m { final_class = names_exception (unwrap_or (by_text text) no_catalogue) m.recording })) (sym read.is.messages ∙ none));
            tables = opened ∙ ap opened_tables (sym in_force);
            outside = resources ∙ ap opened_resources (sym in_force);
            counted = omega (arith, first, read.is.counted, length_push h.facts (InForce text));
            last = read.is.last;
            off = off-same h (InForce text) old.off.names (λ name. refl) read.is.off;
            attempt = read.is.attempt ∙ ap greatest (sym (numbers-same h (InForce text) refl));
          };
          numbers = read.numbers ∙ sym (numbers-same h (InForce text) refl);
        };
        counted = omega (arith, first);
      }

  pub second-refused : (text : List ℕ) → old.facts ≢ 0 → Refuses (InForce text) old numbers old numbers
  second-refused text some = refuses (InForce text) (λ h read. false-and (eqb (length h.facts) 0) (is_some (by_text text)) (ap (λ n. eqb n 0) (sym read.is.counted) ∙ ne_eqb old.facts 0 some))

  pub text-refused : (text : List ℕ) (why : CatalogueError) → catalogue_of text ≡ Err why → Refuses (InForce text) old numbers old numbers
  text-refused text why reads = refuses (InForce text) (λ h read. and-false (eqb (length h.facts) 0) (is_some (by_text text)) (ap (λ (o : Option Catalogue). is_some o) (text-none text why reads)))

  -- a message that is sent

  module _ (id at : ℕ) (r : Recording) where
    sent-goes : (h : History) → IsHistoryOf old h → goes_on by_text h (Sent id at r) ≡ (later_at at && (eqb id (length old.store.messages + 1) && recording_fits old.catalogue r))
    sent-goes h is = λ i. (later-is h at is) i && (eqb id (length ((sym is.messages) i) + 1) && recording_fits ((sym is.catalogue) i) r)

    pub early-sent : later_at at ≡ false → Refuses (Sent id at r) old numbers old numbers
    early-sent e = refuses (Sent id at r) (λ h read. sent-goes h read.is ∙ false-and (later_at at) _ e)

    pub other-sent : eqb id (length old.store.messages + 1) ≡ false → Refuses (Sent id at r) old numbers old numbers
    other-sent e = refuses (Sent id at r) (λ h read. sent-goes h read.is ∙ and-false (later_at at) _ (false-and (eqb id (length old.store.messages + 1)) _ e))

    pub unfit-sent : recording_fits old.catalogue r ≡ false → Refuses (Sent id at r) old numbers old numbers
    unfit-sent e = refuses (Sent id at r) (λ h read. sent-goes h read.is ∙ and-false (later_at at) _ (and-false (eqb id (length old.store.messages + 1)) _ e))

    pub sent-taken : (mid new : HistoryView) → SetsAside old mid → AddsFact (Sent (length mid.store.messages + 1) at r) Always mid new
        → later_at at ≡ true → eqb id (length old.store.messages + 1) ≡ true → recording_fits old.catalogue r ≡ true → old.facts < 4611686018427387904 → Takes (Sent id at r) old numbers new numbers
    sent-taken mid new aside adds later next fits few =
        let same : length mid.store.messages + 1 ≡ id = ap (λ (v : HistoryView). length v.store.messages + 1) aside.kept ∙ sym (eqb-true id (length old.store.messages + 1) next) in
        takes-adding (Sent id at r) (Sent (length mid.store.messages + 1) at r) Always mid new numbers aside adds
        (λ h read. (tt, sent-goes h read.is ∙ and_from (later_at at) _ later (and_from (eqb id (length old.store.messages + 1)) _ next fits)))
        (λ h read. ap (λ n. with_fact (Sent n at r) h) same) (λ h is. is ∙ sym (numbers-same h (Sent (length mid.store.messages + 1) at r) refl)) few

  -- a switch

  module _ (app : List ℕ) (on : Bool) (at : ℕ) where
    switched-goes : (h : History) → IsHistoryOf old h → goes_on by_text h (Switched app on at) ≡ (later_at at && is_some (app_named app old.catalogue.apps))
    switched-goes h is = λ i. (later-is h at is) i && is_some (app_named app ((sym is.catalogue) i).apps)

    pub early-switch : later_at at ≡ false → Refuses (Switched app on at) old numbers old numbers
    early-switch e = refuses (Switched app on at) (λ h read. switched-goes h read.is ∙ false-and (later_at at) _ e)

    pub unknown-switch : is_some (app_named app old.catalogue.apps) ≡ false → Refuses (Switched app on at) old numbers old numbers
    unknown-switch e = refuses (Switched app on at) (λ h read. switched-goes h read.is ∙ and-false (later_at at) _ e)

    pub switch-taken : (mid new : HistoryView) → SetsAside old mid → AddsFact (Switched app on at) Always mid new → later_at at ≡ true → is_some (app_named app old.catalogue.apps) ≡ true → old.facts < 4611686018427387904
        → Takes (Switched app on at) old numbers new numbers
    switch-taken mid new aside adds later known few =
        takes-adding (Switched app on at) (Switched app on at) Always mid new numbers aside adds
        (λ h read. (tt, switched-goes h read.is ∙ and_from (later_at at) _ later known)) (λ h read. refl) (λ h is. is ∙ sym (numbers-same h (Switched app on at) refl)) few

  -- a move

  module _ (app : List ℕ) (queue at : ℕ) (ids : List ℕ) where
    abbrev all_movable : Bool
    all_movable = list_all (is_movable app old.store.messages) ids

    moved-goes : (h : History) → IsHistoryOf old h → goes_on by_text h (Moved app queue at ids) ≡ (later_at at && (are_distinct ids && all_movable))
    moved-goes h is = λ i. (later-is h at is) i && (are_distinct ids && list_all (is_movable app ((sym is.messages) i)) ids)

    pub early-moved : later_at at ≡ false → Refuses (Moved app queue at ids) old numbers old numbers
    early-moved e = refuses (Moved app queue at ids) (λ h read. moved-goes h read.is ∙ false-and (later_at at) _ e)

    pub doubly-moved : are_distinct ids ≡ false → Refuses (Moved app queue at ids) old numbers old numbers
    doubly-moved e = refuses (Moved app queue at ids) (λ h read. moved-goes h read.is ∙ and-false (later_at at) _ (false-and (are_distinct ids) _ e))

    pub wrongly-moved : all_movable ≡ false → Refuses (Moved app queue at ids) old numbers old numbers
    wrongly-moved e = refuses (Moved app queue at ids) (λ h read. moved-goes h read.is ∙ and-false (later_at at) _ (and-false (are_distinct ids) _ e))

    pub moved-taken : (new : HistoryView) → AddsFact (Moved app queue at ids) Always old new → later_at at ≡ true → are_distinct ids ≡ true → all_movable ≡ true → old.facts < 4611686018427387904
        → Takes (Moved app queue at ids) old numbers new numbers
    moved-taken new adds later distinct movable few =
        takes-adding (Moved app queue at ids) (Moved app queue at ids) Always old new numbers (aside-none old) adds
        (λ h read. (tt, moved-goes h read.is ∙ and_from (later_at at) _ later (and_from (are_distinct ids) _ distinct movable))) (λ h read. refl) (λ h is. is ∙ sym (numbers-same h (Moved app queue at ids) refl)) few

  -- the end of an attempt, with its kind where it was committed

  module _ (of number at : ℕ) (committed : Option Kind) where
    abbrev fact : Fact
    fact = fact_read of number at committed

    -- the kind that it is said to have been of
    abbrev told : Kind → Kind
    told kind = unwrap_or committed kind

    abbrev tests : History → Message → Bool
    tests h m = may_end_on h number at (told (kind_at m.place)) (is_some committed) m

    end-goes : (h : History) (m : Message) → message_of of h.messages ≡ Some m → goes_on by_text h fact ≡ (is_later at h && tests h m)
    end-goes h m found = by committed
      where
        by : (c : Option Kind) → goes_on by_text h (fact_read of number at c) ≡ (is_later at h && may_end_on h number at (unwrap_or c (kind_at m.place)) (is_some c) m)
        by (Some kind) = ap (λ (o : Option Message). is_later at h && option_map_or (may_end_on h number at kind true) o false) found
        by None =
            ap (λ (o : Option Message). is_later at h && option_map_or (may_end_on h number at (option_map_or (λ (m : Message). kind_at m.place) o Normal) false) o false) found

    end-lost : (h : History) → message_of of h.messages ≡ None → goes_on by_text h fact ≡ false
    end-lost h none = by committed
      where
        by : (c : Option Kind) → goes_on by_text h (fact_read of number at c) ≡ false
        by (Some kind) = ap (λ (o : Option Message). is_later at h && option_map_or (may_end_on h number at kind true) o false) none ∙ and-false (is_later at h) false refl
        by None = ap (λ (o : Option Message). is_later at h && option_map_or (may_end_on h number at (kind_of of h) false) o false) none ∙ and-false (is_later at h) false refl

    -- it is refused whose message would fail a test
    end-refused : ((h : History) (m : Message) → IsReadAs old numbers h → message_of of old.store.messages ≡ Some m → tests h m ≡ false) → Refuses fact old numbers old numbers
    end-refused fails = refuses fact (λ h read. by h read (message_of of h.messages) refl)
      where
        by : (h : History) → IsReadAs old numbers h → (o : Option Message) → message_of of h.messages ≡ o → goes_on by_text h fact ≡ false
        by h read None e = end-lost h e
        by h read (Some m) e = end-goes h m e ∙ and-false (is_later at h) (tests h m) (fails h m read (ap (message_of of) read.is.messages ∙ e))

    pub early-end : later_at at ≡ false → Refuses fact old numbers old numbers
    early-end e = refuses fact (λ h read. by h read (message_of of h.messages) refl)
      where
        by : (h : History) → IsReadAs old numbers h → (o : Option Message) → message_of of h.messages ≡ o → goes_on by_text h fact ≡ false
        by h read None none = end-lost h none
        by h read (Some m) found = end-goes h m found ∙ false-and (is_later at h) (tests h m) (later-is h at read.is ∙ e)

    abbrev due_by : Option Message → Bool
    due_by o = option_map_or (λ (m : Message). is_due at m.place) o false

    pub end-not-due : due_by (message_of of old.store.messages) ≡ false → Refuses fact old numbers old numbers
    end-not-due e = end-refused (λ h m read found. false-and (is_due at m.place) _ (sym (ap due_by found) ∙ e))

    pub end-not-new : list_any (λ n. n == number) numbers ≡ true → Refuses fact old numbers old numbers
    end-not-new e =
        end-refused
        (λ h m read found.
        and-false (is_due at m.place) _ (false-and (is_new_attempt number h) _ (ap not (ap (list_any (λ n. n == number)) (sym read.numbers) ∙ e))))

    -- an attempt of the kind that is told can't be played
    not-played : (m : Message) (kind : Kind) (b : Bool) → is_playable old.catalogue m.recording (kind_at m.place) ≡ false
        → (kind_eq kind (kind_at m.place) && (is_playable old.catalogue m.recording kind && b)) ≡ false
    not-played m kind b none = by (kind_eq kind (kind_at m.place)) refl
      where
        by : (t : Bool) → kind_eq kind (kind_at m.place) ≡ t → (t && (is_playable old.catalogue m.recording kind && b)) ≡ false
        by true e = false-and (is_playable old.catalogue m.recording kind) b (subst (λ (k : Kind). is_playable old.catalogue m.recording k ≡ false) (sym (kind-same kind (kind_at m.place) e)) none)
        by false e = refl

    pub end-not-played : kind_of_attempt old.catalogue of old.store.messages ≡ None → Refuses fact old numbers old numbers
    end-not-played e = end-refused (λ h m read found. by h m read (is_queued m.place) refl (is_playable old.catalogue m.recording (kind_at m.place)) refl (sym (ap (option_and_then (kind_on old.catalogue)) found) ∙ e))
      where
        by : (h : History) (m : Message) → IsReadAs old numbers h → (q : Bool) → is_queued m.place ≡ q → (p : Bool) → is_playable old.catalogue m.recording (kind_at m.place) ≡ p → kind_on old.catalogue m ≡ None → tests h m ≡ false
        by h m read false q p plays none = false-and (is_due at m.place) _ (due-queued at m.place q)
        by h m read true q false plays none =
            and-false (is_due at m.place) _
            (and-false (is_new_attempt number h) _
            (subst (λ (c : Catalogue). (kind_eq (told (kind_at m.place)) (kind_at m.place) && (is_playable c m.recording (told (kind_at m.place)) && bool_eq (is_some committed) (is_commit (outcome_on h (told (kind_at m.place)) m)))) ≡ false) read.is.catalogue
            (not-played m (told (kind_at m.place)) (bool_eq (is_some committed) (is_commit (outcome_on h (told (kind_at m.place)) m))) plays)))
        by h m read true q true plays none =
            absurd (none-some (kind_at m.place) (sym none ∙ ap (λ (b : Bool). if b then Some (kind_at m.place) else None) (and_from (is_queued m.place) (is_playable old.catalogue m.recording (kind_at m.place)) q plays)))

    module _ (kind : Kind) (is_of : kind_of_attempt old.catalogue of old.store.messages ≡ Some kind) where
      abbrev at_kind : KindFound old.catalogue of old.store.messages kind
      at_kind = kind-found old.catalogue of old.store.messages kind is_of

      -- the message that is found is that of the attempt
      same-kind : (m : Message) → message_of of old.store.messages ≡ Some m → kind_at m.place ≡ kind
      same-kind m found = ap (λ (x : Message). kind_at x.place) (same_Some m at_kind.message (sym found ∙ at_kind.found)) ∙ sym at_kind.kind

      pub end-unfit : fits_kind committed kind ≡ false → Refuses fact old numbers old numbers
      end-unfit e =
          end-refused
          (λ h m read found.
          and-false (is_due at m.place) _ (and-false (is_new_attempt number h) _ (false-and (kind_eq (told (kind_at m.place)) (kind_at m.place)) _ (subst (λ (k : Kind). kind_eq (told k) k ≡ false) (sym (same-kind m found)) (by committed e)))))
        where
          by : (c : Option Kind) → fits_kind c kind ≡ false → kind_eq (unwrap_or c kind) kind ≡ false
          by (Some k) e = e
          by None e = absurd (false≢true (sym e))

      told-is : fits_kind committed kind ≡ true → told kind ≡ kind
      told-is e = by committed e
        where
          by : (c : Option Kind) → fits_kind c kind ≡ true → unwrap_or c kind ≡ kind
          by (Some k) e = kind-same k kind e
          by None e = refl

      module _ (a : AttemptView) (again : IsPlayedAgain old of number a) (fits : fits_kind committed kind ≡ true) where
        a-kind : a.kind ≡ kind
        a-kind = same_Some a.kind kind (sym again.kind ∙ is_of)

        told-kind : (m : Message) → message_of of old.store.messages ≡ Some m → told (kind_at m.place) ≡ a.kind
        told-kind m found = ap told (same-kind m found) ∙ told-is fits ∙ sym a-kind

        commit-is : (o : Option Why) → is_commit (ended a.play o) ≡ is_none o
        commit-is (Some why) = refl
        commit-is None = refl

        -- what the replay tells of the machine's outcome
        outcome-is : (h : History) (m : Message) → IsReadAs old numbers h → message_of of old.store.messages ≡ Some m → is_commit (outcome_on h (told (kind_at m.place)) m) ≡ is_none a.why
        outcome-is h m read found =
            ap (λ (k : Kind). is_commit (outcome_on h k m)) (told-kind m found)
            ∙ ap is_commit (again.ends h read.is m (ap (λ n. message_of n h.messages) again.id ∙ ap (message_of of) (sym read.is.messages) ∙ found)) ∙ commit-is a.why

        pub end-otherwise : bool_eq (is_some committed) (is_none a.why) ≡ false → Refuses fact old numbers old numbers
        end-otherwise e =
            end-refused
            (λ h m read found.
            and-false (is_due at m.place) _
            (and-false (is_new_attempt number h) _
            (and-false (kind_eq (told (kind_at m.place)) (kind_at m.place)) _ (and-false (is_playable h.catalogue m.recording (told (kind_at m.place))) _ (ap (bool_eq (is_some committed)) (outcome-is h m read found) ∙ e)))))

        ended-is : (c : Option Kind) → fits_kind c kind ≡ true → (o : Option Why) → a.why ≡ o → bool_eq (is_some c) (is_none o) ≡ true → fact_ended at a ≡ fact_read of number at c
        ended-is (Some k) fits None why e =
            ap (λ (o : Option Why). elim o [ Some why ↦ Failed a.id a.number at | None ↦ Played a.id a.number a.kind at ]) why
            ∙ (λ i. Played (again.id i) (again.number i) ((a-kind ∙ sym (kind-same k kind fits)) i) at)
        ended-is (Some k) fits (Some w) why e = absurd (false≢true e)
        ended-is None fits None why e = absurd (false≢true e)
        ended-is None fits (Some w) why e =
            ap (λ (o : Option Why). elim o [ Some why ↦ Failed a.id a.number at | None ↦ Played a.id a.number a.kind at ]) why ∙ (λ i. Failed (again.id i) (again.number i) at)

        number-of : attempt_of (fact_ended at a) ≡ Some number
        number-of = by a.why ∙ ap (λ n. Some n) again.number
          where
            by : (o : Option Why) → attempt_of (elim o [ Some why ↦ Failed a.id a.number at | None ↦ Played a.id a.number a.kind at ]) ≡ Some a.number
            by (Some why) = refl
            by None = refl

        after-read : (h : History) (c : Option Kind) → with_fact (fact_read of number at c) h ≡ after_fact by_text h (fact_read of number at c)
        after-read h (Some k) = refl
        after-read h None = refl

        with-facts : (h : History) (f : Fact) → attempt_of f ≡ Some number → attempts_in h ++ number ∷ [] ≡ attempts_in (with_fact f h)
        with-facts h (InForce text) e = absurd (none-some number e)
        with-facts h (Sent id at r) e = absurd (none-some number e)
        with-facts h (Played id n kind at) e = sym (numbers-push h (Played id n kind at) number e)
        with-facts h (Failed id n at) e = sym (numbers-push h (Failed id n at) number e)
        with-facts h (Moved app queue at ids) e = absurd (none-some number e)
        with-facts h (Switched app on at) e = absurd (none-some number e)

        pub end-taken : (mid new : HistoryView) → SetsAside old mid → AddsFact (fact_ended at a) (HasOutcome a) mid new → later_at at ≡ true → due_by (message_of of old.store.messages) ≡ true → list_any (λ n. n == number) numbers ≡ false
            → bool_eq (is_some committed) (is_none a.why) ≡ true → old.facts < 4611686018427387904 → Takes fact old numbers new (numbers ++ number ∷ [])
        end-taken mid new aside adds later due fresh same few =
            let is : fact_ended at a ≡ fact = ended-is committed fits a.why refl same in
            takes-adding fact (fact_ended at a) (HasOutcome a) mid new (numbers ++ number ∷ []) aside adds
            (λ h read. (again.ends h read.is, goes h read))
            (λ h read. ap (λ (f : Fact). with_fact f h) is ∙ after-read h committed)
            (λ h count. ap (λ (l : List ℕ). l ++ number ∷ []) count ∙ with-facts h (fact_ended at a) number-of) few
          where
            goes : (h : History) → IsReadAs old numbers h → goes_on by_text h fact ≡ true
            goes h read =
                let m = at_kind.message in
                let found = at_kind.found in
                let in_h : message_of of h.messages ≡ Some m = ap (message_of of) (sym read.is.messages) ∙ found in
                let plays : is_playable h.catalogue m.recording (told (kind_at m.place)) ≡ true =
                subst (λ (k : Kind). is_playable h.catalogue m.recording k ≡ true) (sym (told-kind m found ∙ a-kind)) (subst (λ (c : Catalogue). is_playable c m.recording kind ≡ true) read.is.catalogue at_kind.plays)
                in
                let kinds : kind_eq (told (kind_at m.place)) (kind_at m.place) ≡ true = subst (λ (k : Kind). kind_eq k (kind_at m.place) ≡ true) (sym (told-kind m found ∙ a-kind ∙ at_kind.kind)) (kind-itself (kind_at m.place)) in
                end-goes h m in_h
                ∙ and_from (is_later at h) _ (later-is h at read.is ∙ later)
                (and_from (is_due at m.place) _ (sym (ap due_by found) ∙ due)
                (and_from (is_new_attempt number h) _ (ap not (ap (list_any (λ n. n == number)) (sym read.numbers) ∙ fresh))
                (and_from (kind_eq (told (kind_at m.place)) (kind_at m.place)) _ kinds
                (and_from (is_playable h.catalogue m.recording (told (kind_at m.place))) _ plays (ap (bool_eq (is_some committed)) (outcome-is h m read found) ∙ same)))))
