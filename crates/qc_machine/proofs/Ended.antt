-- The end of a held attempt: its fact may follow, and what it leaves of this attempt and of others.
use Rattle.std.proofs.Common.{◌≡◌, ◌∙◌, ℕ, ◌==◌, List, [], ◌∷◌, Bool, true, false, not, cond, ◌||◌, refl, sym, ap, true≢false, Option, Some, None, is_none, eq-eqb, eqb-true, filter_map}
use Rattle.std.specs.List.{list_any, list_all, cons_option}
use Rattle.std.specs.Option.{option_map_or}
use Rattle.std.proofs.lemmas.Bool.{and_from, and_parts, or_parts, or_left, or_right, cond-true, cond-false, not-true, eqb-false, false_from_ne_true}
use Rattle.qc_base.specs.declared.message.Message.{Message}
use Rattle.qc_base.specs.declared.fact.Fact.{Fact}
use Rattle.qc_base.specs.declared.fact.Fact.TheVariants.{Catalogue as InForce, Sent, Played, Failed, Moved, Switched}
use Rattle.qc_base.specs.declared.fact.Kind.{Kind}
use Rattle.qc_base.specs.declared.fact.Kind.TheVariants.{Normal, Final}
use Rattle.qc_base.specs.declared.fact.Place.{Place}
use Rattle.qc_base.specs.declared.fact.Place.TheVariants.{Consumed}
use Rattle.qc_base.specs.declared.log_line.Stage.{Stage}
use Rattle.qc_base.specs.declared.log_line.Stage.TheVariants.{Calls, Ready, Failing, Commit, Abort}
use Rattle.qc_base.specs.declared.log_line.Why.{Why}
use Rattle.qc_base.specs.declared.log_line.Why.TheVariants.{Step as AtStep}
use Rattle.qc_base.specs.declared.recording.Recording.{Recording}
use Rattle.qc_base.specs.declared.recording.Row.{Row}
use Rattle.qc_base.specs.declared.recording.Space.{Space}
use Rattle.qc_base.specs.declared.recording.Space.TheVariants.{Inside, Outside}
use Rattle.qc_base.specs.Messages.{message_of, at_message, next_place}
use Rattle.qc_base.specs.Rows.{row_eq, space_eq}
use Rattle.qc_base.specs.Spelling.{is_fact, is_id, is_attempt, is_moment}
use Rattle.qc_catalogue.specs.declared.catalogue.Catalogue.{Catalogue}
use Rattle.qc_play.specs.Play.{Play, Seen, Ran, ran, failed_at, run_call, rows_in}
use Rattle.qc_play.proofs.Playing.{call_rows}
use Rattle.qc_play.proofs.RowNames.{row-flip}
use Rattle.qc_rows.specs.Outside.{outside_amount, outside_by}
use Rattle.qc_rows.specs.Settling.{is_inside, settled_by, settled_one}
use Rattle.qc_rows.specs.Tables.{TableRows, row_amount}
use Rattle.qc_rows.proofs.Settling.{one-other}
use Rattle.qc_txn.specs.Outcome.{PlayedAll, Outcome, all_played, stopped_at, commits, fails, decision, ended, new_play, not_ready, play_all, view_of, why_by}
use Rattle.qc_txn.specs.Parts.{Part, is_playable, parts_of, rows_of_attempt}
use Rattle.qc_listener.specs.Choice.{is_due, kind_at}
use Rattle.qc_machine.specs.History.{Reader, History, with_fact, settled_amount, outcome_on, rows_after, committed_tables, committed_outside, attempt_of, is_new_attempt, kind_eq, is_commit, bool_eq, may_end, may_end_on, kind_of, is_later, may_follow}
use Rattle.qc_machine.specs.Holding.{has_row, is_about, IsOpen, IsReady, IsFailing, HasFact, IsHeldIn, AreApart}
use Rattle.qc_machine.specs.Playing.{fact_of_end, ended_attempt, why_ended}
use Rattle.qc_machine.specs.State.{HeldAttempt}
use Rattle.qc_machine.proofs.Beside.{IsAside, fact-aside, is_of_attempt, new-push, found-map, about-after}
use Rattle.qc_machine.proofs.Resources.{outside-other}

-- the rows of a view as its calls run

pub rows-of-view : (amount : Row → Option ℕ) (rows : List Row) → rows_in (view_of amount rows) ≡ rows
rows-of-view amount [] = refl
rows-of-view amount (r ∷ rows) = λ i. r ∷ rows-of-view amount rows i

played-on : (parts : List Part) (play next : Play) → play_all parts play ≡ all_played next → rows_in next.view ≡ rows_in play.view
played-on [] play next e = let same : play ≡ next = cc in ap (λ (p : Play). rows_in p.view) (sym same)
played-on (part ∷ parts) play next e = by (run_call part.script part.args play) refl (λ mid f. played-on parts mid next f) e
  where
    by : (r : Ran) → run_call part.script part.args play ≡ r → ((mid : Play) → play_all parts mid ≡ all_played next → rows_in next.view ≡ rows_in mid.view)
        → (elim r [ ran mid ↦ play_all parts mid | failed_at step ↦ stopped_at part.number step ]) ≡ all_played next → rows_in next.view ≡ rows_in play.view
    by (ran mid) runs on e = on mid e ∙ call_rows part.script part.args play mid runs
    by (failed_at step) runs on e = cc

-- amounts change on the rows of a settled view alone

others-stay : (view : List Seen) (tables : List TableRows) (r : Row) → is_inside r ≡ true → has_row (rows_in view) r ≡ false → row_amount (settled_by view tables) r ≡ row_amount tables r
others-stay [] tables r inside other = refl
others-stay (s ∷ view) tables r inside other =
    let parts = or_parts (row_eq r s.0) _ other in
    others-stay view (settled_one s tables) r inside parts.1 ∙ one-other s r tables inside (row-flip r s.0 false parts.0)

pub settled-other : (view : List Seen) (tables outside : List TableRows) (r : Row) → has_row (rows_in view) r ≡ false
    → settled_amount (settled_by view tables) (outside_by view outside) r ≡ settled_amount tables outside r
settled-other view tables outside r other = by r.space refl
  where
    amount_by : Space → List TableRows → List TableRows → Option ℕ
    amount_by space tables outside = elim space [ Inside ↦ Some (row_amount tables r) | Outside ↦ outside_amount outside r.name r.key ]

    by : (space : Space) → r.space ≡ space → amount_by space (settled_by view tables) (outside_by view outside) ≡ amount_by space tables outside
    by Inside e = ap Some (others-stay view tables r (ap (λ x. space_eq x Inside) e) other)
    by Outside e = outside-other view outside r e other

-- how an attempt ends is what its stage says

abbrev pub why_of : Outcome → Option Why
why_of (fails why) = Some why
why_of (commits play) = None

abbrev pub HasEnded : History → ℕ → HeldAttempt → Message → Stage → Type 0
HasEnded h last a m Ready = IsReady h last a m
HasEnded h last a m Failing = IsFailing h last a m
HasEnded h last a m _ = ⊥

abbrev outcome_by : Catalogue → PlayedAll → Outcome
outcome_by c played = elim played [ all_played play ↦ decision c play | stopped_at call step ↦ fails (AtStep call step) ]

why-ended : (play : Play) (o : Option Why) → why_of (ended play o) ≡ o
why-ended play (Some why) = refl
why-ended play None = refl

abbrev why_from : Catalogue → HeldAttempt → Option Why → Option Why
why_from c a o = elim o [ Some why ↦ Some why | None ↦ why_by a.play.forced (not_ready c a.play.records) ]

pub why-is : (h : History) (last : ℕ) (a : HeldAttempt) (m : Message) (stage : Stage) → a.recording ≡ m.recording → HasEnded h last a m stage → why_ended h.catalogue a ≡ why_of (outcome_on h a.kind m)
why-is h last a m Calls same e = absurd e
why-is h last a m Commit same e = absurd e
why-is h last a m Abort same e = absurd e
why-is h last a m Ready same r =
    ap (why_from h.catalogue a) r.why ∙ sym (why-ended a.play (why_by a.play.forced (not_ready h.catalogue a.play.records)))
    ∙ sym (ap (λ p. why_of (outcome_by h.catalogue p)) r.played) ∙ ap (λ (x : Recording). why_of (outcome_on h a.kind (record m { recording = x }))) same
why-is h last a m Failing same f =
    ap (why_from h.catalogue a) f.why
    ∙ sym (ap (λ p. why_of (outcome_by h.catalogue p)) f.played) ∙ ap (λ (x : Recording). why_of (outcome_on h a.kind (record m { recording = x }))) same

pub ends-open : (h : History) (last : ℕ) (a : HeldAttempt) (m : Message) (stage : Stage) → HasEnded h last a m stage → IsOpen h last a m
ends-open h last a m Ready r = r.is_open
ends-open h last a m Failing f = f.is_open
ends-open h last a m Calls e = absurd e
ends-open h last a m Commit e = absurd e
ends-open h last a m Abort e = absurd e

-- the fact of the end may follow

is-none-commit : (x : Outcome) (why : Option Why) → why ≡ why_of x → bool_eq (is_none why) (is_commit x) ≡ true
is-none-commit (commits play) why e = ap (λ o. bool_eq (is_none o) true) e
is-none-commit (fails w) why e = ap (λ o. bool_eq (is_none o) false) e

kind-itself : (k : Kind) → kind_eq k k ≡ true
kind-itself Normal = refl
kind-itself Final = refl

pub end-follows : (read : Reader) (h : History) (last : ℕ) (a : HeldAttempt) → is_id a.id ≡ true → is_moment last ≡ true → is_later last h ≡ true
    → (is : IsHeldIn h last a) → HasEnded h last a is.message a.stage → may_follow read h (fact_of_end last a (why_ended h.catalogue a)) ≡ true
end-follows read h last a id moment later is over = by (why_ended h.catalogue a) (why-is h last a is.message a.stage is.recording over)
  where
    m : Message
    m = is.message

    o : IsOpen h last a is.message
    o = ends-open h last a is.message a.stage over

    plays : (kind : Kind) → a.kind ≡ kind → is_playable h.catalogue is.message.recording kind ≡ true
    plays kind e =
        (λ i. is_playable h.catalogue (sym is.recording i) (sym e i)) ∙ (and_parts (is_playable h.catalogue a.recording a.kind) _ is.inside).0

    ends : (kind : Kind) (committed : Bool) → a.kind ≡ kind → bool_eq committed (is_commit (outcome_on h kind is.message)) ≡ true → may_end h a.id a.attempt last kind committed ≡ true
    ends kind committed e out =
        ap (λ x. option_map_or (may_end_on h a.attempt last kind committed) x false) is.found
        ∙ and_from (is_due last is.message.place) _ o.due (and_from (is_new_attempt a.attempt h) _ o.new
        (and_from (kind_eq kind (kind_at is.message.place)) _ (ap (λ k. kind_eq k (kind_at is.message.place)) (sym e ∙ o.kind) ∙ kind-itself (kind_at is.message.place))
        (and_from (is_playable h.catalogue is.message.recording kind) _ (plays kind e) out)))

    kind-found : kind_of a.id h ≡ a.kind
    kind-found = ap (λ x. option_map_or (λ (m : Message). kind_at m.place) x Normal) is.found ∙ sym o.kind

    by : (why : Option Why) → why ≡ why_of (outcome_on h a.kind is.message) → may_follow read h (fact_of_end last a why) ≡ true
    by (Some why) e =
        and_from (is_fact (Failed a.id a.attempt last)) _ (and_from (is_id a.id) _ id (and_from (is_attempt a.attempt) _ is.attempt moment))
        (and_from (is_later last h) _ later
        (ends (kind_of a.id h) false (sym kind-found) (ap (λ k. bool_eq false (is_commit (outcome_on h k is.message))) kind-found ∙ is-none-commit (outcome_on h a.kind is.message) (Some why) e)))
    by None e =
        and_from (is_fact (Played a.id a.attempt a.kind last)) _ (and_from (is_id a.id) _ id (and_from (is_attempt a.attempt) _ is.attempt moment))
        (and_from (is_later last h) _ later (ends a.kind true refl (is-none-commit (outcome_on h a.kind is.message) None e)))

-- an attempt that no fact is of

new-about : (attempt id : ℕ) (facts : List Fact) → list_any (λ n. n == attempt) (filter_map attempt_of facts) ≡ false → list_all (is_about attempt id) facts ≡ true
new-about attempt id [] e = refl
new-about attempt id (f ∷ facts) e = by f e (new-about attempt id facts)
  where
    by : (f : Fact) → list_any (λ n. n == attempt) (cons_option (attempt_of f) (filter_map attempt_of facts)) ≡ false
        → (list_any (λ n. n == attempt) (filter_map attempt_of facts) ≡ false → list_all (is_about attempt id) facts ≡ true)
        → list_all (is_about attempt id) (f ∷ facts) ≡ true
    by (InForce text) e on = on e
    by (Sent i at r) e on = on e
    by (Moved app queue at ids) e on = on e
    by (Switched app o at) e on = on e
    by (Played i n kind at) e on =
        let parts = or_parts (n == attempt) _ e in
        and_from (not (n == attempt) || (i == id)) _ (or_left _ _ (ap not parts.0)) (on parts.1)
    by (Failed i n at) e on =
        let parts = or_parts (n == attempt) _ e in
        and_from (not (n == attempt) || (i == id)) _ (or_left _ _ (ap not parts.0)) (on parts.1)

-- messages behind the change of one

found-changed : (id : ℕ) (to : Message → Place) (ms : List Message) (m : Message) → message_of id ms ≡ Some m → message_of id (at_message id to ms) ≡ Some (record m { place = to m })
found-changed id to [] m e = cc
found-changed id to (x ∷ ms) m e = by (x.id == id) refl (found-changed id to ms m) e
  where
    by : (b : Bool) → (x.id == id) ≡ b → (message_of id ms ≡ Some m → message_of id (at_message id to ms) ≡ Some (record m { place = to m })) → cond b (Some x) (message_of id ms) ≡ Some m
        → cond ((cond b (record x { place = to x }) x).id == id) (Some (cond b (record x { place = to x }) x)) (message_of id (at_message id to ms)) ≡ Some (record m { place = to m })
    by true t on e =
        let same : x ≡ m = cc in
        cond-true (x.id == id) (Some (record x { place = to x })) (message_of id (at_message id to ms)) t ∙ ap (λ (y : Message). Some (record y { place = to y })) same
    by false t on e = cond-false (x.id == id) (Some x) (message_of id (at_message id to ms)) t ∙ on e

other-unchanged : (id other : ℕ) (to : Message → Place) (ms : List Message) → (id == other) ≡ false → message_of other (at_message id to ms) ≡ message_of other ms
other-unchanged id other to ms e = found-map other (λ x. cond (x.id == id) (record x { place = to x }) x) ms (λ x. same x (x.id == id)) (λ x t. stays x t (x.id == id) refl)
  where
    same : (x : Message) (b : Bool) → (cond b (record x { place = to x }) x).id ≡ x.id
    same x true = refl
    same x false = refl

    stays : (x : Message) → (x.id == other) ≡ true → (b : Bool) → (x.id == id) ≡ b → cond b (record x { place = to x }) x ≡ x
    stays x t false f = refl
    stays x t true f =
        let one : x.id ≡ id = eqb-true _ _ f in
        let two : x.id ≡ other = eqb-true _ _ t in
        absurd (eqb-false id other e (sym one ∙ two))

-- what the end leaves of the attempt

of-end : (why : Option Why) (last attempt : ℕ) (a : HeldAttempt) → is_of_attempt attempt (fact_of_end last a why) ≡ (a.attempt == attempt)
of-end (Some why) last attempt a = refl
of-end None last attempt a = refl

about-end : (why : Option Why) (last : ℕ) (a : HeldAttempt) → is_about a.attempt a.id (fact_of_end last a why) ≡ true
about-end (Some why) last a = or_right (not (a.attempt == a.attempt)) _ (eq-eqb a.id a.id refl)
about-end None last a = or_right (not (a.attempt == a.attempt)) _ (eq-eqb a.id a.id refl)

catalogue-end : (why : Option Why) (last : ℕ) (a : HeldAttempt) (h : History) → (with_fact (fact_of_end last a why) h).catalogue ≡ h.catalogue
catalogue-end (Some why) last a h = refl
catalogue-end None last a h = refl

has-fact : (why : Option Why) (h : History) (last : ℕ) (a : HeldAttempt) (m : Message) → IsOpen h last a m → HasFact (with_fact (fact_of_end last a why) h) (ended_attempt why a)
has-fact why h last a m o = record {
  about = about-after a.attempt a.id h (fact_of_end last a why) (about-end why last a) (new-about a.attempt a.id h.facts (not-true _ o.new));
  there = new-push a.attempt h (fact_of_end last a why)
      ∙ ap (λ b. not (list_any (λ n. n == a.attempt) (filter_map attempt_of h.facts) || b)) (of-end why last a.attempt a ∙ eq-eqb a.attempt a.attempt refl)
      ∙ ap not (or_right (list_any (λ n. n == a.attempt) (filter_map attempt_of h.facts)) true refl);
}

pub ended-held : (h : History) (last : ℕ) (a : HeldAttempt) (why : Option Why) (is : IsHeldIn h last a) → IsOpen h last a is.message → IsHeldIn (with_fact (fact_of_end last a why) h) last (ended_attempt why a)
ended-held h last a (Some why) is o = record {
  message = record is.message { place = next_place is.message.place is.message.final_class last };
  found = found-changed a.id (λ m. next_place m.place m.final_class last) h.messages is.message is.found;
  recording = is.recording;
  rows = is.rows;
  inside = is.inside;
  records = is.records;
  attempt = is.attempt;
  come = has-fact (Some why) h last a is.message o;
}
ended-held h last a None is o = record {
  message = record is.message { place = Consumed a.attempt };
  found = found-changed a.id (λ m. Consumed a.attempt) h.messages is.message is.found;
  recording = is.recording;
  rows = is.rows;
  inside = is.inside;
  records = is.records;
  attempt = is.attempt;
  come = has-fact None h last a is.message o;
}

-- and of others

committed-other : (h : History) (kind : Kind) (id : ℕ) (m : Message) (r : Row) → message_of id h.messages ≡ Some m → has_row (rows_of_attempt h.catalogue m.recording kind) r ≡ false
    → settled_amount (committed_tables h kind id) (committed_outside h kind id) r ≡ settled_amount h.tables h.outside r
committed-other h kind id m r found other = ap by_message found ∙ played (play_all (parts_of h.catalogue m.recording kind) first) refl
  where
    mine : List Row
    mine = rows_of_attempt h.catalogue m.recording kind

    first : Play
    first = new_play (view_of (settled_amount h.tables h.outside) mine)

    after : Outcome → Option ℕ
    after o = settled_amount (rows_after settled_by o h.tables) (rows_after outside_by o h.outside) r

    by_message : Option Message → Option ℕ
    by_message o = settled_amount
        (option_map_or (λ (m : Message). rows_after settled_by (outcome_on h kind m) h.tables) o h.tables)
        (option_map_or (λ (m : Message). rows_after outside_by (outcome_on h kind m) h.outside) o h.outside) r

    decided : (play : Play) (o : Option Why) → rows_in play.view ≡ mine → after (ended play o) ≡ settled_amount h.tables h.outside r
    decided play (Some why) rows = refl
    decided play None rows = settled-other play.view h.tables h.outside r (ap (λ l. has_row l r) rows ∙ other)

    played : (p : PlayedAll) → play_all (parts_of h.catalogue m.recording kind) first ≡ p → after (outcome_by h.catalogue p) ≡ settled_amount h.tables h.outside r
    played (all_played play) e =
        let same = played-on (parts_of h.catalogue m.recording kind) first play e in
        decided play (why_by play.forced (not_ready h.catalogue play.records)) (same ∙ rows-of-view (settled_amount h.tables h.outside) mine)
    played (stopped_at call step) e = refl

-- another attempt is beside the end
pub end-aside : (h : History) (last : ℕ) (a c : HeldAttempt) (why : Option Why) (is : IsHeldIn h last a) → IsHeldIn h last c → AreApart a c → IsAside h (with_fact (fact_of_end last a why) h) c
end-aside h last a c (Some why) is other apart =
    fact-aside h (Failed a.id a.attempt last) c apart.attempts refl (λ m e. other-unchanged a.id c.id (λ m. next_place m.place m.final_class last) h.messages apart.ids ∙ e) (λ r t. refl)
end-aside h last a c None is other apart =
    fact-aside h (Played a.id a.attempt a.kind last) c apart.attempts refl (λ m e. other-unchanged a.id c.id (λ m. Consumed a.attempt) h.messages apart.ids ∙ e)
    (λ r t.
    let there : has_row (rows_in c.play.view) r ≡ true = ap (λ rows. has_row rows r) other.rows ∙ t in
    let not_a : has_row (rows_in a.play.view) r ≡ false = false_from_ne_true (has_row (rows_in a.play.view) r) (λ u. true≢false (sym there ∙ apart.rows r u)) in
    committed-other h a.kind a.id is.message r is.found
    (ap (λ (x : Recording). has_row (rows_of_attempt h.catalogue x a.kind) r) (sym is.recording) ∙ ap (λ rows. has_row rows r) (sym is.rows) ∙ not_a))
