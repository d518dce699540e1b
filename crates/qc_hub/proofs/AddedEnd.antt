-- A hub with one attempt's end more.
use Rattle.std.proofs.Common.{◌≡◌, ◌∙◌, ℕ, ◌-◌, ◌<◌, ◌≤◌, List, [], ◌∷◌, ◌++◌, true, false, true≢false, length, refl, sym, ap, subst, arith, Option, Some, None, option_map}
use Rattle.std.specs.Option.{option_map_or}
use Rattle.qc_base.specs.declared.fact.Fact.{Fact}
use Rattle.qc_base.specs.declared.fact.Fact.TheVariants.{Played as FactPlayed, Failed as FactFailed}
use Rattle.qc_base.specs.declared.fact.Place.{Place}
use Rattle.qc_base.specs.declared.fact.Place.TheVariants.{Queue, Dead, Consumed}
use Rattle.qc_base.specs.declared.log_line.Stage.{Stage}
use Rattle.qc_base.specs.declared.log_line.Stage.TheVariants.{Calls, Ready, Failing, Commit, Abort}
use Rattle.qc_base.specs.declared.log_line.Why.{Why}
use Rattle.qc_base.specs.declared.log_line.Why.TheVariants.{Step as AtStep}
use Rattle.qc_base.specs.declared.message.Message.{Message}
use Rattle.qc_base.specs.declared.recording.Recording.{Recording}
use Rattle.qc_base.specs.Messages.{message_of}
use Rattle.qc_base.specs.Spelling.{is_fact, spelled_fact, eight_bytes}
use Rattle.qc_catalogue.specs.declared.catalogue.Catalogue.{Catalogue}
use Rattle.qc_journal.specs.Journal.{CanAppend, JournalView, appended}
use Rattle.qc_history.specs.Adding.{AddsFact}
use Rattle.qc_history.specs.Playing.{HasOutcome, fact_ended}
use Rattle.qc_history.specs.Stands.{IsHistoryOf}
use Rattle.qc_history.specs.View.{HistoryView}
use Rattle.qc_listener.specs.Choice.{is_due}
use Rattle.qc_machine.specs.Attempts.{has_no_fact}
use Rattle.qc_machine.specs.History.{History, all_follow, by_text, is_legal, no_facts, outcome_on, with_fact}
use Rattle.qc_machine.specs.Holding.{AreApart, Holds, IsHeldIn}
use Rattle.qc_machine.specs.Laws.{IsSettled}
use Rattle.qc_machine.specs.Playing.{end_in, end_reply, ended_attempt, fact_of_end, on_held, why_ended}
use Rattle.qc_machine.specs.Slots.{can_end, is_slot}
use Rattle.qc_machine.specs.State.{State, HeldAttempt, in_slot, set_slot}
use Rattle.qc_machine.specs.Steps.{Step}
use Rattle.qc_machine.proofs.Bools.{and-left, and-right}
use Rattle.qc_machine.proofs.Ended.{HasEnded, ends-open}
use Rattle.qc_machine.proofs.Histories.{follow-push, legal-all}
use Rattle.qc_machine.proofs.Settled.{end-settled, ended-is, held-in}
use Rattle.qc_players.specs.Players.{ArePlayedBy, held_of, players_of}
use Rattle.qc_players.proofs.Slots.{slot-held}
use Rattle.qc_protocol.specs.declared.reply.Reply.{Reply}
use Rattle.qc_rows.specs.Places.{are_reserved, rows_seen}
use Rattle.qc_store.specs.Due.{is_queued}
use Rattle.qc_store.specs.Live.{is_waiting}
use Rattle.qc_txn.specs.Attempt.{AttemptView, stage_by}
use Rattle.qc_txn.specs.Outcome.{Outcome, PlayedAll, all_played, decision, ended, fails, not_ready, stopped_at, why_by}
use Rattle.qc_hub.specs.declared.hub.Hub.{Hub}
use Rattle.qc_hub.specs.Stands.{HavePlaces, IsHubOf}
use Rattle.qc_hub.proofs.Added.{IsGrown, fact-in, fit-grown}
use Rattle.qc_hub.proofs.Slots.{places-set, slot-set}

-- the spelling of an end's fact is short
pub end-size : (at : ℕ) (a : HeldAttempt) (why : Option Why) → length (spelled_fact (fact_of_end at a why)) ≤ 26
unfolding eight_bytes
end-size at a (Some why) = omega arith
end-size at a None = omega arith

-- the fact of an end, as the history's call and the machine have it

pub fact-is : (at : ℕ) (a : AttemptView) → fact_ended at a ≡ fact_of_end at (held_of a) a.why
fact-is at a = by a.why
  where
    by : (why : Option Why) → (elim why [ Some w ↦ FactFailed a.id a.number at | None ↦ FactPlayed a.id a.number a.kind at ]) ≡ fact_of_end at (held_of a) why
    by (Some why) = refl
    by None = refl

fact-decided : (at : ℕ) (a : HeldAttempt) (why : Option Why) → fact_of_end at (ended_attempt why a) why ≡ fact_of_end at a why
fact-decided at a (Some why) = refl
fact-decided at a None = refl

-- an attempt has the outcome that its stage says

abbrev outcome_by : Catalogue → PlayedAll → Outcome
outcome_by c played = elim played [ all_played play ↦ decision c play | stopped_at call step ↦ fails (AtStep call step) ]

abbrev ended_by : Catalogue → HeldAttempt → Option Why → Outcome
ended_by c a why = ended a.play (elim why [ Some w ↦ Some w | None ↦ why_by a.play.forced (not_ready c a.play.records) ])

outcome-is : (h : History) (last : ℕ) (a : HeldAttempt) (m : Message) (stage : Stage) → a.recording ≡ m.recording → HasEnded h last a m stage → outcome_on h a.kind m ≡ ended a.play (why_ended h.catalogue a)
outcome-is h last a m Calls same e = absurd e
outcome-is h last a m Commit same e = absurd e
outcome-is h last a m Abort same e = absurd e
outcome-is h last a m Ready same r =
    ap (λ (x : Recording). outcome_on h a.kind (record m { recording = x })) (sym same) ∙ ap (outcome_by h.catalogue) r.played ∙ ap (ended_by h.catalogue a) (sym r.why)
outcome-is h last a m Failing same f =
    ap (λ (x : Recording). outcome_on h a.kind (record m { recording = x })) (sym same) ∙ ap (outcome_by h.catalogue) f.played ∙ ap (ended_by h.catalogue a) (sym f.why)

-- the last fact of a legal history is within its limits
pub last-within : (facts : List Fact) (fact : Fact) → is_legal by_text (facts ++ fact ∷ []) ≡ true → is_fact fact ≡ true
last-within facts fact legal =
    let all = sym (follow-push by_text no_facts facts fact) ∙ legal-all by_text (facts ++ fact ∷ []) legal in
    and-left (is_fact fact) _ (and-right (all_follow by_text no_facts facts) _ all)

-- what is due stands in a queue
pub due-queued : (last : ℕ) (p : Place) → is_due last p ≡ true → is_queued p ≡ true
due-queued last (Queue q tries due) e = refl
due-queued last Dead e = cc
due-queued last (Consumed a) e = cc

-- what has ended has its fact

has-fact : (why : Option Why) → has_no_fact (stage_by why) ≡ false
has-fact (Some why) = refl
has-fact None = refl

ends-no-fact : (stage : Stage) → can_end stage ≡ true → has_no_fact stage ≡ true
ends-no-fact Ready e = refl
ends-no-fact Failing e = refl
ends-no-fact Calls e = cc
ends-no-fact Commit e = cc
ends-no-fact Abort e = cc

-- what the history's call said, of the hub's own history and moment, and of the attempt
pub adds-end : (v w next : HistoryView) (l m : ℕ) (a b : AttemptView) → v ≡ w → l ≡ m → a ≡ b → AddsFact (fact_ended l a) (HasOutcome a) v next → AddsFact (fact_ended m b) (HasOutcome b) w next
adds-end v w next l m a b same at is adds =
    subst (λ (x : AttemptView). AddsFact (fact_ended m x) (HasOutcome x) w next) is
    (subst (λ (k : ℕ). AddsFact (fact_ended k a) (HasOutcome a) w next) at (subst (λ (u : HistoryView). AddsFact (fact_ended l a) (HasOutcome a) u next) same adds))

-- the attempt in a slot that was set
pub slot-has : (hub : Hub) (s : State) → IsHubOf hub s → (n : ℕ) (v : HeldAttempt) (slots : List (Option AttemptView)) → is_slot n ≡ true → players_of slots ≡ set_slot n (Some v) (players_of hub.players) → (o : Option AttemptView) → o ≡ in_slot n slots
    → option_map held_of o ≡ Some v
slot-has hub s h n v slots slot set o is =
    let many : length (players_of hub.players) ≡ 16 = ap length h.players ∙ h.settled.held.slots in
    ap (option_map held_of) is ∙ sym (slot-held slots n) ∙ ap (in_slot n) set ∙ slot-set (players_of hub.players) n (Some v) slot many

-- An attempt that a player holds ends. `h` is the attempt before, `a` behind its end, and `slots` are the hub's players then.
module _ (hub : Hub) (n : ℕ) (h : HeldAttempt) (there : in_slot n (players_of hub.players) ≡ Some h) (ends : can_end h.stage ≡ true)
    (slots : List (Option AttemptView)) (a : AttemptView) (set : players_of slots ≡ set_slot n (Some (ended_attempt (why_ended hub.history.catalogue h) h)) (players_of hub.players)) (is : held_of a ≡ ended_attempt (why_ended hub.history.catalogue h) h) where
  abbrev why : Option Why
  why = why_ended hub.history.catalogue h

  abbrev pub end_by : Fact
  end_by = fact_ended hub.last a

  -- by the state
  module _ (s : State) (in_state : IsHubOf hub s) where
    here : in_slot n s.players ≡ Some h
    here = subst (λ (p : List (Option HeldAttempt)). in_slot n p ≡ Some h) in_state.players there

    held : IsHeldIn s.history s.last h
    held = in_state.settled.held.held (n - 1) h (held-in s n h here)

    over : HasEnded s.history s.last h held.message h.stage
    over = ended-is s.history s.last h held.message h.stage ends held.come

    apart : (j : ℕ) (c : HeldAttempt) → (j ≡ n - 1 → ⊥) → Holds s j c → AreApart h c
    apart j c other at = in_state.settled.held.apart (n - 1) j h c (λ e. other (sym e)) (held-in s n h here) at

    same_why : why_ended s.history.catalogue h ≡ why
    same_why = ap (λ (c : Catalogue). why_ended c h) (sym in_state.history.catalogue)

    -- the step
    step-is : on_held s (end_in s n) (in_slot n s.players) ≡ end_in s n h
    step-is = ap (on_held s (end_in s n)) here

    settled : IsSettled by_text (end_in s n h).state
    settled = end-settled by_text s in_state.settled h held over n apart

    fact : end_by ≡ fact_of_end s.last h (why_ended s.history.catalogue h)
    fact =
        fact-is hub.last a
        ∙ ap (λ (x : HeldAttempt). fact_of_end hub.last x x.why) is
        ∙ fact-decided hub.last h why
        ∙ (λ i. fact_of_end (in_state.last i) h ((sym same_why) i))

    grown : IsGrown end_by s (end_in s n h).state
    grown = subst (λ (f : Fact). IsGrown f s (end_in s n h).state) (sym fact) (record { history = refl; rows = refl; journal = refl; log = refl })

    pub end-grows : IsGrown end_by s (on_held s (end_in s n) (in_slot n s.players)).state
    end-grows = subst (λ (t : Step). IsGrown end_by s t.state) (sym step-is) grown

    pub end-legal : is_legal by_text (on_held s (end_in s n) (in_slot n s.players)).state.history.facts ≡ true
    end-legal = subst (λ (t : Step). is_legal by_text t.state.history.facts ≡ true) (sym step-is) settled.legal

    pub end-limits : is_fact end_by ≡ true
    end-limits = last-within s.history.facts end_by (subst (λ (l : List Fact). is_legal by_text l ≡ true) (ap (λ (x : History). x.facts) grown.history) settled.legal)

    pub end-can : hub.journal.ended ≡ true → CanAppend hub.journal end_by
    end-can ended_here = record {
      limits = end-limits;
      ended = ended_here;
      room = omega (arith, in_state.fit.room, ap (λ (f : Fact). length (spelled_fact f)) fact, end-size s.last h (why_ended s.history.catalogue h));
    }

    -- its message waits, and it has the outcome
    id_same : a.id ≡ h.id
    id_same = ap (λ (x : HeldAttempt). x.id) is

    pub end-waits : is_waiting a.id hub.history.store.messages ≡ true
    end-waits =
        (λ i. is_waiting (id_same i) (in_state.history.messages i))
        ∙ ap (λ (o : Option Message). option_map_or (λ (m : Message). is_queued m.place) o false) held.found
        ∙ due-queued s.last held.message.place (ends-open s.history s.last h held.message h.stage over).due

    pub end-places : are_reserved (rows_seen a.play.view) hub.history.tables.places ≡ true
    end-places =
        ap (λ (x : HeldAttempt). are_reserved (rows_seen x.play.view) hub.history.tables.places) is ∙ in_state.fit.places n h there (ends-no-fact h.stage ends)

    pub end-replies : (reply : Reply) → reply ≡ end_reply a.number [] a.why → reply ≡ (on_held s (end_in s n) (in_slot n s.players)).reply
    end-replies reply told =
        told ∙ (λ i. end_reply (is i).attempt [] ((ap (λ (x : HeldAttempt). x.why) is ∙ sym same_why) i)) ∙ sym (ap (λ (t : Step). t.reply) step-is)

    pub end-outcome : HasOutcome a s.history
    end-outcome m found =
        let same : held.message ≡ m = let both : Some held.message ≡ Some m = sym held.found ∙ ap (λ (k : ℕ). message_of k s.history.messages) (sym id_same) ∙ found in cc in
        let kind : a.kind ≡ h.kind = ap (λ (x : HeldAttempt). x.kind) is in
        let play : a.play ≡ h.play = ap (λ (x : HeldAttempt). x.play) is in
        let reason : a.why ≡ why = ap (λ (x : HeldAttempt). x.why) is in
        (λ i. outcome_on s.history (kind i) (sym same i))
        ∙ outcome-is s.history s.last h held.message h.stage held.recording over
        ∙ (λ i. ended (sym play i) ((same_why ∙ sym reason) i))

    -- the hub behind it
    pub end-in : (journal : JournalView) (history : HistoryView) → journal ≡ appended hub.journal end_by → hub.history.facts < 18446744073709551615 → AddsFact end_by (HasOutcome a) hub.history history → ArePlayedBy hub.history.catalogue slots
        → IsHubOf (record hub { journal = journal; history = history; players = slots }) (on_held s (end_in s n) (in_slot n s.players)).state
    end-in journal history grows counted adds played =
        let new : Hub = record hub { journal = journal; history = history; players = slots } in
        let short : length s.history.facts < 18446744073709551615 = omega (arith, counted, in_state.history.counted) in
        let kept : IsHistoryOf history (with_fact end_by s.history) = adds.settles s.history in_state.history end-outcome short in
        let players : players_of slots ≡ (end_in s n h).state.players = set ∙ (λ i. set_slot n (Some (ended_attempt ((sym same_why) i) h)) (in_state.players i)) in
        let places = subst (HavePlaces hub.history.tables.places) (sym set)
        (places-set hub.history.tables.places (players_of hub.players) n (Some (ended_attempt why h)) in_state.fit.places (λ b e without.
        let same : ended_attempt why h ≡ b = cc in
        absurd (true≢false (sym without ∙ ap (λ (x : HeldAttempt). has_no_fact x.stage) (sym same) ∙ has-fact why)))) in
        subst (λ (t : Step). IsHubOf new t.state) (sym step-is)
        (fact-in hub new end_by s (end_in s n h).state in_state grown grows refl refl refl refl refl kept in_state.clients players settled
        (fit-grown hub new end_by (HasOutcome a) adds counted grows played places in_state.fit))
