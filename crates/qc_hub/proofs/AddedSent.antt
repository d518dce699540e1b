-- A hub with one message more.
use Rattle.std.proofs.Common.{◌≡◌, ℕ, ◌+◌, ◌<◌, ◌≤◌, length, leb, leb-true, true, refl, sym, subst, arith}
use Rattle.std.proofs.lemmas.Bool.{and_parts}
use Rattle.qc_base.specs.declared.fact.Fact.{Fact}
use Rattle.qc_base.specs.declared.fact.Fact.TheVariants.{Sent as FactSent}
use Rattle.qc_base.specs.declared.recording.Recording.{Recording}
use Rattle.qc_base.specs.Names.{is_name}
use Rattle.qc_base.specs.Spelling.{is_between, is_fact, is_recorded, is_recording}
use Rattle.qc_catalogue.specs.declared.catalogue.Catalogue.{Catalogue}
use Rattle.qc_journal.specs.Journal.{CanAppend, JournalView, appended}
use Rattle.qc_history.specs.Adding.{AddsFact, Always}
use Rattle.qc_history.specs.Stands.{IsHistoryOf}
use Rattle.qc_history.specs.View.{HistoryView}
use Rattle.qc_recorder.specs.Fits.{recording_fits}
use Rattle.qc_machine.specs.History.{by_text, is_legal, with_fact}
use Rattle.qc_machine.specs.Laws.{IsSettled}
use Rattle.qc_machine.specs.Sending.{added, fact_sent}
use Rattle.qc_machine.specs.State.{State, with_new_fact}
use Rattle.qc_machine.proofs.Settled.{sent-fits, sent-settled}
use Rattle.qc_hub.specs.declared.hub.Hub.{Hub}
use Rattle.qc_hub.specs.Rooms.{HasRoom}
use Rattle.qc_hub.specs.Stands.{IsHubOf}
use Rattle.qc_hub.proofs.Added.{IsGrown, fact-in, fit-grown}
use Rattle.qc_hub.proofs.Room.{same-fact, sent-size}

-- a recording within its limits has few calls
pub short-calls : (r : Recording) → is_recording r ≡ true → length r.calls ≤ 64
short-calls r e =
    let recorded = (and_parts (is_recorded r) _ e).0 in
    let behind_app = (and_parts (is_name r.app) _ recorded).1 in
    let calls = (and_parts (is_name r.component) _ behind_app).1 in
    let many = (and_parts (is_between 1 64 (length r.calls)) _ calls).0 in
    leb-true (length r.calls) 64 (and_parts (leb 1 (length r.calls)) _ many).1

-- what the history's call said, of the hub's own history, moment and recording
pub adds-here : (v w next : HistoryView) (l m : ℕ) (x r : Recording) → v ≡ w → l ≡ m → x ≡ r → AddsFact (FactSent (length v.store.messages + 1) l x) Always v next → AddsFact (FactSent (length w.store.messages + 1) m r) Always w next
adds-here v w next l m x r a b e adds =
    subst (λ (y : Recording). AddsFact (FactSent (length w.store.messages + 1) m y) Always w next) e
    (subst (λ (k : ℕ). AddsFact (FactSent (length w.store.messages + 1) k x) Always w next) b
    (subst (λ (u : HistoryView). AddsFact (FactSent (length u.store.messages + 1) l x) Always u next) a adds))

-- the message is the next one, within its limits, and fits
module _ (hub : Hub) (n : ℕ) (r : Recording) (count : n ≡ length hub.history.store.messages) (few : n < 9223372036854775808) (limits : is_recording r ≡ true) (fits : recording_fits hub.history.catalogue r ≡ true) where
  abbrev pub sent_by : Fact
  sent_by = FactSent (n + 1) hub.last r

  pub sent-limits : (s : State) → IsHubOf hub s → is_fact sent_by ≡ true
  sent-limits s h = sent-fits (n + 1) hub.last r (omega (arith, few)) (omega (arith, h.last, h.settled.in_time)) limits

  pub sent-can : (s : State) → IsHubOf hub s → hub.journal.ended ≡ true → HasRoom r hub → CanAppend hub.journal sent_by
  sent-can s h ended room = record { limits = sent-limits s h; ended = ended; room = omega (arith, room.journal, sent-size (n + 1) hub.last r) }

  same : (s : State) → IsHubOf hub s → sent_by ≡ fact_sent s r
  same s h = same-fact hub s n r h count

  pub sent-grows : (s : State) → IsHubOf hub s → IsGrown sent_by s (added (fact_sent s r) s).state
  sent-grows s h = subst (λ (f : Fact). IsGrown f s (added (fact_sent s r) s).state) (sym (same s h)) (record { history = refl; rows = refl; journal = refl; log = refl })

  settled : (s : State) → IsHubOf hub s → IsSettled by_text (with_new_fact (fact_sent s r) s)
  settled s h =
      sent-settled by_text s r h.settled (subst (λ (f : Fact). is_fact f ≡ true) (same s h) (sent-limits s h))
      (subst (λ (c : Catalogue). recording_fits c r ≡ true) h.history.catalogue fits)

  pub sent-legal : (s : State) → IsHubOf hub s → is_legal by_text (added (fact_sent s r) s).state.history.facts ≡ true
  sent-legal s h = (settled s h).legal

  module _ (journal : JournalView) (history : HistoryView) (grows : journal ≡ appended hub.journal sent_by) (counted : hub.history.facts < 18446744073709551615) (adds : AddsFact (FactSent (length hub.history.store.messages + 1) hub.last r) Always hub.history history) where
    abbrev new : Hub
    new = record hub { journal = journal; history = history }

    adds_this : AddsFact sent_by Always hub.history history
    adds_this = subst (λ (k : ℕ). AddsFact (FactSent (k + 1) hub.last r) Always hub.history history) (sym count) adds

    pub sent-in : (s : State) → IsHubOf hub s → IsHubOf new (added (fact_sent s r) s).state
    sent-in s h =
        let short : length s.history.facts < 18446744073709551615 = omega (arith, counted, h.history.counted) in
        let kept : IsHistoryOf history (with_fact sent_by s.history) = adds_this.settles s.history h.history tt short in
        fact-in hub new sent_by s (added (fact_sent s r) s).state h (sent-grows s h) grows refl refl refl refl refl kept h.clients h.players (settled s h)
        (fit-grown hub new sent_by Always adds_this counted grows h.fit.played h.fit.places h.fit)
