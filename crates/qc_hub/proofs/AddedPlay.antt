-- A hub with the end of an attempt more that was played in one order.
use Rattle.std.proofs.Common.{◌≡◌, ◌∙◌, ℕ, ◌<◌, List, [], true, false, length, drop, refl, sym, ap, subst, arith, Option, Some, None}
use Rattle.std.specs.Option.{option_map_or}
use Rattle.qc_base.specs.declared.fact.Fact.{Fact}
use Rattle.qc_base.specs.declared.log_line.Why.{Why}
use Rattle.qc_base.specs.declared.message.Message.{Message}
use Rattle.qc_base.specs.Messages.{message_of}
use Rattle.qc_base.specs.Spelling.{is_fact, spelled_fact}
use Rattle.qc_catalogue.specs.declared.catalogue.Catalogue.{Catalogue}
use Rattle.qc_journal.specs.Journal.{CanAppend, JournalView, appended}
use Rattle.qc_history.specs.Adding.{AddsFact}
use Rattle.qc_history.specs.Playing.{HasOutcome, fact_ended}
use Rattle.qc_history.specs.Stands.{IsHistoryOf}
use Rattle.qc_history.specs.View.{HistoryView}
use Rattle.qc_listener.specs.Choice.{kind_at}
use Rattle.qc_play.specs.Play.{Seen}
use Rattle.qc_rows.specs.Places.{are_reserved, rows_seen}
use Rattle.qc_store.specs.Due.{is_queued}
use Rattle.qc_store.specs.Live.{is_waiting}
use Rattle.qc_txn.specs.Attempt.{AttemptView, decided, stage_after, why_at_end}
use Rattle.qc_txn.specs.Ends.{PlaysAll}
use Rattle.qc_txn.specs.Outcome.{ended, new_play, not_ready, outcome, why_by}
use Rattle.qc_txn.specs.Parts.{Part, parts_of}
use Rattle.qc_txn.proofs.Ending.{ends}
use Rattle.qc_txn.proofs.Quiet.{quiet-parts}
use Rattle.qc_protocol.specs.declared.reply.Reply.{Reply}
use Rattle.qc_machine.specs.Attempts.{parts_held}
use Rattle.qc_machine.specs.History.{History, by_text, is_legal, outcome_on, view_at, with_fact}
use Rattle.qc_machine.specs.Laws.{IsSettled}
use Rattle.qc_machine.specs.Playing.{fact_of_end, play_in, play_reply, why_ended, work_on}
use Rattle.qc_machine.specs.State.{State, HeldAttempt, set_slot}
use Rattle.qc_machine.specs.Taking.{new_attempt}
use Rattle.qc_machine.proofs.Keeping.{settled-orderly}
use Rattle.qc_machine.proofs.Settled.{play-settled}
use Rattle.qc_machine.proofs.Taken.{IsChosen, chosen-is}
use Rattle.qc_players.specs.Players.{held_of, players_of}
use Rattle.qc_hub.specs.declared.hub.Hub.{Hub}
use Rattle.qc_hub.specs.Stands.{IsHubOf}
use Rattle.qc_hub.specs.Taking.{IsBegun, IsTaken}
use Rattle.qc_hub.proofs.Added.{IsGrown, fact-in, fit-grown}
use Rattle.qc_hub.proofs.AddedEnd.{due-queued, end-size, fact-is, last-within}
use Rattle.qc_hub.proofs.AllCalls.{RanOn, ran-on, works-on}
use Rattle.qc_hub.proofs.Slots.{freed-same}
use Rattle.qc_hub.proofs.Taken.{IsFreeToTake, free-to-take}

-- an attempt that has begun has its first call next, or has none
pub play-starts : (hub : Hub) (n : ℕ) (a : AttemptView) → IsBegun n a hub → (s : State) → IsHubOf hub s → a.stage ≡ stage_after a.calls a.count
play-starts hub n a begun s h =
    let taken : IsTaken s n begun.app (held_of a) = begun.taken s h in
    let m : Message = taken.message in
    let none_ran : a.calls ≡ 0 = ap (λ (x : HeldAttempt). x.calls) taken.is in
    let recorded : a.recording ≡ m.recording = ap (λ (x : HeldAttempt). x.recording) taken.is in
    let kind : a.kind ≡ kind_at m.place = ap (λ (x : HeldAttempt). x.kind) taken.is in
    ap (λ (x : HeldAttempt). x.stage) taken.is
    ∙ (λ i. stage_after ((sym none_ran) i) (length (parts_of s.history.catalogue m.recording (kind_at m.place))))
    ∙ ap (stage_after a.calls) ((λ i. length (parts_of (sym h.history.catalogue i) (sym recorded i) (sym kind i))) ∙ sym begun.played.count)

-- `a` has begun for the player n of the hub, and `b` is what all its calls make of it.
module _ (hub : Hub) (n : ℕ) (a b : AttemptView) (begun : IsBegun n a hub) (plays : PlaysAll (drop a.calls (parts_of hub.history.catalogue a.recording a.kind)) a b) where
  abbrev c : Catalogue
  c = hub.history.catalogue

  abbrev parts : List Part
  parts = parts_of c a.recording a.kind

  abbrev pub play_by : Fact
  play_by = fact_ended hub.last (decided b)

  module _ (s : State) (h : IsHubOf hub s) where
    abbrev taken : IsTaken s n begun.app (held_of a)
    taken = begun.taken s h

    abbrev m : Message
    m = taken.message

    begins : held_of a ≡ new_attempt s m
    begins = taken.is

    none_ran : a.calls ≡ 0
    none_ran = ap (λ (x : HeldAttempt). x.calls) begins

    no_reason : a.why ≡ None
    no_reason = ap (λ (x : HeldAttempt). x.why) begins

    free : IsFreeToTake s n begun.app
    free = free-to-take s n begun.app taken.free

    chosen : IsChosen s m
    chosen = chosen-is s begun.app m (settled-orderly by_text s h.settled) taken.chosen

    on : RanOn a b
    on = ran-on (drop a.calls parts) a b plays

    all_calls : PlaysAll parts a b
    all_calls = subst (λ (k : ℕ). PlaysAll (drop k parts) a b) none_ran plays

    quiet : (b.play.records ≡ []) × (b.refuser ≡ None)
    quiet = let q = quiet-parts parts a b begun.played.inside begun.played.records all_calls in (q.0, q.1 ∙ begun.played.refuser)

    -- the machine runs the same calls
    worked : work_on parts parts (held_of a) ≡ held_of b
    worked = works-on parts parts a b begun.played.count (ap (λ (k : ℕ). drop k parts) none_ran) (play-starts hub n a begun s h) all_calls

    same_parts : parts_held s.history.catalogue (held_of a) ≡ parts
    same_parts = ap (λ (x : Catalogue). parts_of x a.recording a.kind) (sym h.history.catalogue)

    abbrev why_with : Option (List ℕ) → Option Why
    why_with refuser = elim b.why [ Some why ↦ Some why | None ↦ why_by b.play.forced refuser ]

    -- why it fails, if it does
    reason : why_at_end b ≡ why_ended s.history.catalogue (work_on (parts_held s.history.catalogue (held_of a)) (parts_held s.history.catalogue (held_of a)) (held_of a))
    reason =
        ap why_with (quiet.1 ∙ sym (ap (not_ready s.history.catalogue) quiet.0))
        ∙ ap (why_ended s.history.catalogue) (sym worked)
        ∙ ap (λ (ps : List Part). why_ended s.history.catalogue (work_on ps ps (held_of a))) (sym same_parts)

    abbrev why : Option Why
    why = why_ended s.history.catalogue (work_on (parts_held s.history.catalogue (held_of a)) (parts_held s.history.catalogue (held_of a)) (held_of a))

    fact_same : (o : Option Why) → fact_of_end hub.last (held_of (decided b)) o ≡ fact_of_end s.last (held_of a) o
    fact_same (Some w) = λ i. fact_of_end (h.last i) (record (held_of a) { id = on.id i; attempt = on.number i; kind = on.kind i }) (Some w)
    fact_same None = λ i. fact_of_end (h.last i) (record (held_of a) { id = on.id i; attempt = on.number i; kind = on.kind i }) None

    fact : play_by ≡ fact_of_end s.last (held_of a) why
    fact = fact-is hub.last (decided b) ∙ fact_same (why_at_end b) ∙ ap (fact_of_end s.last (held_of a)) reason

    -- the step

    settled : IsSettled by_text (play_in s n (held_of a)).state
    settled =
        subst (λ (x : HeldAttempt). IsSettled by_text (play_in s n x).state) (sym begins)
        (play-settled by_text s h.settled s n begun.app m taken.chosen free.built free.room)

    pub play-grows : IsGrown play_by s (play_in s n (held_of a)).state
    play-grows = subst (λ (f : Fact). IsGrown f s (play_in s n (held_of a)).state) (sym fact) (record { history = refl; rows = refl; journal = refl; log = refl })

    pub play-legal : is_legal by_text (play_in s n (held_of a)).state.history.facts ≡ true
    play-legal = settled.legal

    pub play-limits : is_fact play_by ≡ true
    play-limits = last-within s.history.facts play_by (subst (λ (l : List Fact). is_legal by_text l ≡ true) (ap (λ (x : History). x.facts) play-grows.history) settled.legal)

    pub play-can : hub.journal.ended ≡ true → CanAppend hub.journal play_by
    play-can ended_here = record {
      limits = play-limits;
      ended = ended_here;
      room = omega (arith, h.fit.room, ap (λ (f : Fact). length (spelled_fact f)) fact, end-size s.last (held_of a) why);
    }

    reply_same : (o : Option Why) → play_reply (held_of (decided b)) [] o ≡ play_reply (held_of a) [] o
    reply_same (Some w) = λ i. play_reply (record (held_of a) { id = on.id i; attempt = on.number i; kind = on.kind i }) [] (Some w)
    reply_same None = λ i. play_reply (record (held_of a) { id = on.id i; attempt = on.number i; kind = on.kind i }) [] None

    pub play-replies : (reply : Reply) → reply ≡ play_reply (held_of (decided b)) [] (decided b).why → reply ≡ (play_in s n (held_of a)).reply
    play-replies reply is = is ∙ reply_same (why_at_end b) ∙ ap (play_reply (held_of a) []) reason

    -- its message waits, its rows have places, and it has the outcome

    id_same : (decided b).id ≡ m.id
    id_same = on.id ∙ ap (λ (x : HeldAttempt). x.id) begins

    pub play-waits : is_waiting (decided b).id hub.history.store.messages ≡ true
    play-waits =
        (λ i. is_waiting (id_same i) (h.history.messages i))
        ∙ ap (λ (o : Option Message). option_map_or (λ (x : Message). is_queued x.place) o false) chosen.found
        ∙ due-queued s.last m.place chosen.due

    pub play-places : are_reserved (rows_seen (decided b).play.view) hub.history.tables.places ≡ true
    play-places = ap (λ rows. are_reserved rows hub.history.tables.places) on.rows ∙ begun.places

    pub play-outcome : HasOutcome (decided b) s.history
    play-outcome x found =
        let same : m ≡ x = let both : Some m ≡ Some x = sym chosen.found ∙ ap (λ (k : ℕ). message_of k s.history.messages) (sym id_same) ∙ found in cc in
        let recorded : x.recording ≡ a.recording = ap (λ (y : Message). y.recording) (sym same) ∙ sym (ap (λ (y : HeldAttempt). y.recording) begins) in
        let kind : b.kind ≡ kind_at m.place = on.kind ∙ ap (λ (y : HeldAttempt). y.kind) begins in
        let view : List Seen = view_at s.history m.recording (kind_at m.place) in
        let first : a.play ≡ new_play view = ap (λ (y : HeldAttempt). y.play) begins in
        let calls = subst (λ (x : Catalogue). PlaysAll (parts_of x a.recording a.kind) a b) h.history.catalogue all_calls in
        let seen : outcome_on s.history b.kind x ≡ outcome s.history.catalogue a.recording a.kind view = λ i. outcome s.history.catalogue (recorded i) (on.kind i) (view_at s.history (sym same i).recording (kind i)) in
        seen ∙ ends s.history.catalogue view a b first no_reason calls
        ∙ ap (λ (r : Option (List ℕ)). ended b.play (why_with r)) (ap (not_ready s.history.catalogue) quiet.0 ∙ sym quiet.1)

    -- the hub behind it
    pub play-is : (journal : JournalView) (history : HistoryView) → journal ≡ appended hub.journal play_by → hub.history.facts < 18446744073709551615 → AddsFact play_by (HasOutcome (decided b)) hub.history history → IsHubOf (record hub { journal = journal; history = history }) (play_in s n (held_of a)).state
    play-is journal history grows counted adds =
        let new : Hub = record hub { journal = journal; history = history } in
        let short : length s.history.facts < 18446744073709551615 = omega (arith, counted, h.history.counted) in
        let kept : IsHistoryOf history (with_fact play_by s.history) = adds.settles s.history h.history play-outcome short in
        let players : players_of hub.players ≡ set_slot n None s.players = h.players ∙ sym (freed-same s.players n free.slot) in
        fact-in hub new play_by s (play_in s n (held_of a)).state h play-grows grows refl refl refl refl refl kept h.clients players settled
        (fit-grown hub new play_by (HasOutcome (decided b)) adds counted grows h.fit.played h.fit.places h.fit)
