-- A hub that takes room for a message, and what it tells.
use Rattle.std.proofs.Common.{◌≡◌, ◌∙◌, ◌≤◌, ◌<◌, ℕ, ◌+◌, leb, max, [], ◌∷◌, length, Bool, true, false, refl, sym, ap, arith, Option, Some, None, Ok, Err}
use Rattle.std.proofs.lemmas.Bool.{le-leb, lt-leb}
use Rattle.qc_base.specs.declared.recording.Recording.{Recording}
use Rattle.qc_base.specs.Messages.{live}
use Rattle.qc_base.specs.Spelling.{spelled_recording}
use Rattle.qc_protocol.specs.declared.reply.Refusal.{Refusal}
use Rattle.qc_protocol.specs.declared.reply.Refusal.TheVariants.{TooManyMessages}
use Rattle.qc_history.specs.Adding.{HasRoomFor, SetsAside}
use Rattle.qc_history.specs.View.{HistoryView}
use Rattle.qc_journal.specs.Journal.{JournalView}
use Rattle.qc_machine.specs.declared.limits.Limits.{Limits}
use Rattle.qc_machine.specs.Refuse.{first_some, refuse_if}
use Rattle.qc_machine.specs.Rooms.{journal_full}
use Rattle.qc_machine.specs.Sending.{no_room_for, too_many}
use Rattle.qc_machine.specs.State.{State}
use Rattle.qc_hub.specs.declared.error.HubError.TheVariants.{NoMemory}
use Rattle.qc_hub.specs.declared.hub.Hub.{Hub}
use Rattle.qc_hub.specs.Rooms.{MakesRoom, SameBut, unsent}
use Rattle.qc_hub.specs.Stands.{IsHubOf}
use Rattle.qc_hub.proofs.Later.{same-joined, took-history, took-journal, took-nothing}
use Rattle.qc_hub.proofs.Room.{sent-size}

-- a hub whose history took room, and whose journal took none
pub journal-kept : (hub : Hub) (history : HistoryView) (journal : JournalView) → SetsAside hub.history history → journal ≡ hub.journal → SameBut hub (record hub { history = history; journal = journal })
journal-kept hub history journal aside is = record {
  history = aside;
  journal = is ∙ (λ i. record hub.journal { spare = (sym (ap (λ (j : JournalView). j.spare) is)) i });
  room = omega (arith, ap (λ (j : JournalView). j.spare) is);
  others = refl;
}

-- and whose journal took some too
pub journal-made : (hub : Hub) (history : HistoryView) (journal : JournalView) → SetsAside hub.history history → (bytes : ℕ) → journal ≡ record hub.journal { spare = max hub.journal.spare bytes } → SameBut hub (record hub { history = history; journal = journal })
journal-made hub history journal aside bytes is =
    same-joined hub (record hub { history = history }) (record hub { history = history; journal = journal }) (took-history hub history aside) (took-journal (record hub { history = history }) journal bytes is)

module _ (hub : Hub) (r : Recording) (most n : ℕ) (limit : most ≡ hub.limits.live) (counted : n ≡ live hub.history.store.messages) where
  -- whether there are too many messages, as the hub finds it
  many : (s : State) → IsHubOf hub s → (b : Bool) → leb most n ≡ b → too_many s (Some r) ≡ refuse_if b (TooManyMessages most)
  many s h b e =
      (λ i. refuse_if (leb ((sym same) i) ((sym held) i)) (TooManyMessages ((sym same) i))) ∙ ap (λ (x : Bool). refuse_if x (TooManyMessages most)) e
    where
      same : most ≡ s.limits.live
      same = limit ∙ ap (λ (x : Limits). x.live) h.limits

      held : n ≡ live s.history.messages
      held = counted ∙ ap live h.history.messages

  abbrev unless : State → Option Refusal → Option Refusal
  unless s o = first_some (o ∷ no_room_for s (Some r) ∷ [])

  pub room-many : most ≤ n → MakesRoom r (Ok (Some (TooManyMessages most))) hub hub
  room-many le = record {
    refused = λ s h. sym (ap (unless s) (many s h true (le-leb most n le)));
    room = λ e. absurd cc;
    kept = took-nothing hub;
    starved = tt;
  }

  module _ (few : n < most) (size : ℕ) (sized : size ≡ 19 + length (spelled_recording r)) (full : Option Refusal) (looked : (s : State) → IsHubOf hub s → full ≡ journal_full s (9 + size)) where
    unsent-is : (s : State) → IsHubOf hub s → unsent s r ≡ first_some (full ∷ [])
    unsent-is s h =
        let room : no_room_for s (Some r) ≡ full = ap (λ (k : ℕ). journal_full s (9 + k)) (sent-size (length s.history.messages + 1) s.last r ∙ sym sized) ∙ sym (looked s h) in
        ap (unless s) (many s h false (lt-leb most n few)) ∙ ap (λ (o : Option Refusal). first_some (o ∷ [])) room

    pub room-full : (why : Refusal) → full ≡ Some why → MakesRoom r (Ok (Some why)) hub hub
    room-full why e = record {
      refused = λ s h. sym (unsent-is s h ∙ ap (λ (o : Option Refusal). first_some (o ∷ [])) e);
      room = λ f. absurd cc;
      kept = took-nothing hub;
      starved = tt;
    }

    pub room-made : full ≡ None → (history : HistoryView) (journal : JournalView) → SetsAside hub.history history → HasRoomFor r history → journal ≡ record hub.journal { spare = max hub.journal.spare (size + 4) } → MakesRoom r (Ok None) hub (record hub { history = history; journal = journal })
    room-made e history journal aside has is = record {
      refused = λ s h. sym (unsent-is s h ∙ ap (λ (o : Option Refusal). first_some (o ∷ [])) e);
      room = λ f. record { history = has; journal = omega (arith, ap (λ (j : JournalView). j.spare) is, sized) };
      kept = journal-made hub history journal aside (size + 4) is;
      starved = tt;
    }

-- there was no memory
pub room-starved : (hub new : Hub) (r : Recording) → SameBut hub new → MakesRoom r (Err NoMemory) hub new
room-starved hub new r kept = record { refused = λ s h. tt; room = tt; kept = kept; starved = refl }
