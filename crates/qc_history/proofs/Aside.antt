-- Memory that is taken for the message that is sent next.
use Rattle.std.proofs.Common.{◌≡◌, ◌∙◌, ℕ, ◌+◌, ◌≤◌, List, length, sym, ap, subst, Ok, Err, OnOk, OnErr}
use Rattle.std.specs.declared.result.Result.{Result}
use Rattle.qc_base.specs.declared.message.Message.{Message}
use Rattle.qc_base.specs.declared.number.NoMemory.{NoMemory}
use Rattle.qc_base.specs.declared.recording.Recording.{Recording}
use Rattle.qc_catalogue.specs.declared.catalogue.Catalogue.{Catalogue}
use Rattle.qc_listener.specs.Index.{MessageRows, entry_of, rows_for, with_entry}
use Rattle.qc_listener.proofs.Kept.{told_set}
use Rattle.qc_store.specs.Stored.{Stored}
use Rattle.qc_history.specs.Adding.{HasRoomFor}
use Rattle.qc_history.specs.View.{HistoryView, IsSound}
use Rattle.qc_history.proofs.Kept.{sound-set}

pub room-there : (old : HistoryView) (s : Stored) (id : ℕ) (r : Recording) → 1 ≤ s.room → id ≡ length s.messages + 1
    → HasRoomFor r (record old { store = s; rows = with_entry (rows_for old.catalogue id r) old.rows })
room-there old s id r room next = record {
  room = room;
  rows = ap (λ n. entry_of (length s.messages + 1) (with_entry (rows_for old.catalogue n r) old.rows)) next ∙ told_set (rows_for old.catalogue (length s.messages + 1) r) old.rows;
}

-- the rows of the message that is sent next are kept, where there is memory

abbrev pub Answer : Type 0
Answer = Result (Unit {0}) NoMemory

pub sound-next : (c : Catalogue) (ms more : List Message) (rows new : List MessageRows) (facts : ℕ) (sound : IsSound c ms rows facts) (id : ℕ) (r : Recording) (result : Answer) → more ≡ ms → id ≡ length more + 1
    → OnOk result (new ≡ with_entry (rows_for c id r) rows) → OnErr result (new ≡ rows) → IsSound c more new facts
sound-next c ms more rows new facts sound id r (Ok t) same next set left =
    subst (λ (l : List Message). IsSound c l new facts) (sym same)
    (subst (λ (l : List MessageRows). IsSound c ms l facts) (sym set) (sound-set c ms rows facts sound id r (next ∙ ap (λ (l : List Message). length l + 1) same)))
sound-next c ms more rows new facts sound id r (Err e) same next set left = subst (λ (l : List Message). IsSound c l new facts) (sym same) (subst (λ (l : List MessageRows). IsSound c ms l facts) (sym left) sound)

pub room-next : (old : HistoryView) (s : Stored) (new : List MessageRows) (id : ℕ) (r : Recording) (result : Answer) → 1 ≤ s.room → id ≡ length s.messages + 1
    → OnOk result (new ≡ with_entry (rows_for old.catalogue id r) old.rows) → OnOk result (HasRoomFor r (record old { store = s; rows = new }))
room-next old s new id r (Ok t) room next set = subst (λ (l : List MessageRows). HasRoomFor r (record old { store = s; rows = l })) (sym set) (room-there old s id r room next)
room-next old s new id r (Err e) room next set = tt
