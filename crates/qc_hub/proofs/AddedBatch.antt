-- A hub with one batch of a move more.
use Rattle.std.proofs.Common.{◌≡◌, ◌∙◌, ℕ, ◌+◌, ◌<◌, ◌≤◌, List, [], ◌∷◌, length, true, leb, slice_get, slice_index_or, Option, le-leb, refl, ap, sym, subst, arith}
use Rattle.std.specs.List.{list_all}
use Rattle.qc_base.specs.Names.{is_name}
use Rattle.qc_base.specs.declared.fact.Fact.{Fact}
use Rattle.qc_base.specs.declared.fact.Fact.TheVariants.{Moved}
use Rattle.qc_base.specs.declared.message.Message.{Message}
use Rattle.qc_base.specs.Spelling.{is_between, is_fact, is_moment, spelled_fact}
use Rattle.qc_journal.specs.Journal.{CanAppend, JournalView, appended}
use Rattle.qc_history.specs.Adding.{AddsFact, Always}
use Rattle.qc_history.specs.Stands.{IsHistoryOf}
use Rattle.qc_history.specs.View.{HistoryView}
use Rattle.qc_machine.specs.History.{by_text, is_legal, is_movable, with_fact}
use Rattle.qc_machine.specs.Laws.{IsSettled}
use Rattle.qc_machine.specs.Moving.{AreMovable, moved_by}
use Rattle.qc_machine.specs.State.{State, HeldAttempt, with_new_fact}
use Rattle.qc_machine.proofs.Batches.{all-live}
use Rattle.qc_machine.proofs.Bools.{and-both}
use Rattle.qc_machine.proofs.Moves.{batch-settled, movable-behind}
use Rattle.qc_store.specs.Live.{are_live}
use Rattle.qc_hub.specs.declared.hub.Hub.{Hub}
use Rattle.qc_hub.specs.Moving.{AreBatches, HasBatch, IsBatch}
use Rattle.qc_hub.specs.Stands.{IsHubOf}
use Rattle.qc_hub.proofs.Added.{IsGrown, fact-in, fit-grown}

-- what may be moved goes by the messages and the players alone
pub movable-same : (s t : State) (app ids : List ℕ) → s.history.messages ≡ t.history.messages → s.players ≡ t.players → AreMovable s app ids → AreMovable t app ids
movable-same s t app ids messages players m = record {
  live = subst (λ (ms : List Message). list_all (is_movable app ms) ids ≡ true) messages m.live;
  distinct = m.distinct;
  limits = m.limits;
  free = λ i a there. m.free i a (ap (λ (held : List (Option HeldAttempt)). slice_get held i) players ∙ there);
}

-- what settling the fact makes of the history, whose fact and whose old view are known by other names
pub adds-batch : (fact : Fact) (old mid new : HistoryView) (told : Fact) → fact ≡ told → mid ≡ old → AddsFact told Always mid new → AddsFact fact Always old new
adds-batch fact old mid new told is was adds = subst (λ (v : HistoryView). AddsFact fact Always v new) was (subst (λ (f : Fact). AddsFact f Always mid new) (sym is) adds)

module _ (hub : Hub) (fact : Fact) (b : IsBatch fact hub) where
  -- of a state in which the hub is
  module _ (s : State) (h : IsHubOf hub s) where
    abbrev moved : Fact
    moved = Moved b.app b.queue hub.last b.ids

    movable : AreMovable s b.app b.ids
    movable = b.movable s h

    moved-limits : is_fact moved ≡ true
    moved-limits =
        and-both (is_name b.app) _ b.named
        (and-both (leb b.queue 6) _ (le-leb b.queue 6 b.within)
        (and-both (is_moment hub.last) _ (le-leb hub.last 1000000000000 (omega (arith, h.last, h.settled.in_time)))
        (and-both (is_between 1 1000 (length b.ids)) _ (and-both (leb 1 (length b.ids)) _ (le-leb 1 (length b.ids) b.some) (le-leb (length b.ids) 1000 b.few)) movable.limits)))

    pub batch-limits : is_fact fact ≡ true
    batch-limits = subst (λ (f : Fact). is_fact f ≡ true) (sym b.is) moved-limits

    pub batch-can : hub.journal.ended ≡ true → CanAppend hub.journal fact
    batch-can ended = record { limits = batch-limits; ended = ended; room = b.room }

    batch-is-settled : IsSettled by_text (with_new_fact fact s)
    batch-is-settled =
        subst (λ (f : Fact). IsSettled by_text (with_new_fact f s)) (sym b.is)
        (batch-settled by_text s b.app b.queue hub.last b.ids h.settled h.last b.named b.within movable b.some b.few)

    pub batch-legal : is_legal by_text (with_new_fact fact s).history.facts ≡ true
    batch-legal = batch-is-settled.legal

    pub batch-live : are_live b.ids hub.history.store.messages ≡ true
    batch-live = subst (λ (ms : List Message). are_live b.ids ms ≡ true) (sym h.history.messages) (all-live s.history b.app b.ids movable.live)

  pub batch-grows : (count : ℕ) (s : State) → IsHubOf hub s → IsGrown fact s (moved_by (fact ∷ []) count s).state
  batch-grows count s h = record { history = refl; rows = refl; journal = refl; log = refl }

  module _ (journal : JournalView) (history : HistoryView) (grows : journal ≡ appended hub.journal fact) (counted : hub.history.facts < 18446744073709551615) (adds : AddsFact fact Always hub.history history) where
    abbrev new : Hub
    new = record hub { journal = journal; history = history }

    pub batch-in : (s : State) → IsHubOf hub s → IsHubOf new (with_new_fact fact s)
    batch-in s h =
        let short : length s.history.facts < 18446744073709551615 = omega (arith, counted, h.history.counted) in
        let kept : IsHistoryOf history (with_fact fact s.history) = adds.settles s.history h.history tt short in
        fact-in hub new fact s (with_new_fact fact s) h (record { history = refl; rows = refl; journal = refl; log = refl }) grows refl refl refl refl refl kept h.clients h.players (batch-is-settled s h)
        (fit-grown hub new fact Always adds counted grows h.fit.played h.fit.places h.fit)

    pub has-batch : HasBatch fact hub new
    has-batch = record { is_in = batch-in; last = refl; spare = ap (λ (j : JournalView). j.spare) grows }

-- what is a batch stays one behind another
pub batch-behind : (hub new : Hub) (fact next : Fact) (s : State) → IsHubOf hub s → IsBatch fact hub → HasBatch fact hub new → IsBatch next hub → IsBatch next new
batch-behind hub new fact next s h first has b = record {
  app = b.app;
  queue = b.queue;
  ids = b.ids;
  is = b.is ∙ ap (λ (n : ℕ). Moved b.app b.queue n b.ids) (sym has.last);
  named = b.named;
  within = b.within;
  some = b.some;
  few = b.few;
  movable = λ t is_in.
      let then : IsHubOf new (with_new_fact fact s) = has.is_in s h in
      let behind : AreMovable (with_new_fact (Moved first.app first.queue hub.last first.ids) s) b.app b.ids = movable-behind s b.app first.app first.queue hub.last first.ids b.ids (b.movable s h) in
      movable-same (with_new_fact fact s) t b.app b.ids (sym then.history.messages ∙ is_in.history.messages) (sym then.players ∙ is_in.players)
      (subst (λ (f : Fact). AreMovable (with_new_fact f s) b.app b.ids) (sym first.is) behind);
  room = subst (λ (n : ℕ). length (spelled_fact next) + 4 ≤ n) (sym has.spare) b.room;
}

pub batches-behind : (hub new : Hub) (fact : Fact) (s : State) → IsHubOf hub s → IsBatch fact hub → HasBatch fact hub new → (facts : List Fact) → AreBatches facts hub → AreBatches facts new
batches-behind hub new fact s h first has facts all k d inside = batch-behind hub new fact (slice_index_or facts k d) s h first has (all k d inside)
