-- The batches that a move is cut into may be added.
use Rattle.std.proofs.Common.{◌≡◌, ◌≤◌, ◌+◌, ◌*◌, ℕ, zero, suc, List, [], ◌∷◌, length, take, drop, true, refl, sym, subst, arith, length-take, take-append-drop}
use Rattle.std.proofs.lemmas.List.Elements.{All-cons, All-nil}
use Rattle.qc_base.specs.Names.{is_name}
use Rattle.qc_base.specs.declared.fact.Fact.{Fact}
use Rattle.qc_base.specs.declared.fact.Fact.TheVariants.{Moved}
use Rattle.qc_journal.proofs.Lengths.{length-moved}
use Rattle.qc_machine.specs.Moving.{AreMovable, cut, facts_of_batches}
use Rattle.qc_machine.specs.State.{State}
use Rattle.qc_machine.proofs.Moves.{movable-split}
use Rattle.qc_hub.specs.declared.hub.Hub.{Hub}
use Rattle.qc_hub.specs.Moving.{AreBatches, IsBatch}
use Rattle.qc_hub.specs.Stands.{IsHubOf}

module _ (hub : Hub) (app : List ℕ) (queue size : ℕ) (named : is_name app ≡ true) (within : queue ≤ 6) (some : 1 ≤ size) (few : size ≤ 1000) (room : 17 + length app + 8 * size ≤ hub.journal.spare) where
  abbrev pub AllMovable : List ℕ → Type 0
  AllMovable ids = (s : State) → IsHubOf hub s → AreMovable s app ids

  one-batch : (ids : List ℕ) → 1 ≤ length ids → length ids ≤ size → AllMovable ids → IsBatch (Moved app queue hub.last ids) hub
  one-batch ids there short movable = record {
    app = app;
    queue = queue;
    ids = ids;
    is = refl;
    named = named;
    within = within;
    some = there;
    few = omega (arith, short, few);
    movable = movable;
    room = omega (arith, room, short, length-moved app ids queue hub.last);
  }

  pub cut-batches : (n : ℕ) (ids : List ℕ) → AllMovable ids → AreBatches (facts_of_batches app queue hub.last (cut n size ids)) hub
  cut-batches zero ids movable = All-nil (λ (fact : Fact). IsBatch fact hub)
  cut-batches (suc n) [] movable = All-nil (λ (fact : Fact). IsBatch fact hub)
  cut-batches (suc n) (id ∷ ids) movable =
      let all : List ℕ = id ∷ ids in
      let split : (s : State) → IsHubOf hub s → AreMovable s app (take size all) × AreMovable s app (drop size all) =
      λ s h. movable-split s app (take size all) (drop size all) (subst (AreMovable s app) (sym (take-append-drop size all)) (movable s h)) in
      All-cons (λ (fact : Fact). IsBatch fact hub) (Moved app queue hub.last (take size all)) (facts_of_batches app queue hub.last (cut n size (drop size all)))
      (one-batch (take size all) (omega (arith, some, length-take size all)) (omega (arith, length-take size all)) (λ s h. (split s h).0))
      (cut-batches n (drop size all) (λ s h. (split s h).1))
