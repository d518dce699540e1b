-- The messages that a move takes, as a hub finds them.
use Rattle.std.proofs.Common.{◌≡◌, ◌∙◌, ◌<◌, ◌+◌, ℕ, List, [], ◌∷◌, ◌++◌, Bool, not, cond, ◌==◌, filter, map, take, length, get_or, sym, ap}
use Rattle.std.proofs.lemmas.List.{map_more}
use Rattle.std.proofs.lemmas.List.Elements.{filter-append}
use Rattle.qc_base.specs.declared.queue.Waiting.{Waiting}
use Rattle.qc_base.specs.Messages.{listing}
use Rattle.qc_rows.specs.Holdings.{Holding, is_held}
use Rattle.qc_machine.specs.Moving.{ids_moved}
use Rattle.qc_machine.specs.State.{State}
use Rattle.qc_players.specs.Players.{SameHoldings, holdings_in, players_of}
use Rattle.qc_hub.specs.declared.hub.Hub.{Hub}
use Rattle.qc_hub.specs.Stands.{IsHubOf}

module _ (held : List Holding) where
  abbrev pub is_free : ℕ → Bool
  is_free id = not (is_held held id)

  abbrev pub free_in : List Waiting → List ℕ
  free_in waiting = filter is_free (map (λ (w : Waiting). w.id) waiting)

  by_one : (front : List ℕ) (id : ℕ) (b : Bool) → is_held held id ≡ b → filter is_free (front ++ id ∷ []) ≡ filter is_free front ++ cond (not b) (id ∷ []) []
  by_one front id b is = filter-append is_free front (id ∷ []) ∙ ap (λ (x : Bool). filter is_free front ++ cond (not x) (id ∷ []) []) is

  -- one message of the list more, which is held or not
  pub one-listed : (waiting : List Waiting) (i : ℕ) (w : Waiting) (b : Bool) → i < length waiting → w ≡ get_or waiting i w → is_held held w.id ≡ b → free_in (take (i + 1) waiting) ≡ free_in (take i waiting) ++ cond (not b) (w.id ∷ []) []
  one-listed waiting i w b lt is e =
      ap (filter is_free) (map_more (λ (x : Waiting). x.id) waiting i w lt ∙ ap (λ (x : Waiting). map (λ (y : Waiting). y.id) (take i waiting) ++ x.id ∷ []) (sym is))
      ∙ by_one (map (λ (y : Waiting). y.id) (take i waiting)) w.id b e

-- those that no attempt of the hub's holds are those of its state
pub free-are-moved : (hub : Hub) (s : State) → IsHubOf hub s → (held : List Holding) → SameHoldings held (holdings_in (players_of hub.players)) → (app : List ℕ) (queue : ℕ) (waiting : List Waiting) → waiting ≡ listing app queue hub.history.store.messages
    → free_in held waiting ≡ ids_moved s (record { app = app; queue = queue })
free-are-moved hub s h held same app queue waiting is =
    let one : (id : ℕ) → is_held held id ≡ is_held (holdings_in s.players) id = λ id. same (λ (x : Holding). x.id == id) ∙ (λ i. is_held (holdings_in (h.players i)) id) in
    λ i. filter (λ id. not (one id i)) (map (λ (w : Waiting). w.id) ((is ∙ (λ j. listing app queue (h.history.messages j))) i))
