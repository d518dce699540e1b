-- The batches of a move, as they are cut and as they take room.
use Rattle.std.proofs.Common.{◌≡◌, ◌∙◌, ◌≤◌, ◌+◌, ◌*◌, ℕ, zero, suc, List, [], ◌∷◌, ◌++◌, length, map, min, take, drop, sym, ap, arith, append_assoc, length-take, length-drop, suc-mul}
use Rattle.std.specs.List.{sum_by}
use Rattle.std.proofs.lemmas.List.{drop_min, take_min}
use Rattle.std.proofs.lemmas.List.Sums.{sum_by-cons}
use Rattle.qc_base.specs.declared.fact.Fact.{Fact}
use Rattle.qc_base.specs.declared.fact.Fact.TheVariants.{Moved}
use Rattle.qc_machine.specs.Moving.{batches, cut}
use Rattle.qc_machine.specs.State.{fact_room}
use Rattle.qc_machine.proofs.Batches.{batches-first, moved-room}

-- what all batches take of the journal together

module _ (app : List ℕ) (queue at size : ℕ) (some : 1 ≤ size) where
  abbrev fact_of : List ℕ → Fact
  fact_of ids = Moved app queue at ids

  cut-room : (n : ℕ) (ids : List ℕ) → length ids ≤ n → sum_by fact_room (map fact_of (cut n size ids)) ≡ length (map fact_of (cut n size ids)) * (22 + length app) + 8 * length ids
  cut-room zero [] few = omega arith
  cut-room zero (id ∷ ids) few = absurd (omega (arith, few))
  cut-room (suc n) [] few = omega arith
  cut-room (suc n) (id ∷ ids) few =
      let all : List ℕ = id ∷ ids in
      let behind : List Fact = map fact_of (cut n size (drop size all)) in
      let sum : sum_by fact_room (fact_of (take size all) ∷ behind) ≡ fact_room (fact_of (take size all)) + sum_by fact_room behind = sum_by-cons fact_room (fact_of (take size all)) behind in
      let more = cut-room n (drop size all) (omega (arith, few, some, length-drop size all)) in
      omega (arith, sum, more, moved-room app (take size all) queue at, length-take size all, length-drop size all, suc-mul (length behind) (22 + length app))

  pub batches-room : (ids : List ℕ) → sum_by fact_room (map fact_of (batches size ids)) ≡ length (map fact_of (batches size ids)) * (22 + length app) + 8 * length ids
  batches-room ids = cut-room (length ids) ids (omega arith)

  -- one batch more

  pub batch-cut : (done : List Fact) (left : List ℕ) → 1 ≤ length left → (done ++ fact_of (take size left) ∷ []) ++ map fact_of (batches size (drop size left)) ≡ done ++ map fact_of (batches size left)
  batch-cut done left there =
      append_assoc done (fact_of (take size left) ∷ []) (map fact_of (batches size (drop size left)))
      ∙ ap (λ (l : List (List ℕ)). done ++ map fact_of l) (sym (batches-first size left some there))

  -- and it was split off, as its list and the one that is left
  pub batch-more : (done now : List Fact) (left batch rest : List ℕ) (n : ℕ) → 1 ≤ length left → n ≡ min size (length left) → batch ≡ take n left → rest ≡ drop n left → now ≡ done ++ fact_of batch ∷ []
      → now ++ map fact_of (batches size rest) ≡ done ++ map fact_of (batches size left)
  batch-more done now left batch rest n there least front back more =
      let first : batch ≡ take size left = front ∙ ap (λ (k : ℕ). take k left) least ∙ take_min size left in
      let behind : rest ≡ drop size left = back ∙ ap (λ (k : ℕ). drop k left) least ∙ drop_min size left in
      (λ i. (more ∙ ap (λ (ids : List ℕ). done ++ fact_of ids ∷ []) first) i ++ map fact_of (batches size (behind i))) ∙ batch-cut done left there
