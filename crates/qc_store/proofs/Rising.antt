-- Messages whose ids rise.
use Rattle.std.proofs.Common.{◌≡◌, ℕ, ◌<◌, ◌==◌, Bool, true, false, List, [], ◌∷◌, ◌++◌, map, All, refl, arith, if◌then◌else◌}
use Rattle.std.specs.List.{list_any}
use Rattle.std.proofs.lemmas.List.Elements.{All-head, All-tail, All-push, All-nil, All-map, All-weaker}
use Rattle.qc_base.specs.declared.fact.Place.{Place}
use Rattle.qc_base.specs.declared.message.Message.{Message}
use Rattle.qc_base.specs.Messages.{at_message, after_moved, moved_place}
use Rattle.qc_store.specs.Stored.{IdsRise}

-- a message more, whose id is above all before
pub rises_push : (ms : List Message) (m : Message) → IdsRise ms → All (λ (x : Message). x.id < m.id) ms → IdsRise (ms ++ m ∷ [])
rises_push [] m up above = (All-nil (λ (x : Message). m.id < x.id), tt)
rises_push (a ∷ ms) m up above =
    let first : a.id < m.id = All-head (λ (x : Message). x.id < m.id) a ms above in
    (All-push (λ (x : Message). a.id < x.id) ms m up.0 first, rises_push ms m up.1 (All-tail (λ (x : Message). x.id < m.id) a ms above))

-- messages that keep their ids
pub rises_map : (f : Message → Message) → ((m : Message) → (f m).id ≡ m.id) → (ms : List Message) → IdsRise ms → IdsRise (map f ms)
rises_map f same [] up = tt
rises_map f same (m ∷ ms) up =
    let above : All (λ (x : Message). (f m).id < (f x).id) ms =
    All-weaker (λ (x : Message). m.id < x.id) (λ (x : Message). (f m).id < (f x).id) (λ x lt. omega (arith, same m, same x)) ms up.0 in
    (All-map (λ (x : Message). (f m).id < x.id) f ms above, rises_map f same ms up.1)

placed : (b : Bool) (m : Message) (place : Place) → (if b then record m { place = place } else m).id ≡ m.id
placed true m place = refl
placed false m place = refl

pub rises_at : (id : ℕ) (to : Message → Place) (ms : List Message) → IdsRise ms → IdsRise (at_message id to ms)
rises_at id to ms up = rises_map (λ (m : Message). if m.id == id then record m { place = to m } else m) (λ m. placed (m.id == id) m (to m)) ms up

pub rises_moved : (ids : List ℕ) (queue at : ℕ) (ms : List Message) → IdsRise ms → IdsRise (after_moved ids queue at ms)
rises_moved ids queue at ms up = rises_map (λ (m : Message). if list_any (λ id. id == m.id) ids then record m { place = moved_place queue at } else m) (λ m. placed (list_any (λ id. id == m.id) ids) m (moved_place queue at)) ms up
